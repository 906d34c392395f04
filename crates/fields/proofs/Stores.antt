-- A store at a place that the list does not have.
use Prim.Native.Nat.{ℕ, ◌≤◌}
use mathlib.Core.Path.{◌≡◌, sym}
use mathlib.Core.List.{List}
use lib.ListN.{length, set}
use lib.Seq.{set_out}

-- it leaves the list as it was
pub kept : (l : List ℕ) (at v : ℕ) → length l ≤ at → l ≡ set l at v
kept l at v h = sym (set_out l at v h)
