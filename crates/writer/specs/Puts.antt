-- Bytes put into a lent buffer, as the code does it: a piece for which there is no room may be left out, so that no function needs any.
use Rattle.std.specs.Prelude.{ℕ, ◌+◌, ◌<◌, ◌≤◌, List, ◌≡◌, length}
use Rattle.std.proofs.lemmas.List.Edits.{sets}

-- s' is s with x from an offset on, which ends at r
pub record Put (at r : ℕ) (x s s' : List ℕ) : Type 0 where
  pub is : s' ≡ sets s at x
  pub end : r ≡ at + length x

-- the same wherever there is room for x, and it is no longer than an element can be; s' is as long as s in any case
pub record Puts (at r : ℕ) (x s s' : List ℕ) : Type 0 where
  pub size : length s' ≡ length s
  pub put : at + length x ≤ length s → length x < 65536 → Put at r x s s'
