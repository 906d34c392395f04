-- The bytes passed are in the number, and those to come decide.
use Prim.Native.Nat.{◌<◌}
use mathlib.Core.Path.{◌≡◌}
use lib.ListN.{drop}
use Rattle.der.specs.Integer.{shift_in}
use Rattle.der.proofs.integer.shift_in.Given as goal

abbrev pub invariant-loop-x : goal.invariant-loop-x
invariant-loop-x l =
    (l.v < 4294967296) × (shift_in l.first l.s ≡ shift_in l.v (drop l.x-index l.s))
