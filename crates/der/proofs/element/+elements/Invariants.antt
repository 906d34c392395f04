-- The loop stands at the first byte of an element: what is checked so far is sound, and what is left decides. The depth falls at each call.
use Prim.Native.Nat.{◌-◌, ◌≤◌}
use mathlib.Core.Path.{◌≡◌}
use lib.ListN.{length, drop}
use Rattle.der.specs.Element.{check_at}
use Rattle.der.proofs.element.+elements.Given as goal

abbrev pub decreases-elements : goal.decreases-elements
decreases-elements l = l.depth

abbrev pub invariant-loop-at : goal.invariant-loop-at
invariant-loop-at l =
    (l.at ≤ length l.m) × (check_at l.depth l.from (drop l.from l.m) ≡ check_at l.depth l.at (drop l.at l.m))

abbrev pub decreases-loop-at : goal.decreases-loop-at
decreases-loop-at l = length l.m - l.at
