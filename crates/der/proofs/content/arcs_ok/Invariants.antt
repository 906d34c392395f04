-- The bytes passed are right, and those to come decide.
use mathlib.Core.Path.{◌≡◌}
use mathlib.Core.Bool.{true}
use lib.ListN.{drop}
use Rattle.der.specs.Content.{arcs_ok}
use Rattle.der.proofs.content.arcs_ok.Given as goal

abbrev pub invariant-loop-x : goal.invariant-loop-x
invariant-loop-x l =
    arcs_ok true l.c ≡ arcs_ok l.fresh (drop l.x-index l.c)
