-- What is to come from here on is what was to come at first.
use Rattle.std.proofs.Common.{◌≡◌}
use Rattle.grammar.specs.Cursor.{left_at}
use Rattle.grammar.specs.Parts.{one_of, all_by}
use Rattle.grammar.proofs.parts.all.Given as goal

abbrev pub invariant-loop-what : goal.invariant-loop-what
invariant-loop-what l =
    all_by (one_of l.m l.what) l.k ≡ all_by (one_of l.m l.what) l.initial.k

abbrev pub decreases-loop-what : goal.decreases-loop-what
decreases-loop-what l =
    left_at l.k
