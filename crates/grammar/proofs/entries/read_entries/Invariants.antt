-- The entries from here on make up all of them; and they are counted.
use Rattle.std.proofs.Common.{◌≡◌}
use Rattle.grammar.specs.Cursor.{left_at}
use Rattle.grammar.specs.Entries.{entries_of}
use Rattle.grammar.proofs.EntryLaws.{entries_from, Counted}
use Rattle.grammar.proofs.entries.read_entries.Given as goal

abbrev pub invariant-loop-what : goal.invariant-loop-what
invariant-loop-what l =
    (entries_from l.m l.what l.e ≡ entries_of l.m l.what l.fn.c) × Counted l.e

abbrev pub decreases-loop-what : goal.decreases-loop-what
decreases-loop-what l =
    left_at l.e.cur
