use Rattle.der.proofs.Auto.{told}
use Rattle.grammar.proofs.EntryLaws.{one_more}
use Rattle.grammar.proofs.entries.read_entries.Goals as goal

pub loop-what-preserved : goal.loop-what-preserved
loop-what-preserved c = one_more _ _ _ c.loop-what.invariant (told c.more.ensures c.loop-what-test.true) c.next_entry-e.ensures
