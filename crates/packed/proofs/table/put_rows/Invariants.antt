-- The first `i` rows are in their places.
use Rattle.protocol.specs.Table.{capacity}
use Rattle.packed.proofs.Rows.{PutRows}
use Rattle.packed.proofs.table.put_rows.Given as goal

abbrev pub invariant-loop-i : goal.invariant-loop-i
invariant-loop-i l =
    PutRows capacity l.rows l.initial.bytes l.bytes l.i
