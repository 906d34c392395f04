-- The first `i` rows are read, and their state bytes are states.
use Rattle.protocol.specs.Table.{capacity}
use Rattle.packed.specs.Table.{rows_of}
use Rattle.packed.proofs.Copies.{Filled}
use Rattle.packed.proofs.Rows.{Checked}
use Rattle.packed.proofs.table.get_table.Given as goal

abbrev pub invariant-loop-i : goal.invariant-loop-i
invariant-loop-i l =
    Filled capacity (rows_of capacity l.bytes) l.initial.table.transactions l.table.transactions l.i × Checked capacity l.bytes l.i
