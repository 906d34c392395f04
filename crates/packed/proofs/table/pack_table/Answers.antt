-- All bytes are replaced, where they are as many.
use Rattle.packed.specs.Table.{pack_table_in}
use Rattle.packed.proofs.Copies.{replaced}
use Rattle.packed.proofs.table.pack_table.Goals as goal

pub returns-then-bytes-eq-TABLE_BYTES : goal.returns-then-bytes-eq-TABLE_BYTES
unfolding pack_table_in
returns-then-bytes-eq-TABLE_BYTES c =
    replaced c.put_rows.ensures c.if-bytes-eq-TABLE_BYTES.true
