use mathlib.Core.Path.{refl}
use native.Mathlib.Omega.{arith}
use Rattle.packed.specs.Table.{pack_rows}
use Rattle.packed.proofs.Copies.{inside}
use Rattle.packed.proofs.Rows.{put-row, put_all_rows}
use Rattle.packed.proofs.table.put_rows.Goals as goal

pub loop-i-init : goal.loop-i-init
unfolding pack_rows
loop-i-init c =
    record { below = omega arith; put = record { is = refl; size = refl } }

pub loop-i-preserved : goal.loop-i-preserved
loop-i-preserved c =
    put-row c.loop-i.invariant (omega arith) (omega arith) _ (inside (omega arith) c.put_transaction.ensures)

pub returns : goal.returns
returns c =
    put_all_rows c.loop-i.invariant (omega arith) (omega arith)
