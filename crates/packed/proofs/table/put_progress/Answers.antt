-- The parts are put in one after the other.
use mathlib.Core.Path.{refl}
use Rattle.packed.specs.Table.{pack_progress}
use Rattle.packed.proofs.Copies.{next, one_of}
use Rattle.packed.proofs.table.put_progress.Goals as goal

pub returns : goal.returns
unfolding pack_progress
returns c =
    next c.put.ensures refl (
    next c.put-2.ensures refl (
    next c.put-3.ensures refl (one_of c.state_number.ensures)))
