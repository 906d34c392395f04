-- The parts are put in one after the other.
use mathlib.Core.Path.{refl}
use Rattle.packed.proofs.Copies.{next}
use Rattle.packed.proofs.table.put_transaction.Goals as goal

pub returns : goal.returns
returns c =
    next c.put_request.ensures refl c.put_progress.ensures
