-- The parts are put in one after the other.
use mathlib.Core.Path.{refl}
use native.Mathlib.Omega.{arith}
use Rattle.packed.proofs.Copies.{inside, next}
use Rattle.packed.proofs.sent.put_outgoing.Goals as goal

pub returns : goal.returns
returns c =
    next c.put_names.ensures refl (inside (omega arith) c.put_contents.ensures)
