-- The parts are put in one after the other.
use mathlib.Core.Path.{refl}
use Rattle.packed.specs.Enrolment.{pack_enrolment}
use Rattle.packed.proofs.Copies.{next, one, one_of}
use Rattle.packed.proofs.enrolment.put_enrolment.Goals as goal

pub returns : goal.returns
unfolding pack_enrolment
returns c =
    next c.put.ensures refl (
    next one refl (
    next c.put-2.ensures refl (
    next c.put-3.ensures refl (
    next c.put-4.ensures refl (one_of c.state_number.ensures)))))
