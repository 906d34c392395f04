-- All bytes are replaced, where they are as many.
use Rattle.packed.specs.Enrolment.{pack_enrolment_in}
use Rattle.packed.proofs.Copies.{replaced}
use Rattle.packed.proofs.enrolment.pack_enrolment.Goals as goal

pub returns-then-bytes-eq-ENROLMENT_BYTES : goal.returns-then-bytes-eq-ENROLMENT_BYTES
unfolding pack_enrolment_in
returns-then-bytes-eq-ENROLMENT_BYTES c =
    replaced c.put_enrolment.ensures c.if-bytes-eq-ENROLMENT_BYTES.true
