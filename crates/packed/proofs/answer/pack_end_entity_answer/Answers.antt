-- The parts are put in one after the other, where there is room.
use mathlib.Core.Path.{refl}
use native.Mathlib.Omega.{arith}
use Rattle.packed.specs.Answer.{pack_end_entity_answer}
use Rattle.packed.proofs.Copies.{inside, next, no_room, room}
use Rattle.packed.proofs.answer.pack_end_entity_answer.Goals as goal

pub returns-then-bytes-lt-END_ENTITY_ANSWER_BYTES : goal.returns-then-bytes-lt-END_ENTITY_ANSWER_BYTES
unfolding pack_end_entity_answer
returns-then-bytes-lt-END_ENTITY_ANSWER_BYTES c =
    no_room _ _ _ _ (omega arith)

pub returns : goal.returns
unfolding pack_end_entity_answer
returns c =
    room (omega arith) (
    next (rw c.outcome_bytes.ensures at c.put.ensures) refl (
    next c.put_fault.ensures refl (
    next (rw c.is_some.ensures at c.put_flag.ensures) refl (inside (omega arith) c.put_sent.ensures))))
