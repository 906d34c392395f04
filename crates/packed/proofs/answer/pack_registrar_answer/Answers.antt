-- The parts are put in one after the other, where there is room.
use mathlib.Core.Path.{refl}
use native.Mathlib.Omega.{arith}
use lib.ListN.{length-set}
use Rattle.packed.specs.Answer.{pack_registrar_answer}
use Rattle.packed.proofs.Copies.{inside, next, one_of, no_room, room}
use Rattle.packed.proofs.answer.pack_registrar_answer.Goals as goal

pub returns-then-bytes-lt-REGISTRAR_ANSWER_BYTES : goal.returns-then-bytes-lt-REGISTRAR_ANSWER_BYTES
unfolding pack_registrar_answer
returns-then-bytes-lt-REGISTRAR_ANSWER_BYTES c =
    no_room _ _ _ _ (omega arith)

pub returns : goal.returns
unfolding pack_registrar_answer
returns c =
    room (omega arith) (
    next (rw c.outcome_bytes.ensures at c.put.ensures) refl (
    next c.put_fault.ensures refl (
    next (one_of c.slot_byte.ensures) refl (
    next (rw c.is_some.ensures at c.put_flag.ensures) refl (inside (omega (arith, length-set c.put_fault.new.bytes 13 c.slot_byte.result)) c.put_sent.ensures)))))
