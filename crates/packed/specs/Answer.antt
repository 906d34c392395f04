-- Answers in bytes: how the call ended, the reader's fault, the slot, whether something is to be sent, and what.
use Rattle.std.specs.Prelude.{ℕ, List, [], ◌∷◌, ◌++◌, cond, ◌≡◌, drop, get_or, eqb, ltb, is_some, unwrap_or, Some, None}
use Rattle.message.specs.declared.ReadFault.{ReadFault}
use Rattle.protocol.specs.declared.Outcome.{Outcome}
use Rattle.protocol.specs.declared.Outcome.TheVariants.{Done, Again, Refused}
use Rattle.protocol.specs.declared.RegistrarAnswer.{RegistrarAnswer}
use Rattle.protocol.specs.declared.EndEntityAnswer.{EndEntityAnswer}
use Rattle.protocol.specs.declared.Outgoing.{Outgoing}
use Rattle.protocol.specs.Types.{ToSend}
use Rattle.protocol.specs.Outgoing.{silent}
use Rattle.packed.specs.Bytes.{flag, flag_at, eight_bytes, eight_at}
use Rattle.packed.specs.Places.{answer_code_at, answer_refusal_at, answer_bit_at, answer_fault_at, answer_offset_at, answer_rule_at, registrar_slot_at, registrar_sends_at, registrar_outgoing_at, registrar_end, end_entity_sends_at, end_entity_outgoing_at, end_entity_end}
use Rattle.packed.specs.Outgoing.{failure_number, failure_of, pack_outgoing, outgoing_of}
use Rattle.packed.specs.Table.{table_held}
use Rattle.packed.specs.Enrolment.{enrolment_held}

-- ## How the call ended

abbrev pub outcome_number : Outcome → ℕ
outcome_number Done = 0
outcome_number Again = 1
outcome_number (Refused n f) = 2

-- 0 where it was not refused
abbrev pub refusal_number : Outcome → ℕ
refusal_number Done = 0
refusal_number Again = 0
refusal_number (Refused n f) = n

-- 255: none
abbrev pub refusal_bit : Outcome → ℕ
refusal_bit Done = 255
refusal_bit Again = 255
refusal_bit (Refused n f) = failure_number f

unfoldable pub pack_outcome : Outcome → List ℕ
pack_outcome o = (outcome_number o ∷ []) ++ ((refusal_number o ∷ []) ++ (refusal_bit o ∷ []))

-- ## The reader's fault

unfoldable pub pack_fault : ReadFault → List ℕ
pack_fault f = (f.number ∷ []) ++ (eight_bytes f.at.0 ++ (f.rule ∷ []))

-- ## The answers

-- what stands in the bytes: the message to be sent, or what stands where there is none
abbrev pub sent_or_silent : ToSend → Outgoing
sent_or_silent o = unwrap_or o silent

-- a slot in one byte; 255 stands for all past it, which no table has
abbrev pub slot_byte : ℕ → ℕ
slot_byte n = cond (ltb n 255) n 255

abbrev pub registrar_answer_bytes : ℕ
registrar_answer_bytes = registrar_end

unfoldable pub pack_registrar_answer : RegistrarAnswer → List ℕ
pack_registrar_answer a =
    pack_outcome a.outcome ++ (
    pack_fault a.fault ++ (
    (slot_byte a.slot.0 ∷ []) ++ (
    (flag (is_some a.outgoing) ∷ []) ++
    pack_outgoing (sent_or_silent a.outgoing))))

abbrev pub end_entity_answer_bytes : ℕ
end_entity_answer_bytes = end_entity_end

unfoldable pub pack_end_entity_answer : EndEntityAnswer → List ℕ
pack_end_entity_answer a =
    pack_outcome a.outcome ++ (
    pack_fault a.fault ++ (
    (flag (is_some a.outgoing) ∷ []) ++
    pack_outgoing (sent_or_silent a.outgoing)))

-- ## What the bytes say: of an answer b, with the state s after the call

unfoldable pub outcome_of : List ℕ → Outcome
outcome_of b = cond (eqb (get_or b answer_code_at 0) 0) Done (cond (eqb (get_or b answer_code_at 0) 1) Again (Refused (get_or b answer_refusal_at 0) (failure_of (get_or b answer_bit_at 0))))

abbrev pub read_fault_of : List ℕ → ReadFault
read_fault_of b = record { number = get_or b answer_fault_at 0; at = record { 0 = eight_at answer_offset_at b }; rule = get_or b answer_rule_at 0 }

unfoldable pub registrar_answer_of : (b s : List ℕ) → RegistrarAnswer
registrar_answer_of b s =
    record {
      outcome = outcome_of b;
      fault = read_fault_of b;
      slot = record { 0 = get_or b registrar_slot_at 0 };
      outgoing = cond (flag_at registrar_sends_at b) (Some (outgoing_of (drop registrar_outgoing_at b))) None;
      table = table_held s;
    }

unfoldable pub end_entity_answer_of : (b s : List ℕ) → EndEntityAnswer
end_entity_answer_of b s =
    record {
      outcome = outcome_of b;
      fault = read_fault_of b;
      outgoing = cond (flag_at end_entity_sends_at b) (Some (outgoing_of (drop end_entity_outgoing_at b))) None;
      enrolment = enrolment_held s;
    }

-- for the theorems: no bit is 255
abbrev pub OutcomeBack : Outcome → Type 0
OutcomeBack Done = Unit {0}
OutcomeBack Again = Unit {0}
OutcomeBack (Refused n f) = failure_of (failure_number f) ≡ f
