-- The calls of both ends over lent bytes: what the bytes stand for goes into the call, and its answer goes back into bytes.
use Rattle.std.specs.Prelude.{ℕ, List, Bool, cond, ◌≡◌, length, eqb, leb, Some, None, is_some, Result, Ok, Err}
use Rattle.protocol.specs.Types.{Verdict}
use Rattle.protocol.specs.declared.TransactionTable.{TransactionTable}
use Rattle.protocol.specs.declared.Enrolment.{Enrolment}
use Rattle.protocol.specs.declared.RegistrarAnswer.{RegistrarAnswer}
use Rattle.protocol.specs.declared.EndEntityAnswer.{EndEntityAnswer}
use Rattle.duskstall.specs.declared.boundary.BoundaryFault.{BoundaryFault}
use Rattle.duskstall.specs.declared.boundary.BoundaryFault.TheVariants.{NoState, Argument, NoRoom}
use Rattle.packed.specs.Bytes.{pack_at}
use Rattle.packed.specs.Table.{unpack_table, table_held, pack_table_in}
use Rattle.packed.specs.Enrolment.{enrolment_bytes, unpack_enrolment, enrolment_held, pack_enrolment_in}
use Rattle.packed.specs.Answer.{outcome_number, registrar_answer_bytes, pack_registrar_answer, end_entity_answer_bytes, pack_end_entity_answer}

-- the number that is returned, the state's bytes and the answer's bytes after a call
pub record Crossing : Type 0 where
  pub code : ℕ
  pub state : List ℕ
  pub answer : List ℕ

pub record Crosses (code : ℕ) (state answer : List ℕ) (x : Crossing) : Type 0 where
  pub code_is : code ≡ x.code
  pub state-is : state ≡ x.state
  pub answer-is : answer ≡ x.answer

-- ## What is wrong with the lent bytes

-- 251: no state; 252: an id, a nonce or a hash of another length; 253: no room for the answer; 0: none of these
abbrev pub boundary_fault : (ok args room : Bool) → ℕ
boundary_fault ok args room = cond ok (cond args (cond room 0 253) 252) 251

abbrev pub fault_number : BoundaryFault → ℕ
fault_number NoState = 251
fault_number Argument = 252
fault_number NoRoom = 253

-- what a call answers, unless there is no state, or an argument has another length
abbrev pub answered_if : {A : Type 0} → (ok args : Bool) → A → Result A BoundaryFault
answered_if ok args a = cond ok (cond args (Ok a) (Err Argument)) (Err NoState)

-- nothing changes
abbrev pub untouched : ℕ → (state answer : List ℕ) → Crossing
untouched k s a = record { code = k; state = s; answer = a }

-- what a call does, unless the bytes are at fault
abbrev pub unless_faulty : ℕ → (state answer : List ℕ) → Crossing → Crossing
unless_faulty k s a x = cond (eqb k 0) x (untouched k s a)

-- likewise, of an answer or of a fault found before
abbrev pub returned : {A : Type 0} → Result A BoundaryFault → (room : Bool) → (A → Crossing) → (state answer : List ℕ) → Crossing
returned (Ok a) room f s b = cond room (f a) (untouched (fault_number NoRoom) s b)
returned (Err e) room f s b = untouched (fault_number e) s b

-- ## The registrar

-- the answer goes back into the bytes
abbrev pub registrar_written : RegistrarAnswer → (state answer : List ℕ) → Crossing
registrar_written a s b = record { code = outcome_number a.outcome; state = pack_table_in a.table s; answer = pack_at 0 registrar_answer_bytes (pack_registrar_answer a) b }

unfoldable pub registrar_answered : (ok args : Bool) → RegistrarAnswer → (state answer : List ℕ) → Crossing
registrar_answered ok args a s b = unless_faulty (boundary_fault ok args (leb registrar_answer_bytes (length b))) s b (registrar_written a s b)

-- a call of the registrar on the table that the bytes stand for
abbrev pub registrar_crossing : (args : Bool) → (TransactionTable → RegistrarAnswer) → (state answer : List ℕ) → Crossing
registrar_crossing args f s b = registrar_answered (is_some (unpack_table s)) args (f (table_held s)) s b

-- ## The end entity

-- the answer goes back into the bytes
abbrev pub end_entity_written : EndEntityAnswer → (state answer : List ℕ) → Crossing
end_entity_written a s b = record { code = outcome_number a.outcome; state = pack_enrolment_in a.enrolment s; answer = pack_at 0 end_entity_answer_bytes (pack_end_entity_answer a) b }

unfoldable pub end_entity_answered : (ok args : Bool) → EndEntityAnswer → (state answer : List ℕ) → Crossing
end_entity_answered ok args a s b = unless_faulty (boundary_fault ok args (leb end_entity_answer_bytes (length b))) s b (end_entity_written a s b)

-- a call of an end entity on the enrolment that the bytes stand for
abbrev pub end_entity_crossing : (args : Bool) → (Enrolment → EndEntityAnswer) → (state answer : List ℕ) → Crossing
end_entity_crossing args f s b = end_entity_answered (is_some (unpack_enrolment s)) args (f (enrolment_held s)) s b

-- where a start is refused, the bytes stay
abbrev pub start_written : EndEntityAnswer → (state answer : List ℕ) → Crossing
start_written a s b =
    record { code = outcome_number a.outcome; state = cond (eqb (outcome_number a.outcome) 0) (pack_enrolment_in a.enrolment s) s; answer = pack_at 0 end_entity_answer_bytes (pack_end_entity_answer a) b }

-- a start needs only bytes as long as an enrolment
unfoldable pub start_crossing : (args : Bool) → EndEntityAnswer → (state answer : List ℕ) → Crossing
start_crossing args a s b = unless_faulty (boundary_fault (eqb (length s) enrolment_bytes) args (leb end_entity_answer_bytes (length b))) s b (start_written a s b)

-- ## What is handed in

-- 1 is yes, every other number no, so that -1, by which others tell a failure, is not good
abbrev pub yes : ℕ → Bool
yes n = eqb n 1

-- likewise: 1 is good, and the board is named; every other number is bad
abbrev pub verdict_of : (good board : ℕ) → Verdict
verdict_of good board = cond (eqb good 1) (Some (record { 0 = board })) None
