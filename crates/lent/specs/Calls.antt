-- The exported calls of both ends on lent bytes, but for the start: with any bytes for their arrays and any numbers. The state's bytes and the
-- answer's are lent beside them.
use Rattle.std.specs.Prelude.{ℕ, List, [], ◌∷◌}
use Rattle.std.proofs.Math.Option.{Option, none, some}
use Rattle.protocol.specs.declared.TransactionTable.{TransactionTable}
use Rattle.protocol.specs.declared.Enrolment.{Enrolment}
use Rattle.protocol.specs.declared.RegistrarAnswer.{RegistrarAnswer}
use Rattle.protocol.specs.declared.EndEntityAnswer.{EndEntityAnswer}
use Rattle.protocol.specs.Registrar.{registrar_message, registrar_issue, registrar_refuse, registrar_lapse, registrar_close}
use Rattle.protocol.specs.EndEntity.{end_entity_message, end_entity_time_out}
use Rattle.protocol.specs.Promises.{registrar_numbers, end_entity_numbers, host_numbers}
use Rattle.protocol.specs.Run.{Call, ToRegistrar, ToEndEntity, Issue, Refuse, Lapse, Close, TimeOut}
use Rattle.duskstall.specs.Boundary.{Crossing}
use Rattle.duskstall.specs.Calls.{id_of, fresh_of, hash_of, registrar_input, end_entity_input, registrar_message_crossing, issue_crossing, refuse_crossing, lapse_crossing, close_crossing, end_entity_message_crossing, time_out_crossing}

-- ## The registrar

pub data RegistrarCall : Type 0 where
  RegistrarMessage : (bytes : List ℕ) → (good board : ℕ) → (nonce : List ℕ) → RegistrarCall
  RegistrarIssue : (id nonce hash : List ℕ) → RegistrarCall
  RegistrarRefuse : (id nonce : List ℕ) → RegistrarCall
  RegistrarLapse : (id : List ℕ) → RegistrarCall
  RegistrarClose : (id : List ℕ) → RegistrarCall

-- what it returns and leaves in the lent bytes: the contract of the exported function
abbrev pub registrar_crosses : RegistrarCall → (table answer : List ℕ) → Crossing
registrar_crosses (RegistrarMessage bytes g b n) = registrar_message_crossing bytes g b n
registrar_crosses (RegistrarIssue i n h) = issue_crossing i n h
registrar_crosses (RegistrarRefuse i n) = refuse_crossing i n
registrar_crosses (RegistrarLapse i) = lapse_crossing i
registrar_crosses (RegistrarClose i) = close_crossing i

-- the call on values that it stands for, and what that answers
abbrev pub registrar_step : RegistrarCall → Call
registrar_step (RegistrarMessage bytes g b n) = ToRegistrar bytes (registrar_input g b n)
registrar_step (RegistrarIssue i n h) = Issue (id_of i) (hash_of h) (fresh_of n)
registrar_step (RegistrarRefuse i n) = Refuse (id_of i) (fresh_of n)
registrar_step (RegistrarLapse i) = Lapse (id_of i)
registrar_step (RegistrarClose i) = Close (id_of i)

abbrev pub registrar_answers : RegistrarCall → TransactionTable → RegistrarAnswer
registrar_answers (RegistrarMessage bytes g b n) t = registrar_message t (registrar_input g b n) bytes
registrar_answers (RegistrarIssue i n h) t = registrar_issue t (id_of i) (fresh_of n) (hash_of h)
registrar_answers (RegistrarRefuse i n) t = registrar_refuse t (id_of i) (fresh_of n)
registrar_answers (RegistrarLapse i) t = registrar_lapse t (id_of i)
registrar_answers (RegistrarClose i) t = registrar_close t (id_of i)

-- the numbers of its refusals
abbrev pub registrar_refusals : RegistrarCall → List ℕ
registrar_refusals (RegistrarMessage bytes g b n) = registrar_numbers
registrar_refusals (RegistrarIssue i n h) = host_numbers
registrar_refusals (RegistrarRefuse i n) = host_numbers
registrar_refusals (RegistrarLapse i) = host_numbers
registrar_refusals (RegistrarClose i) = host_numbers

-- the id that a close names
abbrev pub closing : RegistrarCall → Option (List ℕ)
closing (RegistrarMessage bytes g b n) = none
closing (RegistrarIssue i n h) = none
closing (RegistrarRefuse i n) = none
closing (RegistrarLapse i) = none
closing (RegistrarClose i) = some i

-- ## An end entity

pub data EndEntityCall : Type 0 where
  EndEntityMessage : (bytes : List ℕ) → (good accept : ℕ) → (hash nonce : List ℕ) → EndEntityCall
  EndEntityTimeOut : EndEntityCall

abbrev pub end_entity_crosses : EndEntityCall → (enrolment answer : List ℕ) → Crossing
end_entity_crosses (EndEntityMessage bytes g a h n) = end_entity_message_crossing bytes g a h n
end_entity_crosses EndEntityTimeOut = time_out_crossing

abbrev pub end_entity_step : (place : ℕ) → EndEntityCall → Call
end_entity_step k (EndEntityMessage bytes g a h n) = ToEndEntity k bytes (end_entity_input g a h n)
end_entity_step k EndEntityTimeOut = TimeOut k

abbrev pub end_entity_answers : EndEntityCall → Enrolment → EndEntityAnswer
end_entity_answers (EndEntityMessage bytes g a h n) x = end_entity_message x (end_entity_input g a h n) bytes
end_entity_answers EndEntityTimeOut x = end_entity_time_out x

abbrev pub end_entity_refusals : EndEntityCall → List ℕ
end_entity_refusals (EndEntityMessage bytes g a h n) = end_entity_numbers
end_entity_refusals EndEntityTimeOut = 31 ∷ []
