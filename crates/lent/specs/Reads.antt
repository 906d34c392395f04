-- What is read out of the bytes after a call that was made is the answer of the call on values, all of it: what is proved of answers holds of the bytes.
use Rattle.std.specs.Prelude.{ℕ, List, true, cond, ◌≡◌, length, drop, eqb, Some, None, is_some}
use Rattle.std.proofs.Math.ListN.{get_elem?}
use Rattle.protocol.specs.declared.TransactionTable.{TransactionTable}
use Rattle.protocol.specs.declared.Enrolment.{Enrolment}
use Rattle.protocol.specs.declared.RegistrarAnswer.{RegistrarAnswer}
use Rattle.protocol.specs.declared.EndEntityAnswer.{EndEntityAnswer}
use Rattle.protocol.specs.EndEntity.{end_entity_start}
use Rattle.protocol.specs.Promises.{AtMostOne, AllUnsetZero}
use Rattle.packed.specs.Bytes.{flag_at}
use Rattle.packed.specs.Outgoing.{outgoing_of}
use Rattle.packed.specs.Answer.{sent_or_silent, outcome_number, outcome_of, read_fault_of, registrar_answer_of, end_entity_answer_of}
use Rattle.packed.specs.Table.{table_bytes, table_held}
use Rattle.packed.specs.Enrolment.{enrolment_held}
use Rattle.duskstall.specs.Boundary.{Crossing}
use Rattle.duskstall.specs.Calls.{id_of, fresh_of}
use Rattle.lent.specs.HeaderPlaces.{registrar_outgoing_place, end_entity_sends_place, end_entity_outgoing_place}
use Rattle.lent.specs.Calls.{registrar_answers, end_entity_answers}
use Rattle.lent.specs.Lent.{LentCall, AtRegistrar, AtEndEntity, EndEntityStart, LentWorld, held_bytes, crossing, is_made, lent_after, lent_beginning}
use Rattle.lent.specs.Kept.{LentPromise}
use Rattle.lent.specs.Places.{outgoing_kind, outgoing_id, outgoing_sender_nonce, outgoing_has_recip_nonce, outgoing_recip_nonce, outgoing_has_status, outgoing_status, outgoing_hash, outgoing_failure, outgoing_has_cert_req_id, outgoing_cert_req_id}

abbrev pub registrar_read_back : Crossing → RegistrarAnswer
registrar_read_back x = registrar_answer_of x.answer x.state

abbrev pub end_entity_read_back : Crossing → EndEntityAnswer
end_entity_read_back x = end_entity_answer_of x.answer x.state

abbrev pub table_in : LentWorld → TransactionTable
table_in w = table_held w.table

abbrev pub enrolment_in : LentWorld → ℕ → Enrolment
enrolment_in w k = enrolment_held (held_bytes (get_elem? w.enrolments k))

-- what a call returned, and what it left in the bytes, say the answer; where nothing is to be sent, zeros stand in the message's place
pub record RegistrarReads (x : Crossing) (a : RegistrarAnswer) : Type 0 where
  pub code : x.code ≡ outcome_number a.outcome
  pub answer : registrar_read_back x ≡ a
  pub outgoing : outgoing_of (drop registrar_outgoing_place x.answer) ≡ sent_or_silent a.outgoing

pub record EndEntityReads (x : Crossing) (a : EndEntityAnswer) : Type 0 where
  pub code : x.code ≡ outcome_number a.outcome
  pub answer : end_entity_read_back x ≡ a
  pub outgoing : outgoing_of (drop end_entity_outgoing_place x.answer) ≡ sent_or_silent a.outgoing

-- of a start; one that is refused leaves no enrolment to read
pub record StartReads (x : Crossing) (a : EndEntityAnswer) : Type 0 where
  pub code : x.code ≡ outcome_number a.outcome
  pub outcome : outcome_of x.answer ≡ a.outcome
  pub fault : read_fault_of x.answer ≡ a.fault
  pub sends : flag_at end_entity_sends_place x.answer ≡ is_some a.outgoing
  pub outgoing : outgoing_of (drop end_entity_outgoing_place x.answer) ≡ sent_or_silent a.outgoing
  pub enrolment : x.code ≡ 0 → enrolment_held x.state ≡ a.enrolment

abbrev pub ReadsBack : LentWorld → LentCall → Type 0
ReadsBack w (AtRegistrar c a) = RegistrarReads (crossing w (AtRegistrar c a)) (registrar_answers c (table_in w))
ReadsBack w (AtEndEntity k c a) = EndEntityReads (crossing w (AtEndEntity k c a)) (end_entity_answers c (enrolment_in w k))
ReadsBack w (EndEntityStart b s k i n a) = StartReads (crossing w (EndEntityStart b s k i n a)) (end_entity_start k (id_of i) (fresh_of n))

-- on any bytes at all
abbrev pub LentReads : Type 0
LentReads = (w : LentWorld) (c : LentCall) → is_made (crossing w c).code ≡ true → ReadsBack w c

-- ## After any list of calls over lent bytes

pub record SoundBytes (w : LentWorld) : Type 0 where
  pub one : AtMostOne (table_in w)
  pub unset : AllUnsetZero (table_in w)
  -- a call leaves the bytes as it should, whatever bytes are lent beside them
  pub promise : (c : LentCall) → LentPromise w c

abbrev pub LentSound : Type 0
LentSound = (s : List ℕ) → length s ≡ table_bytes → (calls : List LentCall) → SoundBytes (lent_after (lent_beginning s) calls)

-- ## A message to be sent, at the places of the C header

-- what is read out of these bytes is what stands at DUSKSTALL_OUTGOING_*
pub record OutgoingInPlace (o : List ℕ) : Type 0 where
  pub kind : (outgoing_of o).kind ≡ outgoing_kind o
  pub id : (outgoing_of o).id.bytes ≡ outgoing_id o
  pub sender_nonce : (outgoing_of o).sender_nonce.bytes ≡ outgoing_sender_nonce o
  pub has_recip_nonce : (outgoing_of o).has_recip_nonce ≡ eqb (outgoing_has_recip_nonce o) 1
  pub recip_nonce : (outgoing_of o).recip_nonce.bytes ≡ outgoing_recip_nonce o
  pub has_status : (outgoing_of o).contents.has_status ≡ eqb (outgoing_has_status o) 1
  pub status : (outgoing_of o).contents.status ≡ outgoing_status o
  pub hash : (outgoing_of o).contents.hash.bytes ≡ outgoing_hash o
  pub failure : (outgoing_of o).contents.failure ≡ cond (eqb (outgoing_failure o) 255) None (Some (outgoing_failure o))
  pub has_cert_req_id : (outgoing_of o).contents.has_number ≡ eqb (outgoing_has_cert_req_id o) 1
  pub cert_req_id : (outgoing_of o).contents.number ≡ outgoing_cert_req_id o

abbrev pub AllOutgoingInPlace : Type 0
AllOutgoingInPlace = (o : List ℕ) → OutgoingInPlace o
