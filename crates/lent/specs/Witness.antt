-- Two lists of exported calls over lent bytes on which demand 3 is not idle: one ends Sure with Confirmed, one Declined with Declined.
use Rattle.std.specs.Prelude.{ℕ, List, [], ◌∷◌, ◌≡◌, replicate}
use Rattle.std.proofs.Math.Option.{some}
use Rattle.std.proofs.Math.ListN.{get_elem?}
use Rattle.protocol.specs.Bytes.{zeros}
use Rattle.protocol.specs.Witness.{board, ir_bytes, ip_bytes, accept_bytes, decline_bytes, pki_conf_bytes}
use Rattle.packed.specs.Table.{table_bytes}
use Rattle.packed.specs.Enrolment.{enrolment_bytes}
use Rattle.packed.specs.Answer.{registrar_answer_bytes, end_entity_answer_bytes}
use Rattle.lent.specs.Calls.{RegistrarMessage, RegistrarIssue, EndEntityMessage}
use Rattle.lent.specs.Lent.{LentCall, AtRegistrar, AtEndEntity, EndEntityStart, LentEnrolment, lent_after, lent_beginning}
use Rattle.lent.specs.Places.{enrolment_state}
use Rattle.lent.specs.Header.{FairBytes, HeaderAgreement, InSlot}

-- one enrolment through, all arrays as long as the C header says: start, ir, issue, ip, certConf, pkiconf; the host accepts the certificate (1)
-- or not
abbrev pub lent_enrols : (accept : ℕ) → (cert_conf_bytes : List ℕ) → List LentCall
lent_enrols accept cert_conf_bytes =
    EndEntityStart board (zeros enrolment_bytes) 0 (replicate 16 0x11) (replicate 16 1) (zeros end_entity_answer_bytes)
    ∷ AtRegistrar (RegistrarMessage ir_bytes 1 5 (replicate 16 2)) (zeros registrar_answer_bytes)
    ∷ AtRegistrar (RegistrarIssue (replicate 16 0x11) (replicate 16 3) (replicate 32 0xAB)) (zeros registrar_answer_bytes)
    ∷ AtEndEntity 0 (EndEntityMessage ip_bytes 1 accept (replicate 32 0xAB) (replicate 16 4)) (zeros end_entity_answer_bytes)
    ∷ AtRegistrar (RegistrarMessage cert_conf_bytes 1 5 (replicate 16 5)) (zeros registrar_answer_bytes)
    ∷ AtEndEntity 0 (EndEntityMessage pki_conf_bytes 1 accept (replicate 32 0xAB) (replicate 16 6)) (zeros end_entity_answer_bytes)
    ∷ []

-- from these bytes of an empty table the premises hold, the enrolment says this state, and a slot of the table says it of the transaction
pub record LentEnds (s : List ℕ) (calls : List LentCall) (state : ℕ) : Type 0 where
  pub fair : FairBytes (lent_after (lent_beginning s) calls).past
  pub agrees : HeaderAgreement (lent_after (lent_beginning s) calls)
  pub held : LentEnrolment
  pub holds : get_elem? (lent_after (lent_beginning s) calls).enrolments 0 ≡ some held
  pub says : enrolment_state held.bytes ≡ state
  pub nonce : List ℕ
  pub slot : InSlot (lent_after (lent_beginning s) calls).table held.bytes nonce state

-- 3: Sure, Confirmed; 4: Declined at both ends
pub record LentWitnesses : Type 0 where
  pub accepted : LentEnds (zeros table_bytes) (lent_enrols 1 accept_bytes) 3
  pub declined : LentEnds (zeros table_bytes) (lent_enrols 0 decline_bytes) 4
