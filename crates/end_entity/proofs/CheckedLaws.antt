-- What becomes of a message that reads, by the number of the row that refuses it; and the nonce that it is answered by.
use Rattle.std.specs.Prelude.{Ok, Err, Option, Some, None}
use Prim.Native.Nat.{ℕ}
use mathlib.Core.List.{List}
use mathlib.Core.Bool.{true, false}
use mathlib.Core.Path.{◌≡◌, sym, ◌∙◌}
use borrow.Author.Tests.{ne_eqb}
use Rattle.grammar.specs.declared.Message.{Message}
use Rattle.message.specs.Read.{reading_of}
use Rattle.message.specs.declared.ReadFault.{ReadFault}
use Rattle.message.specs.Types.{Reading}
use Rattle.protocol.specs.declared.Nonce.{Nonce}
use Rattle.protocol.specs.declared.Enrolment.{Enrolment}
use Rattle.protocol.specs.declared.EnrolmentState.TheVariants.{Failed}
use Rattle.protocol.specs.declared.EndEntityAnswer.{EndEntityAnswer}
use Rattle.protocol.specs.declared.EndEntityInput.{EndEntityInput}
use Rattle.protocol.specs.Bytes.{as_nonce, bytes_of}
use Rattle.grammar.specs.Span.{part_of}
use Rattle.protocol.specs.Message.{Fields, fields_of, is_response, optional_part, status_or0}
use Rattle.protocol.specs.States.{assured, broken_state}
use Rattle.protocol.specs.Refusals.{Row, lowest_row, pass, not_sixteen}
use Rattle.protocol.specs.EndEntityRows.{end_entity_rows}
use Rattle.protocol.specs.EndEntity.{enrolment_refused, enrolment_unread, enrolment_moved, in_state, after_refusal, confirming, end_entity_checked, end_entity_read, end_entity_message}
use Rattle.protocol.proofs.Tests.{passes}
use Rattle.parts.specs.Parts.{sixteen_of}
use Rattle.incoming.specs.Incoming.{number_of, fault_of}
use Rattle.parts.proofs.Laws.{copy_is}
use Rattle.incoming.proofs.RowLaws.{stops_at, passes_all}

module _ (x : Enrolment) (d : EndEntityInput) (m : Fields) where
  abbrev rows : List Row
  rows = end_entity_rows x d.good m

  pub refused_by : {n : Option ℕ} (k : ℕ) → n ≡ number_of (lowest_row rows) → n ≡ Some k → enrolment_refused k (after_refusal k m x) ≡ end_entity_checked (lowest_row rows) x d m
  unfolding end_entity_checked
  refused_by k e z = rw (stops_at (lowest_row rows) k (sym z ∙ e))

  pub passes_it : {n : Option ℕ} → n ≡ number_of (lowest_row rows) → n ≡ None → lowest_row rows ≡ pass
  passes_it e z = passes_all (lowest_row rows) (sym z ∙ e)

  -- ## A message that no row refuses

  abbrev Answers : EndEntityAnswer → Type 0
  Answers a = a ≡ end_entity_checked pass x d m

  pub acknowledged : m.kind ≡ 19 → Answers (enrolment_moved (in_state x (assured x.state)))
  unfolding end_entity_checked
  acknowledged k = rw k

  pub reported : m.kind ≡ 23 → Answers (enrolment_moved (in_state x (broken_state x.state)))
  unfolding end_entity_checked
  reported k = rw k

  module _ (no_pkiconf : m.kind ≡ 19 → ⊥) (no_error : m.kind ≡ 23 → ⊥) where
    pub failed : is_response m.kind ≡ true → status_or0 m.status ≡ 2 → Answers (enrolment_moved (in_state x Failed))
    unfolding end_entity_checked
    failed r s = rw (ne_eqb m.kind 19 no_pkiconf, ne_eqb m.kind 23 no_error, r, s)

    pub confirmed : is_response m.kind ≡ true → (status_or0 m.status ≡ 2 → ⊥) → Answers (confirming x d.accept d.hash d.nonce (as_nonce m.sender_nonce))
    unfolding end_entity_checked
    confirmed r s = rw (ne_eqb m.kind 19 no_pkiconf, ne_eqb m.kind 23 no_error, r, ne_eqb (status_or0 m.status) 2 s)

    pub neither : is_response m.kind ≡ false → Answers (enrolment_refused 8 x)
    unfolding end_entity_checked
    neither r = rw (ne_eqb m.kind 19 no_pkiconf, ne_eqb m.kind 23 no_error, r)

-- ## The response's nonce

-- row 5 did not apply
pub answered : (x : Enrolment) (d : EndEntityInput) (bytes : List ℕ) (m : Message) (n : Nonce) → lowest_row (end_entity_rows x d.good (fields_of bytes m)) ≡ pass → n.bytes ≡ sixteen_of (part_of bytes m.header.sender_nonce) → n ≡ as_nonce (fields_of bytes m).sender_nonce
unfolding fields_of end_entity_rows
answered x d bytes m n e q =
    let s : not_sixteen (optional_part bytes m.header.sender_nonce) ≡ false = passes 5 _ e in
    let p : n.bytes ≡ bytes_of (optional_part bytes m.header.sender_nonce) = q ∙ copy_is bytes m.header.sender_nonce s in
    λ i. record { bytes = p i }

-- ## The reading taken apart

module _ (x : Enrolment) (d : EndEntityInput) (bytes : List ℕ) {r : Reading} (e : r ≡ reading_of bytes) where
  pub unread_at : {f g : ReadFault} → r ≡ Err f → g ≡ fault_of r → enrolment_unread g x ≡ end_entity_message x d bytes
  unfolding end_entity_message end_entity_read
  unread_at q z = rw (z, ← e, q)

  pub read_at : {m : Message} → r ≡ Ok m → end_entity_checked (lowest_row (end_entity_rows x d.good (fields_of bytes m))) x d (fields_of bytes m) ≡ end_entity_message x d bytes
  unfolding end_entity_message end_entity_read
  read_at q = rw (← e, q)
