-- What a message at an end entity shows that no row refuses.
use Rattle.std.specs.Prelude.{Ok, Some, None}
use Prim.Native.Nat.{ℕ}
use mathlib.Core.List.{List}
use mathlib.Core.Bool.{Bool, true, false, not, ◌&&◌, ◌||◌}
use mathlib.Core.Path.{◌≡◌, refl, sym, ◌∙◌, ap}
use mathlib.Core.Logic.{◌⊎◌, inl, inr}
use lib.ListN.{length}
use lib.Dec.{eqb}
use Rattle.message.specs.Read.{reading_of}
use Rattle.grammar.specs.declared.Message.{Message}
use Rattle.protocol.specs.Types.{GivenStatus}
use Rattle.protocol.specs.declared.EndEntityInput.{EndEntityInput}
use Rattle.protocol.specs.declared.EnrolmentState.{EnrolmentState}
use Rattle.protocol.specs.declared.Enrolment.{Enrolment}
use Rattle.protocol.specs.declared.EndEntityAnswer.{EndEntityAnswer}
use Rattle.protocol.specs.declared.EnrolmentState.TheVariants.{Asked, Confirming, Declining, Sure, Declined, Failed, Unsettled}
use Rattle.protocol.specs.declared.Outcome.TheVariants as outcome
use Rattle.grammar.specs.Span.{part_of}
use Rattle.protocol.specs.Message.{Fields, fields_of, is_present, status_or0, optional_status}
use Rattle.protocol.specs.States.{is_waiting, is_confirming}
use Rattle.protocol.specs.Refusals.{Row, LowestRow, lowest_row, pass, stop}
use Rattle.protocol.specs.EndEntityRows.{end_entity_rows, responds, acknowledges, reports, one_response, has_status}
use Rattle.protocol.specs.EndEntity.{end_entity_message, end_entity_checked, end_entity_read}
use Rattle.protocol.specs.Confirmation.{Sixteen}
use Rattle.protocol.specs.EnrolmentRules.{Heard, Acknowledges, StatusIs, Reports, Responds}
use Rattle.der.proofs.Auto.{and_left, and_right, or_false_right, or_false_left, or_cases}
use Rattle.protocol.proofs.EndEntityPasses.{response_it, responds_it}
use Rattle.protocol.proofs.Tests.{true_false, not_false, passes, is_id_eq, is_nonce_eq, one_of, eqb_eq, and_false, both, other_than, number_is}
use Rattle.protocol.proofs.RegistrarPromises.{done_refused}
use Rattle.protocol.proofs.ConfirmationMoves.{sixteen, part_of_lem, present-part}

is_waiting_lem : (t : EnrolmentState) → is_waiting t ≡ true → t ≡ Asked
is_waiting_lem Asked e = refl
is_waiting_lem Confirming e = true_false (sym e)
is_waiting_lem Declining e = true_false (sym e)
is_waiting_lem Sure e = true_false (sym e)
is_waiting_lem Declined e = true_false (sym e)
is_waiting_lem Failed e = true_false (sym e)
is_waiting_lem Unsettled e = true_false (sym e)

is-confirming : (t : EnrolmentState) → is_confirming t ≡ true → (t ≡ Confirming) ⊎ (t ≡ Declining)
is-confirming Asked e = true_false (sym e)
is-confirming Confirming e = inl refl
is-confirming Declining e = inr refl
is-confirming Sure e = true_false (sym e)
is-confirming Declined e = true_false (sym e)
is-confirming Failed e = true_false (sym e)
is-confirming Unsettled e = true_false (sym e)

awaited : (t : EnrolmentState) → (is_waiting t ≡ true) ⊎ (is_confirming t ≡ true) → (t ≡ Asked) ⊎ (t ≡ Confirming) ⊎ (t ≡ Declining)
awaited t (inl e) = inl (is_waiting_lem t e)
awaited t (inr e) = inr (is-confirming t e)

module _ (x : Enrolment) (d : EndEntityInput) (bytes : List ℕ) (m : Message) where
  abbrev f : Fields
  f = fields_of bytes m

  abbrev rows : List Row
  rows = end_entity_rows x d.good f

  pub answer_at : reading_of bytes ≡ Ok m → end_entity_message x d bytes ≡ end_entity_checked (lowest_row rows) x d f
  unfolding end_entity_message end_entity_read
  answer_at e = rw e

  module _ (reads : reading_of bytes ≡ Ok m) (e : lowest_row rows ≡ pass) where
    heard : Heard x d bytes m
    unfolding fields_of end_entity_rows
    heard =
        let p : (is_present m.protection && is_present m.header.protection_alg) ≡ true = not_false _ (passes 6 rows e) in
        let i : Sixteen bytes m.header.transaction_id (part_of bytes m.header.transaction_id) = sixteen bytes m.header.transaction_id (passes 4 rows e) in
        let n : Sixteen bytes m.header.sender_nonce (part_of bytes m.header.sender_nonce) = sixteen bytes m.header.sender_nonce (passes 5 rows e) in
        let o : (m.header.transaction_id.start.0 ≡ 0 → ⊥) × (part_of bytes m.header.transaction_id ≡ x.id.bytes) = part_of_lem bytes m.header.transaction_id x.id.bytes (is_present m.header.transaction_id) refl (is_id_eq f.id x.id (not_false _ (passes 12 rows e))) in
        let a : (m.header.recip_nonce.start.0 ≡ 0 → ⊥) × (part_of bytes m.header.recip_nonce ≡ x.last.bytes) = part_of_lem bytes m.header.recip_nonce x.last.bytes (is_present m.header.recip_nonce) refl (is_nonce_eq f.recip_nonce x.last (not_false _ (passes 14 rows e))) in
        record {
          reads = reads;
          version = one_of f.version 2 3 (not_false _ (passes 3 rows e));
          has_id = (i.0, o.1, ap length (sym o.1) ∙ i.2);
          nonce = record { bytes = part_of bytes m.header.sender_nonce };
          sender_nonce = n;
          protection = present-part m.protection (and_left (is_present m.protection) (is_present m.header.protection_alg) p);
          algorithm = present-part m.header.protection_alg (and_right (is_present m.protection) (is_present m.header.protection_alg) p);
          good = not_false d.good (passes 7 rows e);
          recip_present = a.0;
          recip_nonce = a.1;
        }

    -- the three parts of row 20, and the two of row 18
    abbrev A : Bool
    A = responds f && not (is_waiting x.state)

    abbrev B : Bool
    B = acknowledges f && not (is_confirming x.state)

    abbrev C : Bool
    C = reports f && not (is_waiting x.state || is_confirming x.state)

    row_20 : (A || B || C) ≡ false
    unfolding end_entity_rows
    row_20 = passes 20 rows e

    abbrev P : Bool
    P = responds f && one_response f && not (has_status 0 f || has_status 1 f || has_status 2 f)

    abbrev Q : Bool
    Q = reports f && not (has_status 2 f)

    row_18 : (P || Q) ≡ false
    unfolding end_entity_rows
    row_18 = passes 18 rows e

    acknowledged : acknowledges f ≡ true → Acknowledges x m
    unfolding fields_of
    acknowledged k =
        record {
          kind = eqb_eq m.body.kind 19 k;
          state = is-confirming x.state (not_false (is_confirming x.state) (and_false (acknowledges f) (not (is_confirming x.state)) (or_false_right A B (or_false_left (A || B) C row_20)) k));
        }

    status_by : (o : GivenStatus) (s : ℕ) → m.body.entry.status ≡ o → status_or0 (optional_status o) ≡ s → StatusIs m s
    status_by (Some v) s h q = inl (h ∙ ap Some q)
    status_by None s h q = inr (h, sym q)

    reported : reports f ≡ true → Reports x m
    unfolding fields_of
    reported k =
        record {
          kind = eqb_eq m.body.kind 23 k;
          status = status_by m.body.entry.status 2 refl (eqb_eq _ 2 (not_false (has_status 2 f) (and_false (reports f) (not (has_status 2 f)) (or_false_right P Q row_18) k)));
          state = awaited x.state (or_cases (is_waiting x.state) (is_confirming x.state) (not_false _ (and_false (reports f) (not (is_waiting x.state || is_confirming x.state)) (or_false_right (A || B) C row_20) k)));
        }

    known_by : (s : ℕ) → (eqb s 0 || eqb s 1 || eqb s 2) ≡ true → (s ≡ 0) ⊎ (s ≡ 1) ⊎ (s ≡ 2)
    known_by s q = go (or_cases (eqb s 0 || eqb s 1) (eqb s 2) q)
      where
        go : ((eqb s 0 || eqb s 1) ≡ true) ⊎ (eqb s 2 ≡ true) → (s ≡ 0) ⊎ (s ≡ 1) ⊎ (s ≡ 2)
        go (inl z) = left (one_of s 0 1 z)
          where
            left : (s ≡ 0) ⊎ (s ≡ 1) → (s ≡ 0) ⊎ (s ≡ 1) ⊎ (s ≡ 2)
            left (inl y) = inl y
            left (inr y) = inr (inl y)
        go (inr z) = inr (inr (eqb_eq s 2 z))

    responded : acknowledges f ≡ false → reports f ≡ false → Responds x m (status_or0 f.status)
    unfolding fields_of end_entity_rows
    responded p q =
        let r : responds f ≡ true = responds_it x d f e p q in
        let one : one_response f ≡ true = not_false (one_response f) (and_false (responds f) (not (one_response f)) (passes 15 rows e) r) in
        let ro : (responds f && one_response f) ≡ true = both (responds f) (one_response f) r one in
        record {
          kind = response_it x d f e p q;
          entries = eqb_eq f.entries 1 one;
          request = number_is x.kind f.request (eqb_eq f.request _ (not_false _ (and_false (responds f && one_response f) _ (passes 16 rows e) ro)));
          status = status_by m.body.entry.status _ refl refl;
          known = known_by _ (not_false _ (and_false (responds f && one_response f) (not (has_status 0 f || has_status 1 f || has_status 2 f)) (or_false_left P Q row_18) ro));
          state = is_waiting_lem x.state (not_false (is_waiting x.state) (and_false (responds f) (not (is_waiting x.state)) (or_false_left A B (or_false_left (A || B) C row_20)) r));
          certificate = λ z. present-part m.body.entry.certificate (not_false f.certificate (and_false (responds f && not (has_status 2 f)) (not f.certificate) (passes 21 rows e) (both (responds f) (not (has_status 2 f)) r (ap not (other_than (status_or0 f.status) 2 z _ refl)))));
        }

    kinds : (a b : Bool) → acknowledges f ≡ a → reports f ≡ b → Acknowledges x m ⊎ Reports x m ⊎ ((s : ℕ) × Responds x m s)
    kinds true b p q = inl (acknowledged p)
    kinds false true p q = inr (inl (reported q))
    kinds false false p q = inr (inr (status_or0 f.status, responded p q))

    pub taken : Heard x d bytes m × (Acknowledges x m ⊎ Reports x m ⊎ ((s : ℕ) × Responds x m s))
    taken = (heard, kinds (acknowledges f) (reports f) refl refl)

  takes_by : reading_of bytes ≡ Ok m → (c : LowestRow) → lowest_row rows ≡ c → (end_entity_checked c x d f).outcome ≡ outcome.Done → Heard x d bytes m × (Acknowledges x m ⊎ Reports x m ⊎ ((s : ℕ) × Responds x m s))
  unfolding end_entity_checked
  takes_by reads (stop k) e q = done_refused k _ (sym q)
  takes_by reads pass e q = taken reads e

  pub takes-only : reading_of bytes ≡ Ok m → (end_entity_message x d bytes).outcome ≡ outcome.Done → Heard x d bytes m × (Acknowledges x m ⊎ Reports x m ⊎ ((s : ℕ) × Responds x m s))
  takes-only reads q = takes_by reads (lowest_row rows) refl (ap (λ (a : EndEntityAnswer). a.outcome) (sym (answer_at reads)) ∙ q)
