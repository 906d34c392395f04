-- A message at an end entity that has what it needs is refused by no row, and does what 01 says.
use Rattle.std.specs.Prelude.{Some}
use Prim.Native.Nat.{ℕ}
use mathlib.Core.List.{List}
use mathlib.Core.Bool.{Bool, true, false, not, ◌&&◌, ◌||◌}
use mathlib.Core.Option.{Option}
use mathlib.Core.Path.{◌≡◌, refl, sym, ◌∙◌, ap}
use mathlib.Core.Logic.{◌⊎◌, inl, inr}
use native.Mathlib.Decide.{ℕ_discrete}
use lib.Dec.{eqb}
use Rattle.grammar.specs.declared.Message.{Message}
use Rattle.protocol.specs.Types.{GivenStatus}
use Rattle.protocol.specs.declared.EndEntityInput.{EndEntityInput}
use Rattle.protocol.specs.declared.EnrolmentState.{EnrolmentState}
use Rattle.protocol.specs.declared.Enrolment.{Enrolment}
use Rattle.protocol.specs.declared.EnrolmentState.TheVariants.{Asked, Confirming, Declining, Failed, Unsettled}
use Rattle.protocol.specs.Bytes.{is_id, is_nonce, as_nonce}
use Rattle.protocol.specs.Message.{Fields, fields_of, status_or0, optional_status, is_response, response_to, request_number}
use Rattle.protocol.specs.States.{is_confirming, assured, is_waiting, broken_state}
use Rattle.protocol.specs.Refusals.{pass, LowestRow}
use Rattle.protocol.specs.EndEntityRows.{other_id, other_nonce, other_answer, not_one_response, other_number, bad_status, not_awaited, no_certificate, end_entity_rows, responds, reports, one_response, acknowledges, has_status}
use Rattle.protocol.specs.EndEntity.{end_entity_message, end_entity_checked, confirming, response_taken}
use Rattle.protocol.specs.EnrolmentRules.{Heard, StatusIs, Acknowledges, becomes, certifies, Reports, Responds, EnrolmentRule}
use Rattle.protocol.proofs.Tests.{holds_not, same_bytes_refl, true_false, off_left, off_right, same_number_lem, or_true, other_than, response_kinds, is-response, is_number}
use Rattle.protocol.proofs.Carried.{part_there}
use Rattle.protocol.proofs.Rows.{check-is, skip, through}
use Rattle.protocol.proofs.HeadRows.{passes_head}
use Rattle.protocol.proofs.ConfirmationMoves.{part-present}
use Rattle.protocol.proofs.EnrolmentTakes.{answer_at, takes-only}

module _ (x : Enrolment) (d : EndEntityInput) (bytes : List ℕ) (m : Message) (c : Heard x d bytes m) where
  abbrev f : Fields
  f = fields_of bytes m

  -- ## The rows that every message passes

  own_off : other_id x f ≡ false
  unfolding fields_of
  own_off = holds_not (is_id f.id x.id) (ap (λ (z : Option (List ℕ)). is_id z x.id) (part_there bytes m.header.transaction_id x.id.bytes (c.has_id.0, c.has_id.1)) ∙ same_bytes_refl x.id.bytes)

  last_off : other_nonce x f ≡ false
  unfolding fields_of
  last_off = holds_not (is_nonce f.recip_nonce x.last) (ap (λ (z : Option (List ℕ)). is_nonce z x.last) (part_there bytes m.header.recip_nonce x.last.bytes (c.recip_present, c.recip_nonce)) ∙ same_bytes_refl x.last.bytes)

  -- ## The others, and the answer

  passed : other_answer x f ≡ false → not_one_response f ≡ false → other_number x f ≡ false → bad_status f ≡ false → not_awaited x f ≡ false → no_certificate f ≡ false → end_entity_message x d bytes ≡ end_entity_checked pass x d f
  unfolding end_entity_rows
  passed r8 r15 r16 r18 r20 r21 =
      answer_at x d bytes m c.reads
      ∙ ap (λ (k : LowestRow). end_entity_checked k x d f)
      (check-is (passes_head bytes m c.version c.has_id c.sender_nonce c.protection c.algorithm c.good (skip r8 (skip own_off (skip last_off (skip r15 (skip r16 (skip r18 (skip r20 (skip r21 through))))))))))

  nonce-is : as_nonce f.sender_nonce ≡ c.nonce
  unfolding fields_of
  nonce-is = ap as_nonce (part_there bytes m.header.sender_nonce c.nonce.bytes (c.sender_nonce.0, c.sender_nonce.1))

  status-at : (s : ℕ) → StatusIs m s → status_or0 (optional_status m.body.entry.status) ≡ s
  status-at s (inl g) = ap (λ (o : GivenStatus). status_or0 (optional_status o)) g
  status-at s (inr g) = ap (λ (o : GivenStatus). status_or0 (optional_status o)) g.0 ∙ sym g.1

  status-is : (s : ℕ) → StatusIs m s → status_or0 f.status ≡ s
  unfolding fields_of
  status-is s g = status-at s g

  or_off : (a b : Bool) → a ≡ false → b ≡ false → (a || b) ≡ false
  or_off a b p q = rw (p, q)

  -- ## pkiconf

  module _ (k : Acknowledges x m) where
    kind_19 : f.kind ≡ 19
    unfolding fields_of
    kind_19 = k.kind

    responds_off : responds f ≡ false
    responds_off = ap is_response kind_19

    reports_off : reports f ≡ false
    reports_off = ap (λ (n : ℕ). eqb n 23) kind_19

    confirming_it : (t : EnrolmentState) → (t ≡ Confirming) ⊎ (t ≡ Declining) → is_confirming t ≡ true
    confirming_it t (inl e) = rw e
    confirming_it t (inr e) = rw e

    acknowledged : end_entity_message x d bytes ≡ becomes x (assured x.state)
    unfolding end_entity_checked
    acknowledged =
        passed
        (ap (λ (n : ℕ). not (eqb n 19 || eqb n 23 || eqb n (response_to x.kind))) kind_19)
        (off_left (responds f) _ responds_off)
        (off_left (responds f && one_response f) _ (off_left (responds f) _ responds_off))
        (or_off _ _ (off_left (responds f && one_response f) _ (off_left (responds f) _ responds_off)) (off_left (reports f) _ reports_off))
        (or_off _ _ (or_off _ _ (off_left (responds f) _ responds_off) (off_right (acknowledges f) _ (holds_not (is_confirming x.state) (confirming_it x.state k.state)))) (off_left (reports f) _ reports_off))
        (off_left (responds f && not (has_status 2 f)) _ (off_left (responds f) _ responds_off))
        ∙ rw kind_19

  -- ## An error

  module _ (k : Reports x m) where
    kind_23 : f.kind ≡ 23
    unfolding fields_of
    kind_23 = k.kind

    no_response : responds f ≡ false
    no_response = ap is_response kind_23

    no_pkiconf : acknowledges f ≡ false
    no_pkiconf = ap (λ (n : ℕ). eqb n 19) kind_23

    between_it : (t : EnrolmentState) → (t ≡ Asked) ⊎ (t ≡ Confirming) ⊎ (t ≡ Declining) → (is_waiting t || is_confirming t) ≡ true
    between_it t (inl e) = rw e
    between_it t (inr (inl e)) = rw e
    between_it t (inr (inr e)) = rw e

    reported : end_entity_message x d bytes ≡ becomes x (broken_state x.state)
    unfolding end_entity_checked
    reported =
        passed
        (ap (λ (n : ℕ). not (eqb n 19 || eqb n 23 || eqb n (response_to x.kind))) kind_23)
        (off_left (responds f) _ no_response)
        (off_left (responds f && one_response f) _ (off_left (responds f) _ no_response))
        (or_off _ _ (off_left (responds f && one_response f) _ (off_left (responds f) _ no_response)) (off_right (reports f) _ (holds_not (has_status 2 f) (same_number_lem (status_or0 f.status) 2 (status-is 2 k.status)))))
        (or_off _ _ (or_off _ _ (off_left (responds f) _ no_response) (off_left (acknowledges f) _ no_pkiconf)) (off_right (reports f) _ (holds_not _ (between_it x.state k.state))))
        (off_left (responds f && not (has_status 2 f)) _ (off_left (responds f) _ no_response))
        ∙ rw kind_23

  -- ## A response

  module _ (s : ℕ) (k : Responds x m s) where
    kind-is : f.kind ≡ response_to x.kind
    unfolding fields_of
    kind-is = k.kind

    not_pkiconf : acknowledges f ≡ false
    not_pkiconf = ap (λ (n : ℕ). eqb n 19) kind-is ∙ response_kinds (λ (n : ℕ). eqb n 19 ≡ false) refl refl refl x.kind

    not_error : reports f ≡ false
    not_error = ap (λ (n : ℕ). eqb n 23) kind-is ∙ response_kinds (λ (n : ℕ). eqb n 23 ≡ false) refl refl refl x.kind

    is_a_response : responds f ≡ true
    is_a_response = ap is_response kind-is ∙ is-response x.kind

    known_it : (n : ℕ) → (n ≡ 0) ⊎ (n ≡ 1) ⊎ (n ≡ 2) → (eqb n 0 || eqb n 1 || eqb n 2) ≡ true
    known_it n (inl e) = rw e
    known_it n (inr (inl e)) = rw e
    known_it n (inr (inr e)) = rw e

    one_it : one_response f ≡ true
    unfolding fields_of
    one_it = same_number_lem f.entries 1 k.entries

    number_it : f.request ≡ request_number x.kind
    unfolding fields_of
    number_it = is_number x.kind f.request k.request

    certificate_off : Dec (s ≡ 2) → no_certificate f ≡ false
    unfolding fields_of
    certificate_off (yes e) = off_left (responds f && not (has_status 2 f)) _ (off_right (responds f) _ (holds_not (has_status 2 f) (same_number_lem (status_or0 f.status) 2 (status-is s k.status ∙ e))))
    certificate_off (no z) = off_right (responds f && not (has_status 2 f)) _ (holds_not f.certificate (part-present m.body.entry.certificate (k.certificate z)))

    response-taken : end_entity_message x d bytes ≡ response_taken x d f
    unfolding end_entity_checked
    response-taken =
        passed
        (holds_not _ (or_true (acknowledges f || reports f) (eqb f.kind (response_to x.kind)) (same_number_lem f.kind (response_to x.kind) kind-is)))
        (off_right (responds f) _ (holds_not (one_response f) one_it))
        (off_right (responds f && one_response f) _ (holds_not _ (same_number_lem f.request (request_number x.kind) number_it)))
        (or_off _ _ (off_right (responds f && one_response f) _ (holds_not _ (ap (λ (n : ℕ). eqb n 0 || eqb n 1 || eqb n 2) (status-is s k.status) ∙ known_it s k.known))) (off_left (reports f) _ not_error))
        (or_off _ _ (or_off _ _ (off_right (responds f) _ (holds_not (is_waiting x.state) (rw k.state))) (off_left (acknowledges f) _ not_pkiconf)) (off_left (reports f) _ not_error))
        (certificate_off (ℕ_discrete s 2))
        ∙ rw (not_pkiconf, not_error, is_a_response)

  refused_it : Responds x m 2 → end_entity_message x d bytes ≡ becomes x Failed
  refused_it k = response-taken 2 k ∙ rw (status-is 2 k.status)

  decided_it : (s : ℕ) → Responds x m s → (s ≡ 2 → ⊥) → end_entity_message x d bytes ≡ confirming x d.accept d.hash d.nonce c.nonce
  decided_it s k z = response-taken s k ∙ rw (status-is s k.status, other_than s 2 z _ refl, nonce-is)

pub enrolment_rule : (x : Enrolment) (d : EndEntityInput) (bytes : List ℕ) (m : Message) → EnrolmentRule x d bytes m
enrolment_rule x d bytes m =
    record {
      takes = takes-only x d bytes m;
      sure = λ c k e. acknowledged x d bytes m c k ∙ ap (λ (t : EnrolmentState). becomes x (assured t)) e;
      declined = λ c k e. acknowledged x d bytes m c k ∙ ap (λ (t : EnrolmentState). becomes x (assured t)) e;
      failed = λ c k e. reported x d bytes m c k ∙ ap (λ (t : EnrolmentState). becomes x (broken_state t)) e;
      unsettled = λ c k e. reported x d bytes m c k ∙ ap (becomes x) (broken_between x.state e);
      refused = λ c k. refused_it x d bytes m c k;
      accepted = λ c s k z a. decided_it x d bytes m c s k z ∙ ap (λ (b : Bool). confirming x b d.hash d.nonce c.nonce) a ∙ ap (λ (q : ℕ). certifies x d c.nonce q Confirming 0) (numbered k);
      rejected = λ c s k z a. decided_it x d bytes m c s k z ∙ ap (λ (b : Bool). confirming x b d.hash d.nonce c.nonce) a ∙ ap (λ (q : ℕ). certifies x d c.nonce q Declining 2) (numbered k);
    }
  where
    -- the response has the number that the certConf is sent with
    numbered : {s : ℕ} → Responds x m s → request_number x.kind ≡ m.body.entry.number
    numbered k = sym (is_number x.kind _ k.request)

    broken_between : (t : EnrolmentState) → (t ≡ Confirming) ⊎ (t ≡ Declining) → broken_state t ≡ Unsettled
    broken_between t (inl e) = rw e
    broken_between t (inr e) = rw e
