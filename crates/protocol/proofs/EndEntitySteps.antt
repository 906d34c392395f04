-- Each call on an enrolment shows an EndEntityStep: a time out and a message.
use Rattle.std.specs.Prelude.{Ok, Err}
use Prim.Native.Nat.{ℕ}
use mathlib.Core.List.{List}
use mathlib.Core.Bool.{Bool, true, false, not, ◌&&◌, ◌||◌}
use mathlib.Core.Option.{none, some}
use mathlib.Core.Path.{◌≡◌, refl, sym, ◌∙◌, ap}
use mathlib.Core.Logic.{inl, inr}
use lib.ListN.{set}
use lib.Dec.{eqb}
use Rattle.message.specs.Read.{reading_of}
use Rattle.grammar.specs.declared.Message.{Message}
use Rattle.message.specs.Types.{Reading}
use Rattle.protocol.specs.declared.Nonce.{Nonce}
use Rattle.protocol.specs.declared.FreshNonce.{FreshNonce}
use Rattle.protocol.specs.declared.Hash.{Hash}
use Rattle.protocol.specs.declared.EndEntityInput.{EndEntityInput}
use Rattle.protocol.specs.declared.EnrolmentState.{EnrolmentState}
use Rattle.protocol.specs.declared.Outgoing.{Outgoing}
use Rattle.protocol.specs.declared.EndEntityAnswer.{EndEntityAnswer}
use Rattle.protocol.specs.declared.EnrolmentState.TheVariants.{Failed}
use Rattle.protocol.specs.Bytes.{as_nonce}
use Rattle.protocol.specs.Message.{fields_of, Fields, pki_conf, status_or0}
use Rattle.protocol.specs.Outgoing.{cert_conf_out}
use Rattle.protocol.specs.States.{broken_state, assured, is_waiting, decision, decided, is_confirming}
use Rattle.protocol.specs.Refusals.{lowest_row, Row, pass, LowestRow, stop, read_refusal}
use Rattle.protocol.specs.EndEntityRows.{end_entity_rows, acknowledges, reports, responds}
use Rattle.protocol.specs.EndEntity.{enrolment_refused, in_state, enrolment_moved, confirmed_enrolment, confirming, end_entity_time_out, end_entity_checked, after_refusal, end_entity_read, end_entity_message}
use Rattle.protocol.specs.Run.{Event, TheRegistrar, World, BoardEnrolment, sent_by, ToEndEntity}
use Rattle.protocol.specs.Agreement.{Issued, IssuedReading, ByGood, Carries, SenderIssued}
use Rattle.der.proofs.Auto.{or_false_left}
use Rattle.protocol.proofs.Tests.{none_some, true_false, some_some, cases, not_false, passes, is_id_eq, is_nonce_eq, eqb_eq, and_false}
use Rattle.protocol.proofs.EnrolmentStates.{stands_for, has_confirmed, is_answered, broken_stands, broken_confirmed, broken_answered, assured_stands, assured-confirmed, waiting_stands, decided_stands, decided-status, decided_open}
use Rattle.protocol.proofs.Carried.{id_read, kind_read, recip_read}
use Rattle.protocol.proofs.Invariant.{Inv, At, EndEntityStep, Sent, Answered}
use Rattle.protocol.proofs.EndEntityPasses.{answered_by as passes-by}
use Rattle.protocol.proofs.EndEntityForms.{board-one, kept_same}

-- the premise, by the verdict and the reading
abbrev ByReading : Bool → List ℕ → Reading → List Event → Type 0
ByReading false bytes r past = Unit {0}
ByReading true bytes r past = IssuedReading TheRegistrar bytes r past

by_reading : (g : Bool) (bytes : List ℕ) (past : List Event) → ByGood g bytes past → ByReading g bytes (reading_of bytes) past
by_reading false bytes past q = tt
by_reading true bytes past q = q

module _ (w : World) (v : Inv w) (k : ℕ) (x : BoardEnrolment) (here : At w.enrolments k x) where
  abbrev pub EnrolmentStep : EndEntityAnswer → Type 0
  EnrolmentStep a = EndEntityStep w.past w.enrolments (set w.enrolments k (record { board = x.board; enrolment = a.enrolment })) x.board (sent_by a.outgoing) none

  refused : (n : ℕ) → EnrolmentStep (enrolment_refused n x.enrolment)
  refused n = board-one w v k x x none here (kept_same x) (λ p e c. none_some e) (λ s t. inr (v.sent k x s here t)) (v.answered k x here)

  -- a new state, and the rest as it was
  abbrev into : EnrolmentState → BoardEnrolment
  into t = record { board = x.board; enrolment = in_state x.enrolment t }

  sent_still : (t : EnrolmentState) (s : ℕ) → Sent w.past x s → Sent w.past (into t) s
  sent_still t s c = record { message = c.message; issued = c.issued; kind = c.kind; id = c.id; sender = c.sender; hash = c.hash; status = c.status }

  moved :
      (t : EnrolmentState) → ((s : ℕ) → stands_for x.enrolment.state s ≡ true → stands_for t s ≡ true) →
      ((s : ℕ) → has_confirmed t s ≡ true → has_confirmed x.enrolment.state s ≡ true) →
      (is_answered t ≡ true → Answered w.past (into t)) → EnrolmentStep (enrolment_moved (in_state x.enrolment t))
  moved t f g a =
      board-one
      w
      v
      k
      x
      (into t)
      none
      here
      (record { board = refl; id = refl; stands = λ s h. (refl, refl, f s h) })
      (λ p e c. none_some e)
      (λ s h. inr (sent_still t s (v.sent k x s here (g s h))))
      a

  answered_still : (t : EnrolmentState) → Answered w.past x → Answered w.past (into t)
  answered_still t c = record { message = c.message; issued = c.issued; kind = c.kind; id = c.id; recip = c.recip }

  breaks : EnrolmentStep (enrolment_moved (in_state x.enrolment (broken_state x.enrolment.state)))
  breaks =
      moved
      (broken_state x.enrolment.state)
      (λ s. broken_stands x.enrolment.state s)
      (λ s. broken_confirmed x.enrolment.state s)
      (λ e. answered_still (broken_state x.enrolment.state) (v.answered k x here (broken_answered x.enrolment.state e)))

  assures : Answered w.past x → EnrolmentStep (enrolment_moved (in_state x.enrolment (assured x.enrolment.state)))
  assures a =
      moved
      (assured x.enrolment.state)
      (λ s. assured_stands x.enrolment.state s)
      (λ s. assured-confirmed x.enrolment.state s)
      (λ e. answered_still (assured x.enrolment.state) a)

  fails : is_waiting x.enrolment.state ≡ true → EnrolmentStep (enrolment_moved (in_state x.enrolment Failed))
  fails u = moved Failed (λ s h. absurd (waiting_stands x.enrolment.state s u h)) (λ s h. true_false (sym h)) (λ e. true_false (sym e))

  module _ (accept : Bool) (h : Hash) (n : FreshNonce) (a : Nonce) where
    abbrev settled_on : BoardEnrolment
    settled_on = record { board = x.board; enrolment = confirmed_enrolment x.enrolment accept h n a }

    abbrev conf : Outgoing
    conf = cert_conf_out x.enrolment.kind x.enrolment.id n a (decision accept) h

    conf_stands : (p : Outgoing) → some conf ≡ some p → (settled_on.enrolment.id ≡ p.id) × (settled_on.enrolment.last ≡ p.sender_nonce) × (settled_on.enrolment.hash ≡ p.contents.hash) × (stands_for settled_on.enrolment.state p.contents.status ≡ true) × (p.contents.has_status ≡ true) × (p.has_recip_nonce ≡ true)
    conf_stands p e =
        let q : conf ≡ p = some_some e in (
          ap (λ (y : Outgoing). y.id) q,
          ap (λ (y : Outgoing). y.sender_nonce) q,
          ap (λ (y : Outgoing). y.contents.hash) q,
          ap (λ (y : Outgoing). stands_for (decided accept) y.contents.status) (sym q) ∙ decided_stands accept,
          sym (ap (λ (y : Outgoing). y.contents.has_status) q),
          sym (ap (λ (y : Outgoing). y.has_recip_nonce) q),
        )

    decides : is_waiting x.enrolment.state ≡ true → EnrolmentStep (confirming x.enrolment accept h n a)
    decides u =
        board-one
        w
        v
        k
        x
        settled_on
        (some conf)
        here
        (record { board = refl; id = refl; stands = λ s t. absurd (waiting_stands x.enrolment.state s u t) })
        (λ p e c. conf_stands p e)
        (λ s t. inl (refl, conf, refl, refl, refl, refl, refl, decided-status accept s t))
        (λ e. absurd (decided_open accept e))

  pub time_out_step : EnrolmentStep (end_entity_time_out x.enrolment)
  unfolding end_entity_time_out
  time_out_step = cases EnrolmentStep (is_waiting x.enrolment.state || is_confirming x.enrolment.state) _ _ (λ _. breaks) (λ _. refused 31)

  -- ## A message

  module _ (bytes : List ℕ) (m : Message) (d : EndEntityInput) (e : lowest_row (end_entity_rows x.enrolment d.good (fields_of bytes m)) ≡ pass) where
    abbrev f : Fields
    f = fields_of bytes m

    abbrev rows : List Row
    rows = end_entity_rows x.enrolment d.good f

    good_it : d.good ≡ true
    unfolding end_entity_rows
    good_it = not_false d.good (passes 7 rows e)

    id_it : f.id ≡ some x.enrolment.id.bytes
    unfolding end_entity_rows
    id_it = is_id_eq f.id x.enrolment.id (not_false _ (passes 12 rows e))

    recip_it : f.recip_nonce ≡ some x.enrolment.last.bytes
    unfolding end_entity_rows
    recip_it = is_nonce_eq f.recip_nonce x.enrolment.last (not_false _ (passes 14 rows e))

    -- a pkiconf that the registrar issued
    answered_by : (o : Outgoing) → Issued TheRegistrar o w.past → Carries bytes m o → f.kind ≡ pki_conf → Answered w.past x
    answered_by o i c t =
        let p : o.id.bytes ≡ x.enrolment.id.bytes = some_some (sym (id_read bytes m o c) ∙ id_it) in
        record {
          message = o;
          issued = i;
          kind = sym (kind_read bytes m o c) ∙ t;
          id = λ j. record { bytes = p j };
          recip = recip_read bytes m o c x.enrolment.last (v.acknowledges o i (sym (kind_read bytes m o c) ∙ t)).0.answers recip_it;
        }

    answered_with : (g : Bool) → g ≡ true → ByReading g bytes (Ok m) w.past → f.kind ≡ pki_conf → Answered w.past x
    answered_with true q (o, i, c) t = answered_by o i c t
    answered_with false q z t = true_false (sym q)

    -- the enrolment awaits a response
    waits : responds f ≡ true → is_waiting x.enrolment.state ≡ true
    unfolding end_entity_rows
    waits r =
        let A : Bool = responds f && not (is_waiting x.enrolment.state) in
        let B : Bool = acknowledges f && not (is_confirming x.enrolment.state) in
        let C : Bool = reports f && not (is_waiting x.enrolment.state || is_confirming x.enrolment.state) in
        not_false (is_waiting x.enrolment.state)
        (and_false (responds f) (not (is_waiting x.enrolment.state)) (or_false_left A B (or_false_left (A || B) C (passes 20 rows e))) r)

    passed : ByReading d.good bytes (Ok m) w.past → EnrolmentStep (end_entity_checked pass x.enrolment d f)
    passed honest =
        passes-by x.enrolment d f EnrolmentStep e (λ p. assures (answered_with d.good good_it honest (eqb_eq f.kind pki_conf p))) (λ _. breaks)
        (λ r. cases EnrolmentStep (eqb (status_or0 f.status) 2) _ _ (λ _. fails (waits r)) (λ _. decides d.accept d.hash d.nonce (as_nonce f.sender_nonce) (waits r)))

  -- a refused message leaves the enrolment as it was
  refused-after : (n : ℕ) (f : Fields) → EnrolmentStep (enrolment_refused n (after_refusal n f x.enrolment))
  unfolding after_refusal
  refused-after n f = refused n

  checked : (bytes : List ℕ) (m : Message) (d : EndEntityInput) → ByReading d.good bytes (Ok m) w.past → (c : LowestRow) → lowest_row (end_entity_rows x.enrolment d.good (fields_of bytes m)) ≡ c → EnrolmentStep (end_entity_checked c x.enrolment d (fields_of bytes m))
  unfolding end_entity_checked
  checked bytes m d q (stop t) e = refused-after t (fields_of bytes m)
  checked bytes m d q pass e = passed bytes m d e q

  read_step : (bytes : List ℕ) (d : EndEntityInput) (r : Reading) → ByReading d.good bytes r w.past → EnrolmentStep (end_entity_read r x.enrolment d bytes)
  unfolding end_entity_read
  read_step bytes d (Err t) q = refused (read_refusal t)
  read_step bytes d (Ok m) q = checked bytes m d q (lowest_row (end_entity_rows x.enrolment d.good (fields_of bytes m))) refl

  pub message-step : (bytes : List ℕ) (d : EndEntityInput) → SenderIssued (ToEndEntity k bytes d) w.past → EnrolmentStep (end_entity_message x.enrolment d bytes)
  unfolding end_entity_message
  message-step bytes d q = read_step bytes d (reading_of bytes) (by_reading d.good bytes w.past q)
