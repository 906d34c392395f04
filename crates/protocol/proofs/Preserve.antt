-- A call that shows a RegistrarStep or a EndEntityStep leaves the invariant standing, and so does one on no enrolment.
use Prim.Native.Nat.{ℕ}
use mathlib.Core.List.{List, ◌∷◌}
use mathlib.Core.Bool.{true}
use mathlib.Core.Option.{Option, none, some}
use mathlib.Core.Path.{◌≡◌, refl, sym, ◌∙◌, ap, subst}
use mathlib.Core.Logic.{◌⊎◌, inl, inr}
use native.Mathlib.Omega.{arith}
use lib.ListN.{length}
use Rattle.protocol.specs.declared.Board.{Board}
use Rattle.protocol.specs.declared.TransactionId.{TransactionId}
use Rattle.protocol.specs.declared.Nonce.{Nonce}
use Rattle.protocol.specs.declared.Transaction.{Transaction}
use Rattle.protocol.specs.declared.TransactionTable.{TransactionTable}
use Rattle.protocol.specs.declared.Outgoing.{Outgoing}
use Rattle.protocol.specs.Message.{pki_conf, cert_conf}
use Rattle.protocol.specs.Table.{lookup}
use Rattle.protocol.specs.Run.{End, TheRegistrar, OneBoard, NoEnd, Event, Call, World, BoardEnrolment}
use Rattle.protocol.specs.Agreement.{Issued, ClosedSince, SomeEvent, RegistrarHolds, SaysConfirmed}
use Rattle.protocol.proofs.Tests.{none_some}
use Rattle.protocol.proofs.RegistrarStates.{settled-sent, confirmed_0}
use Rattle.protocol.proofs.EnrolmentStates.{stands_for}
use Rattle.protocol.proofs.Lookup.{holds-found}
use Rattle.protocol.proofs.Invariant.{Sent, Answered, Acknowledged, SentNonce, Settled, SettledBy, Accepted, Inv, RegistrarStep, EndEntityStep, Stands, At, Kept}

registrar_board : {A : Type 0} {b : Board} → TheRegistrar ≡ OneBoard b → A
registrar_board e = let z : ◌≡◌ {A = ℕ} 0 1 = cc in absurd (omega arith)

abbrev pub registrar_event : Call → Option Outgoing → Option TransactionId → TransactionTable → Event
registrar_event c o cl b = record { call = c; end = TheRegistrar; sent = o; drawn = none; closed = cl; table = b }

abbrev pub registrar_world : World → Call → Option Outgoing → Option TransactionId → TransactionTable → World
registrar_world w c o cl b = record { table = b; enrolments = w.enrolments; past = registrar_event c o cl b ∷ w.past }

abbrev pub board_event : Call → Board → Option Outgoing → Option TransactionId → TransactionTable → Event
board_event c b o d k = record { call = c; end = OneBoard b; sent = o; drawn = d; closed = none; table = k }

abbrev pub board_world : World → Call → Board → Option Outgoing → Option TransactionId → List BoardEnrolment → World
board_world w c b o d l = record { table = w.table; enrolments = l; past = board_event c b o d w.table ∷ w.past }

-- ## What was done stays done

module _ (e : Event) {past : List Event} where
  sent-more : {x : BoardEnrolment} {s : ℕ} → Sent past x s → Sent (e ∷ past) x s
  sent-more t = record { message = t.message; issued = inr t.issued; kind = t.kind; id = t.id; sender = t.sender; hash = t.hash; status = t.status }

  answered-more : {x : BoardEnrolment} → Answered past x → Answered (e ∷ past) x
  answered-more t = record { message = t.message; issued = inr t.issued; kind = t.kind; id = t.id; recip = t.recip }

  abbrev acknowledged_more : {p : Outgoing} → Acknowledged past p → Acknowledged (e ∷ past) p
  acknowledged_more t = record { board = t.board; message = t.message; issued = inr t.issued; kind = t.kind; sender = t.sender; id = t.id; answers = t.answers }

  nonce-more : {n : Nonce} → SentNonce past n → SentNonce (e ∷ past) n
  nonce-more t = record { message = t.message; issued = inr t.issued; sender = t.sender }

  settled-more : {i : TransactionId} {r : Transaction} {s : ℕ} → SettledBy past i r s → SettledBy (e ∷ past) i r s
  settled-more t = record { message = t.message; issued = inr t.issued; kind = t.kind; id = t.id; hash = t.hash; status = t.status }

  accepted-more : {i : TransactionId} → Accepted past i → Accepted (e ∷ past) i
  accepted-more t = record { board = t.board; message = t.message; issued = inr t.issued; kind = t.kind; id = t.id; status = t.status }

  accepted_by : {i : TransactionId} {r : Transaction} → SettledBy past i r 0 → Accepted (e ∷ past) i
  accepted_by {i} {r} t = record { board = r.board; message = t.message; issued = inr t.issued; kind = t.kind; id = t.id; status = t.status }

-- ## A call at the registrar

module _ (w : World) (c : Call) (o : Option Outgoing) (cl : Option TransactionId) (b' : TransactionTable) (v : Inv w) (d : RegistrarStep w.past w.table b' o cl) where
  abbrev e : Event
  e = registrar_event c o cl b'

  old_board : (b : Board) (q : Outgoing) → Issued (OneBoard b) q (e ∷ w.past) → Issued (OneBoard b) q w.past
  old_board b q (inl g) = registrar_board g.0
  old_board b q (inr i) = i

  carried : (n : Outgoing) → (s : Settled w.table n) → (lookup b'.transactions n.id ≡ some s.found) ⊎ (cl ≡ some n.id) → SentNonce w.past s.found.sent → ClosedSince n.id n.recip_nonce (e ∷ w.past) ⊎ Settled b' n
  carried n s (inl h) t = inr (record { found = s.found; holds = h; sent = s.sent; hash = s.hash; state = s.state })
  carried n s (inr h) t = inl (inl (h, t.message, t.issued, t.sender ∙ s.sent))

  acknowledges_old :
      (p : Outgoing) →
      (n : Acknowledged w.past p) × (ClosedSince n.message.id n.message.recip_nonce w.past ⊎ Settled w.table n.message) →
      (n : Acknowledged (e ∷ w.past) p) × (ClosedSince n.message.id n.message.recip_nonce (e ∷ w.past) ⊎ Settled b' n.message)
  acknowledges_old p (n, inl h) = (acknowledged_more e n, inl (inr h))
  acknowledges_old p (n, inr s) =
      (acknowledged_more e n, carried n.message s (d.stays n.message.id s.found n.message.contents.status s.holds s.state) (v.responded n.message.id s.found s.holds (settled-sent s.found.state n.message.contents.status s.state)))

  acknowledges_new : (p : Outgoing) → (n : Acknowledged w.past p) × Settled b' n.message → (n : Acknowledged (e ∷ w.past) p) × (ClosedSince n.message.id n.message.recip_nonce (e ∷ w.past) ⊎ Settled b' n.message)
  acknowledges_new p (n, s) = (acknowledged_more e n, inr s)

  acknowledges : (p : Outgoing) → Issued TheRegistrar p (e ∷ w.past) → p.kind ≡ pki_conf → (n : Acknowledged (e ∷ w.past) p) × (ClosedSince n.message.id n.message.recip_nonce (e ∷ w.past) ⊎ Settled b' n.message)
  acknowledges p (inl g) k = acknowledges_new p (d.acknowledges p g.1 k)
  acknowledges p (inr i) k = acknowledges_old p (v.acknowledges p i k)

  responded : (r : Transaction) → ((q : Outgoing) × (o ≡ some q) × (q.sender_nonce ≡ r.sent)) ⊎ SentNonce w.past r.sent → SentNonce (e ∷ w.past) r.sent
  responded r (inl (q, h, s)) = record { message = q; issued = inl (refl, h); sender = s }
  responded r (inr t) = nonce-more e t

  said : (i : TransactionId) → SomeEvent (λ f. SaysConfirmed f.table i) (e ∷ w.past) → Accepted (e ∷ w.past) i
  said i (inl (r, h, t)) = accepted_by e (d.settled i r 0 (holds-found b' i r d.unique h) (confirmed_0 r.state t))
  said i (inr h) = accepted-more e (v.said i h)

  pub registrar_preserves : Inv (registrar_world w c o cl b')
  registrar_preserves =
      record {
        stands = λ b q i k. v.stands b q (old_board b q i) k;
        sent = λ k x s h t. sent-more e (v.sent k x s h t);
        answered = λ k x h t. answered-more e (v.answered k x h t);
        acknowledges = acknowledges;
        responded = λ i r h t. responded r (d.responded i r h t);
        settled = λ i r s h t. settled-more e (d.settled i r s h t);
        said = said;
        drawn = λ k x h. inr (v.drawn k x h);
        distinct = v.distinct;
        unique = d.unique;
      }

-- ## A call that leaves the table as it was

module _ (w : World) (v : Inv w) (e : Event) where
  acknowledges_still :
      (p : Outgoing) →
      (n : Acknowledged w.past p) × (ClosedSince n.message.id n.message.recip_nonce w.past ⊎ Settled w.table n.message) →
      (n : Acknowledged (e ∷ w.past) p) × (ClosedSince n.message.id n.message.recip_nonce (e ∷ w.past) ⊎ Settled w.table n.message)
  acknowledges_still p (n, inl h) = (acknowledged_more e n, inl (inr h))
  acknowledges_still p (n, inr s) = (acknowledged_more e n, inr s)

  said_still : e.table ≡ w.table → (i : TransactionId) → SomeEvent (λ f. SaysConfirmed f.table i) (e ∷ w.past) → Accepted (e ∷ w.past) i
  said_still q i (inl (r, h, t)) = accepted_by e (v.settled i r 0 (holds-found w.table i r v.unique (subst (λ (b : TransactionTable). RegistrarHolds b i r) q h)) (confirmed_0 r.state t))
  said_still q i (inr h) = accepted-more e (v.said i h)

-- ## A call on an enrolment that there is not

module _ (w : World) (c : Call) (v : Inv w) where
  abbrev e₁ : Event
  e₁ = record { call = c; end = NoEnd; sent = none; drawn = none; closed = none; table = w.table }

  -- it sent nothing
  old_one : (p : End) (q : Outgoing) → Issued p q (e₁ ∷ w.past) → Issued p q w.past
  old_one p q (inl g) = none_some g.1
  old_one p q (inr i) = i

  pub nowhere_preserves : Inv (record { table = w.table; enrolments = w.enrolments; past = e₁ ∷ w.past })
  nowhere_preserves =
      record {
        stands = λ b q i k. v.stands b q (old_one (OneBoard b) q i) k;
        sent = λ k x s h t. sent-more e₁ (v.sent k x s h t);
        answered = λ k x h t. answered-more e₁ (v.answered k x h t);
        acknowledges = λ p i k. acknowledges_still w v e₁ p (v.acknowledges p (old_one TheRegistrar p i) k);
        responded = λ i r h t. nonce-more e₁ (v.responded i r h t);
        settled = λ i r s h t. settled-more e₁ (v.settled i r s h t);
        said = said_still w v e₁ refl;
        drawn = λ k x h. inr (v.drawn k x h);
        distinct = v.distinct;
        unique = v.unique;
      }

-- ## A call at a board

module _
    (w : World)
    (c : Call)
    (b : Board)
    (o : Option Outgoing)
    (dr : Option TransactionId)
    (l' : List BoardEnrolment)
    (v : Inv w)
    (fresh : (i : TransactionId) → dr ≡ some i → SomeEvent (λ f. f.drawn ≡ some i) w.past → ⊥)
    (d : EndEntityStep w.past w.enrolments l' b o dr)
  where
    abbrev e₂ : Event
    e₂ = board_event c b o dr w.table

    old_registrar : (q : Outgoing) → Issued TheRegistrar q (e₂ ∷ w.past) → Issued TheRegistrar q w.past
    old_registrar q (inl g) = registrar_board (sym g.0)
    old_registrar q (inr i) = i

    stands_new : (b₂ : Board) (q : Outgoing) → b ≡ b₂ → Stands l' b q → Stands l' b₂ q
    stands_new b₂ q p s =
        record { place = s.place; held = s.held; holds = s.holds; board = s.board ∙ p; id = s.id; last = s.last; hash = s.hash; state = s.state; rated = s.rated; answers = s.answers }

    stands_old : (b₂ : Board) (q : Outgoing) (s : Stands w.enrolments b₂ q) → (y : BoardEnrolment) × At l' s.place y × Kept s.held y → Stands l' b₂ q
    stands_old b₂ q s (y, h, k) =
        let t : (y.enrolment.last ≡ s.held.enrolment.last) × (y.enrolment.hash ≡ s.held.enrolment.hash) × (stands_for y.enrolment.state q.contents.status ≡ true) = k.stands q.contents.status s.state in
        record { place = s.place; held = y; holds = h; board = k.board ∙ s.board; id = k.id ∙ s.id; last = t.0 ∙ s.last; hash = t.1 ∙ s.hash; state = t.2; rated = s.rated; answers = s.answers }

    stands : (b₂ : Board) (q : Outgoing) → Issued (OneBoard b₂) q (e₂ ∷ w.past) → q.kind ≡ cert_conf → Stands l' b₂ q
    stands b₂ q (inl g) k = let p : OneBoard b ≡ OneBoard b₂ = g.0 in stands_new b₂ q (cc) (d.stands q g.1 k)
    stands b₂ q (inr i) k = let s : Stands w.enrolments b₂ q = v.stands b₂ q i k in stands_old b₂ q s (d.stays s.place s.held s.holds)

    sent-cases :
        (y : BoardEnrolment) (s : ℕ) →
        ((y.board ≡ b) × (p : Outgoing) × (o ≡ some p) × (p.kind ≡ cert_conf) × (p.id ≡ y.enrolment.id) × (p.sender_nonce ≡ y.enrolment.last) × (p.contents.hash ≡ y.enrolment.hash) × (p.contents.status ≡ s)) ⊎ Sent w.past y s →
        Sent (e₂ ∷ w.past) y s
    sent-cases y s (inl g) =
        record { message = g.1; issued = inl (ap OneBoard (sym g.0), g.2); kind = g.3; id = g.4; sender = g.5; hash = g.6; status = g.7 }
    sent-cases y s (inr t) = sent-more e₂ t

    drawn-cases : (k : ℕ) (y : BoardEnrolment) → ((x : BoardEnrolment) × At w.enrolments k x × (x.enrolment.id ≡ y.enrolment.id)) ⊎ ((dr ≡ some y.enrolment.id) × (k ≡ length w.enrolments)) → SomeEvent (λ f. f.drawn ≡ some y.enrolment.id) (e₂ ∷ w.past)
    drawn-cases k y (inl (x, h, p)) = inr (subst (λ (i : TransactionId). SomeEvent (λ f. f.drawn ≡ some i) w.past) p (v.drawn k x h))
    drawn-cases k y (inr g) = inl g.0

    distinct_cases : (j k : ℕ) (x y : BoardEnrolment) → x.enrolment.id ≡ y.enrolment.id
        → ((x₀ : BoardEnrolment) × At w.enrolments j x₀ × (x₀.enrolment.id ≡ x.enrolment.id)) ⊎ ((dr ≡ some x.enrolment.id) × (j ≡ length w.enrolments))
        → ((y₀ : BoardEnrolment) × At w.enrolments k y₀ × (y₀.enrolment.id ≡ y.enrolment.id)) ⊎ ((dr ≡ some y.enrolment.id) × (k ≡ length w.enrolments))
        → j ≡ k
    distinct_cases j k x y p (inl (x₀, h, q)) (inl (y₀, h₂, q₂)) = v.distinct j k x₀ y₀ h h₂ (q ∙ p ∙ sym q₂)
    distinct_cases j k x y p (inl (x₀, h, q)) (inr g) = absurd (fresh y.enrolment.id g.0 (rw (← (q ∙ p)) (v.drawn j x₀ h)))
    distinct_cases j k x y p (inr g) (inl (y₀, h, q)) = absurd (fresh x.enrolment.id g.0 (rw (p ∙ sym q) (v.drawn k y₀ h)))
    distinct_cases j k x y p (inr g) (inr g₂) = g.1 ∙ sym g₂.1

    pub board_preserves : Inv (board_world w c b o dr l')
    board_preserves =
        record {
          stands = stands;
          sent = λ k y s h t. sent-cases y s (d.sent k y s h t);
          answered = λ k y h t. answered-more e₂ (d.answered k y h t);
          acknowledges = λ p i k. acknowledges_still w v e₂ p (v.acknowledges p (old_registrar p i) k);
          responded = λ i r h t. nonce-more e₂ (v.responded i r h t);
          settled = λ i r s h t. settled-more e₂ (v.settled i r s h t);
          said = said_still w v e₂ refl;
          drawn = λ k y h. drawn-cases k y (d.comes k y h);
          distinct = λ j k x y h h₂ p. distinct_cases j k x y p (d.comes j x h) (d.comes k y h₂);
          unique = v.unique;
        }
