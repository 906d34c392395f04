-- What the invariant says of the ends: the agreement.
use Prim.Native.Nat.{ℕ}
use mathlib.Core.List.{List, [], ◌∷◌}
use mathlib.Core.Bool.{true, false}
use mathlib.Core.Path.{◌≡◌, refl, sym, ◌∙◌, ap, subst}
use mathlib.Core.Logic.{◌⊎◌, inl, inr}
use lib.ListN.{get_elem?}
use Rattle.protocol.specs.declared.Board.{Board}
use Rattle.protocol.specs.declared.TransactionId.{TransactionId}
use Rattle.protocol.specs.declared.TransactionState.{TransactionState}
use Rattle.protocol.specs.declared.Transaction.{Transaction}
use Rattle.protocol.specs.declared.EnrolmentState.{EnrolmentState}
use Rattle.protocol.specs.declared.Outgoing.{Outgoing}
use Rattle.protocol.specs.declared.TransactionState.TheVariants as at_registrar
use Rattle.protocol.specs.declared.EnrolmentState.TheVariants.{Asked, Confirming, Declining, Sure, Declined, Failed, Unsettled}
use Rattle.protocol.specs.Message.{cert_conf}
use Rattle.protocol.specs.Table.{lookup}
use Rattle.protocol.specs.States.{settled_by}
use Rattle.protocol.specs.Run.{Event, End, World, BoardEnrolment, OneBoard}
use Rattle.protocol.specs.Agreement.{Fair, Issued, Confirmation, ClosedSince, RegistrarHolds, Holds, FoundUntilClosed, BoardOf, SomeEvent, SaysConfirmed, AgreesOrBetween, Agreement}
use Rattle.protocol.proofs.Tests.{some_some, true_false}
use Rattle.protocol.proofs.RegistrarStates.{is-confirmed, is-declined}
use Rattle.protocol.proofs.EnrolmentStates.{has_confirmed, is_answered, may_be_sure, stands_for}
use Rattle.protocol.proofs.Lookup.{found-holds, holds-found}
use Rattle.protocol.proofs.Invariant.{Inv, At, Sent, Stands, Settled, Answered, Acknowledged, SettledBy, Accepted}

-- a nonce is in one message only
pub nonce-one : (past : List Event) → Fair past → (p q : End) (o u : Outgoing) → Issued p o past → Issued q u past → o.sender_nonce ≡ u.sender_nonce → o ≡ u
nonce-one [] f p q o u i j s = absurd i
nonce-one (e ∷ past) f p q o u (inl g) (inl h) s = some_some (sym g.1 ∙ h.1)
nonce-one (e ∷ past) f p q o u (inl g) (inr j) s = absurd (f.0.nonce o g.1 q u j s)
nonce-one (e ∷ past) f p q o u (inr i) (inl h) s = absurd (f.0.nonce u h.1 p o i (sym s))
nonce-one (e ∷ past) f p q o u (inr i) (inr j) s = nonce-one past f.1 p q o u i j s

module _ (w : World) (v : Inv w) (f : Fair w.past) where
  same_place : (j k : ℕ) (x y : BoardEnrolment) → At w.enrolments j x → At w.enrolments k y → j ≡ k → x ≡ y
  same_place j k x y h h₂ e = some_some (sym h ∙ ap (get_elem? w.enrolments) e ∙ h₂)

  -- the certConf of an enrolment is one
  one-sent : (k : ℕ) (x : BoardEnrolment) (s : ℕ) → At w.enrolments k x → (c : Sent w.past x s) (o : Outgoing) → Confirmation w x o → o ≡ c.message
  one-sent k x s h c o q =
      let t : Stands w.enrolments x.board o = v.stands x.board o q.issued q.kind in
      let p : t.place ≡ k = v.distinct t.place k t.held x t.holds h (t.id ∙ q.id) in
      let y : t.held ≡ x = same_place t.place k t.held x t.holds h p in
      nonce-one w.past f (OneBoard x.board) (OneBoard x.board) o c.message q.issued c.issued (sym t.last ∙ ap (λ (z : BoardEnrolment). z.enrolment.last) y ∙ sym c.sender)

  found-cases : (x : BoardEnrolment) (s : ℕ) (t : TransactionState) → ((u : TransactionState) → settled_by u s ≡ true → u ≡ t) → (c : Sent w.past x s)
      → ClosedSince c.message.id c.message.recip_nonce w.past ⊎ Settled w.table c.message
      → ClosedSince x.enrolment.id c.message.recip_nonce w.past ⊎ ((r : Transaction) × RegistrarHolds w.table x.enrolment.id r × (r.sent ≡ c.message.recip_nonce) × (r.state ≡ t) × (r.hash ≡ x.enrolment.hash))
  found-cases x s t is c (inl h) = inl (subst (λ i. ClosedSince i c.message.recip_nonce w.past) c.id h)
  found-cases x s t is c (inr g) =
      inr (g.found, found-holds w.table x.enrolment.id g.found (ap (lookup w.table.transactions) (sym c.id) ∙ g.holds), g.sent, is g.found.state (ap (settled_by g.found.state) (sym c.status) ∙ g.state), g.hash ∙ c.hash)

  found : (k : ℕ) (x : BoardEnrolment) (s : ℕ) (t : TransactionState) → Holds w k x → has_confirmed x.enrolment.state s ≡ true → is_answered x.enrolment.state ≡ true → ((u : TransactionState) → settled_by u s ≡ true → u ≡ t) → FoundUntilClosed w x t
  found k x s t h hc ha is =
      let c : Sent w.past x s = v.sent k x s h hc in
      let a : Answered w.past x = v.answered k x h ha in
      let n : (n : Acknowledged w.past a.message) × (ClosedSince n.message.id n.message.recip_nonce w.past ⊎ Settled w.table n.message) = v.acknowledges a.message a.issued a.kind in
      let e : n.0.message ≡ c.message = nonce-one w.past f (OneBoard n.0.board) (OneBoard x.board) n.0.message c.message n.0.issued c.issued (n.0.sender ∙ a.recip ∙ sym c.sender) in (
        c.message,
        record { issued = c.issued; kind = c.kind; id = c.id },
        one-sent k x s h c,
        found-cases x s t is c (subst (λ o. ClosedSince o.id o.recip_nonce w.past ⊎ Settled w.table o) e n.1),
      )

  sure : (k : ℕ) (x : BoardEnrolment) → Holds w k x → x.enrolment.state ≡ Sure → FoundUntilClosed w x at_registrar.Confirmed
  sure k x h e = found k x 0 at_registrar.Confirmed h (rw e) (rw e) is-confirmed

  declined : (k : ℕ) (x : BoardEnrolment) → Holds w k x → x.enrolment.state ≡ Declined → FoundUntilClosed w x at_registrar.Declined
  declined k x h e = found k x 2 at_registrar.Declined h (rw e) (rw e) is-declined

  confirmed_by : (i : TransactionId) (r : Transaction) (c : SettledBy w.past i r 0) → Stands w.enrolments r.board c.message → BoardOf w i r
  confirmed_by i r c s =
      record {
        place = s.place;
        held = s.held;
        holds = s.holds;
        board = s.board;
        id = s.id ∙ c.id;
        only = λ k y h e. v.distinct k s.place y s.held h s.holds (e ∙ sym (s.id ∙ c.id));
        hash = s.hash ∙ c.hash;
        says = may_be_sure s.held.enrolment.state (ap (stands_for s.held.enrolment.state) (sym c.status) ∙ s.state);
      }

  confirmed : (i : TransactionId) (r : Transaction) → RegistrarHolds w.table i r → r.state ≡ at_registrar.Confirmed → BoardOf w i r
  confirmed i r h e = let c : SettledBy w.past i r 0 = v.settled i r 0 (holds-found w.table i r v.unique h) (rw e) in confirmed_by i r c (v.stands r.board c.message c.issued c.kind)

  -- an enrolment that sent no certConf: none was issued for its id
  none-sent : (k : ℕ) (x : BoardEnrolment) → At w.enrolments k x → ((s : ℕ) → stands_for x.enrolment.state s ≡ false) → (b : Board) (o : Outgoing) → Issued (OneBoard b) o w.past → o.kind ≡ cert_conf → o.id ≡ x.enrolment.id → ⊥
  none-sent k x h n b o i c e =
      let s : Stands w.enrolments b o = v.stands b o i c in
      let p : s.place ≡ k = v.distinct s.place k s.held x s.holds h (s.id ∙ e) in
      let q : s.held ≡ x = same_place s.place k s.held x s.holds h p in
      true_false (sym s.state ∙ ap (λ (y : BoardEnrolment). stands_for y.enrolment.state o.contents.status) q ∙ n o.contents.status)

  failed : (k : ℕ) (x : BoardEnrolment) → Holds w k x → x.enrolment.state ≡ Failed → SomeEvent (λ e. SaysConfirmed e.table x.enrolment.id) w.past → ⊥
  failed k x h e s = let a : Accepted w.past x.enrolment.id = v.said x.enrolment.id s in none-sent k x h (λ s. rw e) a.board a.message a.issued a.kind a.id

  neither : (k : ℕ) (x : BoardEnrolment) → Holds w k x → ((s : ℕ) → stands_for x.enrolment.state s ≡ false) → (r : Transaction) → RegistrarHolds w.table x.enrolment.id r → (r.state ≡ at_registrar.Confirmed → ⊥) × (r.state ≡ at_registrar.Declined → ⊥)
  neither k x h n r g = (λ e. by 0 (rw e), λ e. by 2 (rw e))
    where
      by : (s : ℕ) → settled_by r.state s ≡ true → ⊥
      by s e = let c : SettledBy w.past x.enrolment.id r s = v.settled x.enrolment.id r s (holds-found w.table x.enrolment.id r v.unique g) e in none-sent k x h n r.board c.message c.issued c.kind c.id

  agree_at : (k : ℕ) (x : BoardEnrolment) → Holds w k x → (t : EnrolmentState) → x.enrolment.state ≡ t → AgreesOrBetween w x t
  agree_at k x h Asked e = neither k x h (λ s. rw e)
  agree_at k x h Confirming e = tt
  agree_at k x h Declining e = tt
  agree_at k x h Sure e = sure k x h e
  agree_at k x h Declined e = declined k x h e
  agree_at k x h Failed e = neither k x h (λ s. rw e)
  agree_at k x h Unsettled e = tt

  pub agreement : Agreement w
  agreement = record { sure = sure; declined = declined; confirmed = confirmed; failed = failed; agree = λ k x h. agree_at k x h x.enrolment.state refl }
