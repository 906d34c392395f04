-- The general forms of an EndEntityStep: nothing changes, one enrolment changes, one is added by a start.
use Prim.Native.Nat.{ℕ}
use mathlib.Core.List.{List, [], ◌∷◌, ◌++◌}
use mathlib.Core.Bool.{true}
use mathlib.Core.Option.{Option, none, some}
use mathlib.Core.Path.{◌≡◌, refl, sym, ◌∙◌, ap, subst}
use mathlib.Core.Logic.{◌⊎◌, inl, inr}
use native.Mathlib.Decide.{ℕ_discrete}
use lib.ListN.{length, get_elem?, set}
use Rattle.protocol.specs.declared.Board.{Board}
use Rattle.protocol.specs.declared.TransactionId.{TransactionId}
use Rattle.protocol.specs.declared.FreshNonce.{FreshNonce}
use Rattle.protocol.specs.declared.Outgoing.{Outgoing}
use Rattle.protocol.specs.Message.{cert_conf, is_starting_kind}
use Rattle.protocol.specs.Outgoing.{request_out}
use Rattle.protocol.specs.EndEntity.{started_enrolment}
use Rattle.protocol.specs.Run.{BoardEnrolment, World}
use Rattle.protocol.proofs.Tests.{none_some, some_some, true_false}
use Rattle.protocol.proofs.EnrolmentStates.{stands_for, has_confirmed, is_answered}
use Rattle.protocol.proofs.Places.{at_set_same, at_set_other, at_more_old, at_more}
use Rattle.protocol.proofs.Invariant.{Kept, Sent, Inv, EndEntityStep, At, Answered, Stands}

pub kept_same : (x : BoardEnrolment) → Kept x x
kept_same x = record { board = refl; id = refl; stands = λ s h. (refl, refl, h) }

-- the certConf p sent now is that of the record y
abbrev pub SentNow : Board → Option Outgoing → BoardEnrolment → ℕ → Type 0
SentNow b o y s = (y.board ≡ b) × (p : Outgoing) × (o ≡ some p) × (p.kind ≡ cert_conf) × (p.id ≡ y.enrolment.id) × (p.sender_nonce ≡ y.enrolment.last) × (p.contents.hash ≡ y.enrolment.hash) × (p.contents.status ≡ s)

module _ (w : World) (v : Inv w) where
  -- nothing changes
  pub board-none : (b : Board) → EndEntityStep w.past w.enrolments w.enrolments b none none
  board-none b =
      record {
        stays = λ k x h. (x, h, kept_same x);
        stands = λ p e c. none_some e;
        sent = λ k y s h t. inr (v.sent k y s h t);
        answered = v.answered;
        comes = λ k y h. inl (y, h, refl);
      }

  -- the record at one place changes
  module _
      (k : ℕ)
      (x y : BoardEnrolment)
      (o : Option Outgoing)
      (here : At w.enrolments k x)
      (kept : Kept x y)
      (stands : (p : Outgoing) → o ≡ some p → p.kind ≡ cert_conf → (y.enrolment.id ≡ p.id) × (y.enrolment.last ≡ p.sender_nonce) × (y.enrolment.hash ≡ p.contents.hash) × (stands_for y.enrolment.state p.contents.status ≡ true) × (p.contents.has_status ≡ true) × (p.has_recip_nonce ≡ true))
      (sent : (s : ℕ) → has_confirmed y.enrolment.state s ≡ true → SentNow x.board o y s ⊎ Sent w.past y s)
      (answered : is_answered y.enrolment.state ≡ true → Answered w.past y)
    where
      abbrev l' : List BoardEnrolment
      l' = set w.enrolments k y

      there : At l' k y
      there = at_set_same w.enrolments k x y here

      -- what stands at a place: the new record, or the old one of another place
      split : (j : ℕ) (z : BoardEnrolment) → At l' j z → Dec (k ≡ j) → ((k ≡ j) × (y ≡ z)) ⊎ At w.enrolments j z
      split j z h (yes e) = inl (e, some_some (sym there ∙ ap (get_elem? l') e ∙ h))
      split j z h (no d) = inr (sym (at_set_other w.enrolments k j y d) ∙ h)

      one-stays : (j : ℕ) (z : BoardEnrolment) → At w.enrolments j z → Dec (k ≡ j) → (u : BoardEnrolment) × At l' j u × Kept z u
      one-stays j z h (yes e) = (y, ap (get_elem? l') (sym e) ∙ there, subst (λ (u : BoardEnrolment). Kept u y) (some_some (sym here ∙ ap (get_elem? w.enrolments) e ∙ h)) kept)
      one-stays j z h (no d) = (z, at_set_other w.enrolments k j y d ∙ h, kept_same z)

      one_stands : (p : Outgoing) → (y.enrolment.id ≡ p.id) × (y.enrolment.last ≡ p.sender_nonce) × (y.enrolment.hash ≡ p.contents.hash) × (stands_for y.enrolment.state p.contents.status ≡ true) × (p.contents.has_status ≡ true) × (p.has_recip_nonce ≡ true) → Stands l' x.board p
      one_stands p t = record { place = k; held = y; holds = there; board = kept.board; id = t.0; last = t.1; hash = t.2; state = t.3; rated = t.4; answers = t.5 }

      one-sent : (j : ℕ) (z : BoardEnrolment) (s : ℕ) → has_confirmed z.enrolment.state s ≡ true → ((k ≡ j) × (y ≡ z)) ⊎ At w.enrolments j z → SentNow x.board o z s ⊎ Sent w.past z s
      one-sent j z s t (inl g) =
          subst (λ (u : BoardEnrolment). SentNow x.board o u s ⊎ Sent w.past u s) g.1 (sent s (ap (λ (u : BoardEnrolment). has_confirmed u.enrolment.state s) g.1 ∙ t))
      one-sent j z s t (inr h) = inr (v.sent j z s h t)

      one-answered : (j : ℕ) (z : BoardEnrolment) → is_answered z.enrolment.state ≡ true → ((k ≡ j) × (y ≡ z)) ⊎ At w.enrolments j z → Answered w.past z
      one-answered j z t (inl g) = subst (λ (u : BoardEnrolment). Answered w.past u) g.1 (answered (ap (λ (u : BoardEnrolment). is_answered u.enrolment.state) g.1 ∙ t))
      one-answered j z t (inr h) = v.answered j z h t

      one_comes : (j : ℕ) (z : BoardEnrolment) → ((k ≡ j) × (y ≡ z)) ⊎ At w.enrolments j z → ((u : BoardEnrolment) × At w.enrolments j u × (u.enrolment.id ≡ z.enrolment.id)) ⊎ ((none ≡ some z.enrolment.id) × (j ≡ length w.enrolments))
      one_comes j z (inl g) = inl (x, ap (get_elem? w.enrolments) (sym g.0) ∙ here, sym kept.id ∙ ap (λ (u : BoardEnrolment). u.enrolment.id) g.1)
      one_comes j z (inr h) = inl (z, h, refl)

      pub board-one : EndEntityStep w.past w.enrolments l' x.board o none
      board-one =
          record {
            stays = λ j z h. one-stays j z h (ℕ_discrete k j);
            stands = λ p e c. one_stands p (stands p e c);
            sent = λ j z s h t. one-sent j z s t (split j z h (ℕ_discrete k j));
            answered = λ j z h t. one-answered j z t (split j z h (ℕ_discrete k j));
            comes = λ j z h. one_comes j z (split j z h (ℕ_discrete k j));
          }

-- ## A start

module _ (w : World) (v : Inv w) (b : Board) (k : ℕ) (i : TransactionId) (n : FreshNonce) where
  abbrev pub new : BoardEnrolment
  new = record { board = b; enrolment = started_enrolment k i n }

  abbrev pub more : List BoardEnrolment
  more = w.enrolments ++ (new ∷ [])

  start-sent : (j : ℕ) (z : BoardEnrolment) (s : ℕ) (o : Option Outgoing) → has_confirmed z.enrolment.state s ≡ true → At w.enrolments j z ⊎ ((j ≡ length w.enrolments) × (new ≡ z)) → SentNow b o z s ⊎ Sent w.past z s
  start-sent j z s o t (inl h) = inr (v.sent j z s h t)
  start-sent j z s o t (inr g) = true_false (sym (ap (λ (u : BoardEnrolment). has_confirmed u.enrolment.state s) g.1 ∙ t))

  start-answered : (j : ℕ) (z : BoardEnrolment) → is_answered z.enrolment.state ≡ true → At w.enrolments j z ⊎ ((j ≡ length w.enrolments) × (new ≡ z)) → Answered w.past z
  start-answered j z t (inl h) = v.answered j z h t
  start-answered j z t (inr g) = true_false (sym (ap (λ (u : BoardEnrolment). is_answered u.enrolment.state) g.1 ∙ t))

  start_comes : (j : ℕ) (z : BoardEnrolment) → At w.enrolments j z ⊎ ((j ≡ length w.enrolments) × (new ≡ z)) → ((u : BoardEnrolment) × At w.enrolments j u × (u.enrolment.id ≡ z.enrolment.id)) ⊎ ((some i ≡ some z.enrolment.id) × (j ≡ length w.enrolments))
  start_comes j z (inl h) = inl (z, h, refl)
  start_comes j z (inr g) = inr (ap (λ (u : BoardEnrolment). some u.enrolment.id) g.1, g.0)

  pub start-step : is_starting_kind k ≡ true → EndEntityStep w.past w.enrolments more b (some (request_out k i n)) (some i)
  start-step o =
      record {
        stays = λ j z h. (z, at_more_old w.enrolments (new ∷ []) j z h, kept_same z);
        stands = λ p e c. true_false (sym o ∙ ap is_starting_kind (ap (λ (y : Outgoing). y.kind) (some_some e) ∙ c));
        sent = λ j z s h t. start-sent j z s (some (request_out k i n)) t (at_more w.enrolments new j z h);
        answered = λ j z h t. start-answered j z t (at_more w.enrolments new j z h);
        comes = λ j z h. start_comes j z (at_more w.enrolments new j z h);
      }
