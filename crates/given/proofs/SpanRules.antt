-- A span is inside exactly if it is absent, or lies in the lent bytes.
use Prim.Native.Nat.{ℕ, ◌+◌}
use mathlib.Core.List.{List}
use mathlib.Core.Bool.{Bool, true, false, cond, ◌&&◌}
use mathlib.Core.Path.{◌≡◌, refl}
use mathlib.Core.Logic.{inl, inr}
use native.Mathlib.Omega.{arith}
use borrow.Author.Tests.{eq-eqb, ne_eqb, eqb-true, eqb-false, le-leb, leb-true}
use lib.ListN.{length}
use lib.Dec.{leb, eqb}
use Rattle.der.proofs.Auto.{and_left, and_right}
use Rattle.grammar.specs.declared.Span.{Span}
use Rattle.given.specs.declared.GivenSpans.{GivenSpans}
use Rattle.given.specs.Spans.{span_inside, header_inside, spans_inside}
use Rattle.given.specs.SpanRules.{SpanRight, SpansRight, InsideExactly}

module _ (src : List ℕ) (s : Span) where
  right : span_inside src s ≡ true → SpanRight src s
  right = by (eqb s.start.0 0) refl
    where
      by : (b : Bool) → eqb s.start.0 0 ≡ b → cond b (eqb s.len 0) (leb (s.start.0 + s.len) (length src)) ≡ true → SpanRight src s
      by true e h = inl (eqb-true s.start.0 0 e, eqb-true s.len 0 h)
      by false e h =
          let apart = eqb-false s.start.0 0 e in
          inr (omega (arith, apart), leb-true (s.start.0 + s.len) (length src) h)

  inside : SpanRight src s → span_inside src s ≡ true
  inside (inl h) = rw (eq-eqb s.start.0 0 h.0) (eq-eqb s.len 0 h.1)
  inside (inr h) = rw (ne_eqb s.start.0 0 (λ e. omega (arith, h.0))) (le-leb (s.start.0 + s.len) (length src) h.1)

both_hold : (a b : Bool) → a ≡ true → b ≡ true → (a && b) ≡ true
both_hold true b e f = f
both_hold false b e f = e

module _ (src : List ℕ) (g : GivenSpans) where
  there : spans_inside src g ≡ true → SpansRight src g
  unfolding spans_inside header_inside
  there h =
      let header : header_inside src g ≡ true = and_left (header_inside src g) _ h in
      let h1 = and_right (span_inside src g.sender) _ header in
      let h2 = and_right (span_inside src g.recipient) _ h1 in
      let h3 = and_right (span_inside src g.message_time) _ h2 in
      let h4 = and_right (span_inside src g.protection_alg) _ h3 in
      let h5 = and_right (span_inside src g.sender_kid) _ h4 in
      let h6 = and_right (span_inside src g.recip_kid) _ h5 in
      let h7 = and_right (span_inside src g.free_text) _ h6 in
      let p1 = and_right (header_inside src g) _ h in
      let p2 = and_right (span_inside src g.protection) _ p1 in
      record {
        sender = right src g.sender (and_left (span_inside src g.sender) _ header);
        recipient = right src g.recipient (and_left (span_inside src g.recipient) _ h1);
        message_time = right src g.message_time (and_left (span_inside src g.message_time) _ h2);
        protection_alg = right src g.protection_alg (and_left (span_inside src g.protection_alg) _ h3);
        sender_kid = right src g.sender_kid (and_left (span_inside src g.sender_kid) _ h4);
        recip_kid = right src g.recip_kid (and_left (span_inside src g.recip_kid) _ h5);
        free_text = right src g.free_text (and_left (span_inside src g.free_text) _ h6);
        general_info = right src g.general_info h7;
        protection = right src g.protection (and_left (span_inside src g.protection) _ p1);
        request = right src g.request (and_left (span_inside src g.request) _ p2);
        certificate = right src g.certificate (and_right (span_inside src g.request) _ p2);
      }

  header-back : SpansRight src g → header_inside src g ≡ true
  unfolding header_inside
  header-back r =
      both_hold (span_inside src g.sender) _ (inside src g.sender r.sender)
      (both_hold (span_inside src g.recipient) _ (inside src g.recipient r.recipient)
      (both_hold (span_inside src g.message_time) _ (inside src g.message_time r.message_time)
      (both_hold (span_inside src g.protection_alg) _ (inside src g.protection_alg r.protection_alg)
      (both_hold (span_inside src g.sender_kid) _ (inside src g.sender_kid r.sender_kid)
      (both_hold (span_inside src g.recip_kid) _ (inside src g.recip_kid r.recip_kid)
      (both_hold (span_inside src g.free_text) _ (inside src g.free_text r.free_text)
      (inside src g.general_info r.general_info)))))))

  back : SpansRight src g → spans_inside src g ≡ true
  unfolding spans_inside
  back r =
      both_hold (header_inside src g) _ (header-back r)
      (both_hold (span_inside src g.protection) _ (inside src g.protection r.protection)
      (both_hold (span_inside src g.request) _ (inside src g.request r.request) (inside src g.certificate r.certificate)))

-- INSIDE EXACTLY
pub inside_exactly : InsideExactly
inside_exactly src g = (there src g, back src g)
