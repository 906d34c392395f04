-- 34, 35, 36 and 0, each exactly where the paper has it.
use Prim.Native.Nat.{ℕ, ◌<◌, ◌≤◌}
use mathlib.Core.Path.{◌≡◌, refl, sym, ◌∙◌}
use mathlib.Core.Bool.{Bool, true, false, ◌&&◌, ◌||◌, true≢false}
use mathlib.Core.Logic.{◌⊎◌, inl, inr}
use native.Mathlib.Omega.{arith}
use borrow.Author.Tests.{ltb-true, ltb-false}
use lib.ListN.{length}
use lib.Dec.{ltb}
use Rattle.der.proofs.Auto.{and_left, and_right}
use Rattle.der.proofs.HeadLaws.{cond_both}
use Rattle.message.specs.Read.{max_message}
use Rattle.protocol.specs.declared.Outgoing.{Outgoing}
use Rattle.encoding.specs.Given.{Given}
use Rattle.encoding.specs.Message.{encode}
use Rattle.encoding.specs.Fits.{blank, header_fits, request_fits, response_fits, contents_fit, order_fits, fits}
use Rattle.encoding.specs.Write.{refusal_of}
use Rattle.encoding.specs.WriteRules.{RefusalRules}

-- one of the two does not hold
not_both : (a b : Bool) → (a && b) ≡ false → (a ≡ false) ⊎ (b ≡ false)
not_both true b e = inr e
not_both false b e = inl refl

both_not : (a b : Bool) → (a && b) ≡ true → (a ≡ false) ⊎ (b ≡ false) → ⊥
both_not a b e (inl f) = true≢false (sym (and_left a b e) ∙ f)
both_not a b e (inr f) = true≢false (sym (and_right a b e) ∙ f)

one_not : (a b : Bool) → (a && b) ≡ false → a ≡ true → b ≡ true → ⊥
one_not a b e p q = true≢false (sym (simp (p, q)) ∙ e)

pub refusals : (inside : Bool) (g : Given) (o : Outgoing) (room : ℕ) → RefusalRules inside g o room (refusal_of inside g o room)
unfolding refusal_of
refusals inside g o room =
    let n : ℕ = length (encode g o) in
    let P : ℕ → Type 0 = RefusalRules inside g o room in
    cond_both P (ltb max_message n)
    (λ q.
    let over : max_message < n = ltb-true max_message n q in
    record {
      over = ((λ e. over), λ h. refl);
      short = ((λ e. absurd (omega arith)), λ h. absurd (omega (arith, h.0)));
      unfit = ((λ e. absurd (omega arith)), λ h. absurd (omega (arith, h.0)));
      written = ((λ e. absurd (omega arith)), λ h. absurd (omega (arith, h.0)));
    }) λ q.
    let limit : n ≤ max_message = ltb-false max_message n q in
    cond_both P (ltb room n)
    (λ r.
    let short : room < n = ltb-true room n r in
    record {
      over = ((λ e. absurd (omega arith)), λ h. absurd (omega (arith, h)));
      short = ((λ e. (limit, short)), λ h. refl);
      unfit = ((λ e. absurd (omega arith)), λ h. absurd (omega (arith, h.1)));
      written = ((λ e. absurd (omega arith)), λ h. absurd (omega (arith, h.1)));
    }) λ r.
    let enough : n ≤ room = ltb-false room n r in
    cond_both P (inside && fits g o)
    (λ s.
    record {
      over = ((λ e. absurd (omega arith)), λ h. absurd (omega (arith, h)));
      short = ((λ e. absurd (omega arith)), λ h. absurd (omega (arith, h.1)));
      unfit = ((λ e. absurd (omega arith)), λ h. absurd (both_not inside (fits g o) s h.2));
      written = ((λ e. (limit, enough, and_left inside (fits g o) s, and_right inside (fits g o) s)), λ h. refl);
    })
    (λ s.
    record {
      over = ((λ e. absurd (omega arith)), λ h. absurd (omega (arith, h)));
      short = ((λ e. absurd (omega arith)), λ h. absurd (omega (arith, h.1)));
      unfit = ((λ e. (limit, enough, not_both inside (fits g o) s)), λ h. refl);
      written = ((λ e. absurd (omega arith)), λ h. absurd (one_not inside (fits g o) s h.2 h.3));
    })

-- no refusal: short enough, and every part fits
pub record Unrefused (g : Given) (o : Outgoing) : Type 0 where
  pub short : length (encode g o) ≤ max_message
  pub nonce : (o.has_recip_nonce || blank o.recip_nonce.bytes) ≡ true
  pub contents : contents_fit o.kind o.contents ≡ true
  pub header : header_fits g ≡ true
  pub request : request_fits o.kind g.request ≡ true
  pub certificate : response_fits o.kind o.contents.status g.certificate ≡ true

pub unrefused : (inside : Bool) (g : Given) (o : Outgoing) (room : ℕ) → refusal_of inside g o room ≡ 0 → Unrefused g o
unfolding fits
unrefused inside g o room h =
    let u = (refusals inside g o room).written.0 h in
    let order : order_fits o ≡ true = and_left (order_fits o) _ u.3 in
    let r1 = and_right (order_fits o) _ u.3 in
    let r2 = and_right (header_fits g) _ r1 in
    let nonce : Bool = o.has_recip_nonce || blank o.recip_nonce.bytes in
    record {
      short = u.0;
      nonce = and_left nonce (contents_fit o.kind o.contents) order;
      contents = and_right nonce (contents_fit o.kind o.contents) order;
      header = and_left (header_fits g) _ r1;
      request = and_left (request_fits o.kind g.request) _ r2;
      certificate = and_right (request_fits o.kind g.request) _ r2;
    }
