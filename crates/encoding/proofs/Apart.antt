-- DER, taken apart: of whole elements the first is right, and so is what it holds and what comes after it. One such element stands alone.
use Prim.Native.Nat.{ℕ, suc, ◌+◌, ◌<◌}
use mathlib.Core.Path.{◌≡◌, refl, sym, ◌∙◌, ap, subst}
use mathlib.Core.List.{List, [], ◌++◌, append-nil}
use mathlib.Core.Bool.{true, false, true≢false}
use native.Mathlib.Omega.{arith}
use borrow.Author.Tests.{eq-eqb}
use lib.ListN.{length, length-append}
use Rattle.der.specs.Head.{tag_ok, head_bytes}
use Rattle.der.specs.Content.{content_ok}
use Rattle.der.specs.Element.{constructed, form_ok, fills, is_sound, is_element}
use Rattle.der.proofs.OneForm.{read_back}
use Rattle.encoding.specs.Element.{element}
use Rattle.encoding.proofs.Sound.{Fit, primitive, nested, Good, SoundAt, element-check, none_sound, element_sound, sound_anywhere, good_by}

-- the first element, and those after it
pub first_good : (d tag : ℕ) (v rest : List ℕ) → length v < 65536 → tag_ok tag ≡ true → SoundAt (suc d) (element tag v ++ rest)
    → Good d tag v × SoundAt (suc d) rest
first_good d tag v rest few ok s =
    let g = good_by d tag v rest few ok (ap is_sound (s 0)) (form_ok tag) (constructed tag) (content_ok tag v) refl refl refl in
    let n : ℕ = 0 + length (element tag v) in
    (g, sound_anywhere (suc d) n rest (ap is_sound (sym (element-check d tag v rest few 0 g) ∙ s 0)))

-- what it holds
fit_below : {d tag : ℕ} {v : List ℕ} → constructed tag ≡ true → Fit d tag v → SoundAt d v
fit_below c (primitive p k) = absurd (true≢false (sym c ∙ p))
fit_below c (nested p k) = k

fit_content : {d tag : ℕ} {v : List ℕ} → constructed tag ≡ false → Fit d tag v → content_ok tag v ≡ true
fit_content c (primitive p k) = k
fit_content c (nested p k) = absurd (true≢false (sym p ∙ c))

pub good_below : {d tag : ℕ} {v : List ℕ} → Good d tag v → constructed tag ≡ true → SoundAt d v
good_below g c = fit_below c g.fit

pub good-content : {d tag : ℕ} {v : List ℕ} → Good d tag v → constructed tag ≡ false → content_ok tag v ≡ true
good-content g c = fit_content c g.fit

-- alone
pub good-alone : (d tag : ℕ) (v : List ℕ) → length v < 65536 → Good d tag v → SoundAt (suc d) (element tag v)
good-alone d tag v few g =
    subst (SoundAt (suc d)) (append-nil (element tag v)) (element_sound d tag v [] few g (none_sound (suc d)))

one-fills : (tag : ℕ) (v : List ℕ) → tag_ok tag ≡ true → length v < 65536 → fills (element tag v) ≡ true
unfolding fills element
one-fills tag v ok few =
    rw (read_back tag (length v) v ok few (omega arith))
    (eq-eqb (length (head_bytes tag (length v)) + length v) _ (sym (length-append (head_bytes tag (length v)) v)))

pub content-size : (tag : ℕ) (v : List ℕ) → length (element tag v) < 65536 → length v < 65536
unfolding element
content-size tag v h = omega (arith, length-append (head_bytes tag (length v)) v)

-- ONE ELEMENT: whole elements that are one element
pub one-element : (d tag : ℕ) (v e : List ℕ) → e ≡ element tag v → tag_ok tag ≡ true → length e < 65536 → SoundAt d e → is_element d e ≡ true
unfolding is_element
one-element d tag v e is ok few s =
    rw (ap fills is ∙ one-fills tag v ok (content-size tag v (subst (λ (l : List ℕ). length l < 65536) is few)), s 0)
