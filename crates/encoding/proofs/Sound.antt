-- DER, composed: elements one after another, and an element around elements.
use Rattle.std.specs.Prelude.{Ok, Err}
use Prim.Native.Nat.{ℕ, zero, suc, ◌+◌, ◌-◌, ◌<◌}
use mathlib.Core.Path.{◌≡◌, refl, sym, ◌∙◌, ap, subst}
use mathlib.Core.List.{List, [], ◌∷◌, ◌++◌, append_assoc, append-nil}
use mathlib.Core.Bool.{Bool, true, false, ◌&&◌, true≢false}
use native.Mathlib.Omega.{arith}
use borrow.Author.Tests.{ne_eqb, eqb-true}
use lib.ListN.{length, take, drop, length-append, length-drop, take-append-drop}
use lib.Seq.{take-append_seam, drop-append_seam, drop_at}
use Rattle.der.specs.Head.{tag_ok, head_of, head_bytes}
use Rattle.der.specs.Content.{content_ok}
use Rattle.der.specs.Types.{Head, Check, whole_head}
use Rattle.der.specs.declared.element.Element.{Element}
use Rattle.der.specs.declared.element.Element.TheVariants.{Primitive, Constructed, Faulty}
use Rattle.der.specs.Element.{constructed, form_ok, judge, element_of, size_of, and_then, with_content, each_element, content_at, check_at, fills_to, fills, is_sound, is_element}
use Rattle.der.proofs.Auto.{and_left, and_right}
use Rattle.der.proofs.HeadLaws.{whole_in}
use Rattle.der.proofs.ElementLaws.{first-is}
use Rattle.der.proofs.OneForm.{Bytes, read_back, one_form}
use Rattle.encoding.specs.Element.{element}

-- ## An element with its content

-- what an element with this tag may hold, where d levels are left below it and it may stand itself
pub data Fit (d tag : ℕ) (v : List ℕ) : Type 0 where
  primitive : constructed tag ≡ false → content_ok tag v ≡ true → Fit d tag v
  nested : constructed tag ≡ true → ((b : ℕ) → check_at d b v ≡ (Ok tt)) → Fit d tag v

pub record Good (d tag : ℕ) (v : List ℕ) : Type 0 where
  pub tags : tag_ok tag ≡ true
  pub form : form_ok tag ≡ true
  pub fit : Fit d tag v

-- whole elements, wherever they stand
abbrev pub SoundAt : ℕ → List ℕ → Type 0
SoundAt d s = (b : ℕ) → check_at d b s ≡ (Ok tt)

inner_check : (d b : ℕ) (s : List ℕ) → content_at (suc d) b s ≡ check_at d b s
unfolding content_at check_at
inner_check d b s = refl

module _ (d tag : ℕ) (v rest : List ℕ) (few : length v < 65536) where
  start : ℕ
  start = length (head_bytes tag (length v))

  bytes_are : element tag v ++ rest ≡ head_bytes tag (length v) ++ (v ++ rest)
  unfolding element
  bytes_are = append_assoc (head_bytes tag (length v)) v rest

  size_is : length (element tag v) ≡ start + length v
  unfolding element start
  size_is = length-append (head_bytes tag (length v)) v

  content-is : take (length v) (drop start (element tag v ++ rest)) ≡ v
  unfolding start
  content-is = rw bytes_are (ap (take (length v)) (drop-append_seam (head_bytes tag (length v)) (v ++ rest)) ∙ take-append_seam v rest)

  rest_is : drop (start + length v) (element tag v ++ rest) ≡ rest
  rest_is = drop_at (element tag v) rest (start + length v) (size_is)

  head-is : tag_ok tag ≡ true → head_of (element tag v ++ rest) ≡ whole_head tag start (length v)
  unfolding start
  head-is ok = rw bytes_are (read_back tag (length v) (v ++ rest) ok few (omega (arith, length-append v rest)))

  some : tag_ok tag ≡ true → (0 < start) × (0 < length (element tag v ++ rest))
  some ok = let w = whole_in (element tag v ++ rest) refl (head-is ok) in omega arith

  fit_check : (b : ℕ) → tag_ok tag ≡ true → form_ok tag ≡ true → Fit d tag v
      → check_at (suc d) b (element tag v ++ rest) ≡ check_at (suc d) (b + length (element tag v)) rest
  unfolding element_of judge
  fit_check b ok form (primitive p k) =
      let z = some ok in
      first-is (suc d) b (element tag v ++ rest) {o = Primitive (start + length v)}
      (simp (head-is ok, form, ne_eqb (suc d) 0 (λ e. omega arith), p, content-is, k)) z.1 (omega arith)
      ∙ simp (rest_is, size_is)
  fit_check b ok form (nested p k) =
      let z = some ok in
      first-is (suc d) b (element tag v ++ rest) {o = Constructed start (length v)}
      (simp (head-is ok, form, ne_eqb (suc d) 0 (λ e. omega arith), p)) z.1 (omega arith)
      ∙ simp (rest_is, size_is, content-is, inner_check d (b + start) v, k (b + start))

  -- ELEMENT: a good element is passed
  pub element-check : (b : ℕ) → Good d tag v → check_at (suc d) b (element tag v ++ rest) ≡ check_at (suc d) (b + length (element tag v)) rest
  element-check b g = fit_check b g.tags g.form g.fit

pub none_sound : (d : ℕ) → SoundAt d []
unfolding check_at each_element
none_sound d b = refl

-- CONCATENATION: a good element before whole elements
pub element_sound : (d tag : ℕ) (v rest : List ℕ) → length v < 65536 → Good d tag v → SoundAt (suc d) rest
    → SoundAt (suc d) (element tag v ++ rest)
element_sound d tag v rest few g h b = element-check d tag v rest few b g ∙ h (b + length (element tag v))

-- NESTING: a constructed element around whole elements
pub node_sound : (d tag : ℕ) (v rest : List ℕ) → length v < 65536 → tag_ok tag ≡ true → form_ok tag ≡ true → constructed tag ≡ true
    → SoundAt d v → SoundAt (suc d) rest → SoundAt (suc d) (element tag v ++ rest)
node_sound d tag v rest few ok form c k = element_sound d tag v rest few (record { tags = ok; form = form; fit = nested c k })

pub leaf_sound : (d tag : ℕ) (v rest : List ℕ) → length v < 65536 → tag_ok tag ≡ true → form_ok tag ≡ true → constructed tag ≡ false
    → content_ok tag v ≡ true → SoundAt (suc d) rest → SoundAt (suc d) (element tag v ++ rest)
leaf_sound d tag v rest few ok form c k = element_sound d tag v rest few (record { tags = ok; form = form; fit = primitive c k })

-- ## Soundness does not depend on the offset

both_sound : (v w : Check) → is_sound (and_then v w) ≡ (is_sound v && is_sound w)
both_sound (Ok _) w = refl
both_sound (Err ft) w = refl

is_sound_lem : (v : Check) → is_sound v ≡ true → v ≡ (Ok tt)
is_sound_lem (Ok _) e = refl
is_sound_lem (Err ft) e = absurd (true≢false (sym e))

abbrev Anywhere : (ℕ → List ℕ → Check) → Type 0
Anywhere inner = (a b : ℕ) (s : List ℕ) → is_sound (inner a s) ≡ is_sound (inner b s)

content_anywhere : (inner : ℕ → List ℕ → Check) → Anywhere inner → (a b : ℕ) (s : List ℕ) (o : Element)
    → is_sound (with_content inner a s o) ≡ is_sound (with_content inner b s o)
content_anywhere inner ih a b s (Primitive size) = refl
content_anywhere inner ih a b s (Constructed start len) = ih (a + start) (b + start) (take len (drop start s))
content_anywhere inner ih a b s (Faulty rule) = refl

run_anywhere : (inner : ℕ → List ℕ → Check) → Anywhere inner → (d k a b : ℕ) (s : List ℕ)
    → is_sound (each_element inner d k a s) ≡ is_sound (each_element inner d k b s)
unfolding each_element
run_anywhere inner ih d k a b [] = refl
run_anywhere inner ih d (suc k) a b (x ∷ s) = run_anywhere inner ih d k (a + 1) (b + 1) s
run_anywhere inner ih d zero a b (x ∷ s) =
    rw (
      both_sound (with_content inner a (x ∷ s) (element_of d (x ∷ s))) (each_element inner d (size_of (element_of d (x ∷ s)) - 1) (a + 1) s),
      both_sound (with_content inner b (x ∷ s) (element_of d (x ∷ s))) (each_element inner d (size_of (element_of d (x ∷ s)) - 1) (b + 1) s),
      content_anywhere inner ih a b (x ∷ s) (element_of d (x ∷ s)),
      run_anywhere inner ih d (size_of (element_of d (x ∷ s)) - 1) (a + 1) (b + 1) s,
    )

inner_anywhere : (d : ℕ) → Anywhere (content_at d)
unfolding content_at
inner_anywhere zero a b s = refl
inner_anywhere (suc d) a b s = run_anywhere (content_at d) (inner_anywhere d) d 0 a b s

pub sound_anywhere : (d a : ℕ) (s : List ℕ) → is_sound (check_at d a s) ≡ true → SoundAt d s
unfolding check_at
sound_anywhere d a s e b = is_sound_lem (check_at d b s) (run_anywhere (content_at d) (inner_anywhere d) d 0 b a s ∙ e)

-- ## An element that is given whole

first_of : {r : Check} (v w : Check) → r ≡ and_then v w → is_sound r ≡ true → is_sound v ≡ true
first_of (Ok _) w e s = refl
first_of (Err ft) w e s = sym (ap is_sound e) ∙ s

-- the first of whole elements
module _
    (d tag : ℕ) (v rest : List ℕ) (few : length v < 65536) (ok : tag_ok tag ≡ true)
    (sound : is_sound (check_at (suc d) 0 (element tag v ++ rest)) ≡ true)
  where
    pub good_by : (f c k : Bool) → form_ok tag ≡ f → constructed tag ≡ c → content_ok tag v ≡ k → Good d tag v
    unfolding element_of judge
    good_by false c k qf qc qk =
        let z = some d tag v rest few ok in
        let e = first-is (suc d) 0 (element tag v ++ rest) {o = Faulty 3} (simp (head-is d tag v rest few ok, qf)) z.1 (omega arith) in
        absurd (true≢false (sym sound ∙ ap is_sound e))
    good_by true true k qf qc qk =
        let z = some d tag v rest few ok in
        let e =
        first-is (suc d) 0 (element tag v ++ rest) {o = Constructed (start d tag v rest few) (length v)}
        (simp (head-is d tag v rest few ok, qf, ne_eqb (suc d) 0 (λ e. omega arith), qc)) z.1 (omega arith) in
        let a : ℕ = 0 + start d tag v rest few in
        let inner : content_at (suc d) a (take (length v) (drop (start d tag v rest few) (element tag v ++ rest))) ≡ check_at d a v =
        ap (content_at (suc d) a) (content-is d tag v rest few) ∙ inner_check d a v in
        let t =
        first_of (content_at (suc d) a (take (length v) (drop (start d tag v rest few) (element tag v ++ rest))))
        (check_at (suc d) (0 + (start d tag v rest few + length v)) (drop (start d tag v rest few + length v) (element tag v ++ rest))) e sound in
        record { tags = ok; form = qf; fit = nested qc (sound_anywhere d a v (sym (ap is_sound inner) ∙ t)) }
    good_by true false false qf qc qk =
        let z = some d tag v rest few ok in
        let e =
        first-is (suc d) 0 (element tag v ++ rest) {o = Faulty 4}
        (simp (head-is d tag v rest few ok, qf, ne_eqb (suc d) 0 (λ e. omega arith), qc, content-is d tag v rest few, qk)) z.1 (omega arith) in
        absurd (true≢false (sym sound ∙ ap is_sound e))
    good_by true false true qf qc qk = record { tags = ok; form = qf; fit = primitive qc qk }

-- e is one element, and what it holds is right
pub record Whole-element (d : ℕ) (e : List ℕ) : Type 0 where
  pub tag : ℕ
  pub content : List ℕ
  pub is : e ≡ element tag content
  pub small : length content < 65536
  pub good : Good d tag content

-- GIVEN: an element by itself, with nothing after it, nested at most so deep
pub given-element : (d : ℕ) (e : List ℕ) → Bytes e → is_element (suc d) e ≡ true → Whole-element d e
unfolding is_element fills element
given-element d e bytes h = go (head_of e) refl
  where
    go : (o : Head) → head_of e ≡ o → Whole-element d e
    go (Err rule) q = absurd (true≢false (sym (and_left _ (is_sound (check_at (suc d) 0 e)) h) ∙ ap (fills_to (length e)) q))
    go (Ok hd) q =
        let form = one_form e bytes q in
        let fit : hd.start + hd.len ≡ length e =
        eqb-true (hd.start + hd.len) (length e) (sym (ap (fills_to (length e)) q) ∙ and_left _ (is_sound (check_at (suc d) 0 e)) h) in
        let size : length (drop hd.start e) ≡ hd.len = length-drop hd.start e ∙ omega arith in
        let is : e ≡ head_bytes hd.tag (length (drop hd.start e)) ++ drop hd.start e =
        sym (take-append-drop hd.start e) ∙ ap (λ (l : List ℕ). l ++ drop hd.start e) (form.0 ∙ ap (head_bytes hd.tag) (sym size)) in
        let small : length (drop hd.start e) < 65536 = omega (arith, form.2) in
        let sound : is_sound (check_at (suc d) 0 (element hd.tag (drop hd.start e) ++ [])) ≡ true =
        ap (λ (l : List ℕ). is_sound (check_at (suc d) 0 l)) (append-nil (element hd.tag (drop hd.start e)) ∙ sym is)
        ∙ and_right (fills_to (length e) (head_of e)) _ h in
        let v : List ℕ = drop hd.start e in
        record {
          tag = hd.tag;
          content = v;
          is = is;
          small = small;
          good = good_by d hd.tag v [] small form.1 sound (form_ok hd.tag) (constructed hd.tag) (content_ok hd.tag v) refl refl refl;
        }

pub given_sound : (d : ℕ) {e : List ℕ} (rest : List ℕ) → Whole-element d e → SoundAt (suc d) rest → SoundAt (suc d) (e ++ rest)
given_sound d rest w h =
    subst (λ (l : List ℕ). SoundAt (suc d) (l ++ rest)) (sym w.is) (element_sound d w.tag w.content rest w.small w.good h)

-- ## The same with no word on sizes: they follow from the size of all

abbrev pub Sounds : ℕ → List ℕ → Type 0
Sounds d x = length x < 65536 → SoundAt d x

sizes : (tag : ℕ) (v rest : List ℕ) → length (element tag v ++ rest) < 65536 → (length v < 65536) × (length rest < 65536)
unfolding element
sizes tag v rest h =
    let a = length-append (head_bytes tag (length v) ++ v) rest in
    let b = length-append (head_bytes tag (length v)) v in
    omega arith

pub none_sounds : (d : ℕ) → Sounds d []
none_sounds d h = none_sound d

pub node_sounds : (d tag : ℕ) (v rest : List ℕ) → tag_ok tag ≡ true → form_ok tag ≡ true → constructed tag ≡ true → Sounds d v
    → Sounds (suc d) rest → Sounds (suc d) (element tag v ++ rest)
node_sounds d tag v rest ok form c f g h = let s = sizes tag v rest h in node_sound d tag v rest s.0 ok form c (f s.0) (g s.1)

pub leaf_sounds : (d tag : ℕ) (v rest : List ℕ) → tag_ok tag ≡ true → form_ok tag ≡ true → constructed tag ≡ false → content_ok tag v ≡ true
    → Sounds (suc d) rest → Sounds (suc d) (element tag v ++ rest)
leaf_sounds d tag v rest ok form c k g h = let s = sizes tag v rest h in leaf_sound d tag v rest s.0 ok form c k (g s.1)

pub given_sounds : (d : ℕ) {e : List ℕ} (rest : List ℕ) → Whole-element d e → Sounds (suc d) rest → Sounds (suc d) (e ++ rest)
given_sounds d {e} rest w g h = given_sound d rest w (g (omega (arith, length-append e rest)))
