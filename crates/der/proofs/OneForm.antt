-- Tag and length have one form only: what `head_of` reads are the bytes `head_bytes` gives, and these are read back.
use Rattle.std.specs.Prelude.{Ok, Err}
use Prim.Native.Nat.{ℕ, ◌+◌, ◌*◌, ◌/◌, ◌%◌, ◌<◌, ◌≤◌}
use mathlib.Core.Path.{◌≡◌, refl, sym, ◌∙◌, ap, subst}
use mathlib.Core.List.{List, [], ◌∷◌, ◌++◌}
use mathlib.Core.Bool.{true, not, ◌&&◌, ◌||◌}
use native.Mathlib.Nat.{div-add-mod', mod-lt, mod-eq_of_lt, mul-add-div_right, mul-add-mod_self_right, div-eq_of_lt, add-zero}
use native.Mathlib.Omega.{arith}
use borrow.Author.Tests.{ltb-true, ltb-false, eqb-true, eqb-false, lt-ltb, le-ltb, le-leb, ne_eqb}
use lib.ListN.{length, take, drop, length-drop, take-append-drop}
use lib.Seq.{take-suc, length-take-le}
use lib.Dec.{ltb, leb, eqb, lit<}
use Rattle.der.specs.Types.{Head, whole_head}
use Rattle.der.specs.declared.element.Element.{Element}
use Rattle.der.specs.declared.element.Element.TheVariants.{Primitive, Constructed, Faulty}
use Rattle.der.specs.Head.{byte, tag_ok, inside, length81, length82, length_of, head_of, head_bytes}
use Rattle.der.specs.Content.{content_ok}
use Rattle.der.specs.Element.{constructed, form_ok, judge, element_of}
use Rattle.der.proofs.Auto.{or_false_left, or_false_right}
use Rattle.der.proofs.HeadLaws.{cond-case, cond_both}

-- each is a byte
abbrev pub Bytes : List ℕ → Type 0
Bytes s = (i : ℕ) → byte s i < 256

-- the first bytes of a list that has so many
front2 : (s : List ℕ) → 2 ≤ length s → take 2 s ≡ byte s 0 ∷ byte s 1 ∷ []
front2 s h = take-suc s 1 0 (omega arith) ∙ ap (λ (l : List ℕ). l ++ (byte s 1 ∷ [])) (take-suc s 0 0 (omega arith))

front3 : (s : List ℕ) → 3 ≤ length s → take 3 s ≡ byte s 0 ∷ byte s 1 ∷ byte s 2 ∷ []
front3 s h = take-suc s 2 0 (omega arith) ∙ ap (λ (l : List ℕ). l ++ (byte s 2 ∷ [])) (front2 s (omega arith))

front4 : (s : List ℕ) → 4 ≤ length s → take 4 s ≡ byte s 0 ∷ byte s 1 ∷ byte s 2 ∷ byte s 3 ∷ []
front4 s h = take-suc s 3 0 (omega arith) ∙ ap (λ (l : List ℕ). l ++ (byte s 3 ∷ [])) (front3 s (omega arith))

-- what was read is what is written: a tag that may stand, a length below 65,536
unfoldable Written : List ℕ → Head → Type 0
Written s (Err rule) = Unit {0}
Written s (Ok hd) = (take hd.start s ≡ head_bytes hd.tag hd.len) × (tag_ok hd.tag ≡ true) × (hd.len < 65536)

bad : (s : List ℕ) (rule : ℕ) → Written s (Err rule)
unfolding Written
bad s rule = tt

inside-written : (s : List ℕ) (tag start len : ℕ) → take start s ≡ head_bytes tag len → tag_ok tag ≡ true → len < 65536 → Written s (inside (length s) tag start len)
unfolding inside Written
inside-written s tag start len e ok h = cond_both (Written s) (leb (start + len) (length s)) (λ t. (e, ok, h)) (λ t. tt)

short-written : (s : List ℕ) → 2 ≤ length s → byte s 1 < 128 → take 2 s ≡ head_bytes (byte s 0) (byte s 1)
unfolding head_bytes
short-written s h k = front2 s h ∙ sym (simp (lt-ltb (byte s 1) 128 k))

one_written : (s : List ℕ) → Bytes s → 3 ≤ length s → 128 ≤ byte s 2 → byte s 1 ≡ 129 → take 3 s ≡ head_bytes (byte s 0) (byte s 2)
unfolding head_bytes
one_written s b h k e =
    front3 s h
    ∙ sym (simp (le-ltb (byte s 2) 128 k, lt-ltb (byte s 2) 256 (b 2)) (ap (λ (x : ℕ). byte s 0 ∷ x ∷ byte s 2 ∷ []) (sym e)))

-- the two bytes of a length
high : (a b : ℕ) → b < 256 → (a * 256 + b) / 256 ≡ a
high a b h = mul-add-div_right (lit< tt) a b ∙ ap (λ (x : ℕ). a + x) (div-eq_of_lt h) ∙ add-zero a

low : (a b : ℕ) → b < 256 → (a * 256 + b) % 256 ≡ b
low a b h = mul-add-mod_self_right a 256 b ∙ mod-eq_of_lt h

two-written : (s : List ℕ) → Bytes s → 4 ≤ length s → 0 < byte s 2 → byte s 1 ≡ 130 → take 4 s ≡ head_bytes (byte s 0) (byte s 2 * 256 + byte s 3)
unfolding head_bytes
two-written s b h k e =
    front4 s h
    ∙ sym
    (simp (le-ltb (byte s 2 * 256 + byte s 3) 128 (omega arith), le-ltb (byte s 2 * 256 + byte s 3) 256 (omega arith), high (byte s 2) (byte s 3) (b 3), low (byte s 2) (byte s 3) (b 3))
    (ap (λ (x : ℕ). byte s 0 ∷ x ∷ byte s 2 ∷ byte s 3 ∷ []) (sym e)))

length-written : (s : List ℕ) → Bytes s → tag_ok (byte s 0) ≡ true → Written s (length_of s)
unfolding length_of length81 length82
length-written s b ok =
    let P : Head → Type 0 = Written s in
    let b2 : byte s 2 < 256 = b 2 in
    let b3 : byte s 3 < 256 = b 3 in
    cond_both P (ltb (length s) 2) (λ t. bad s 2) λ t.
    cond_both P (ltb (byte s 1) 128) (λ u. inside-written s (byte s 0) 2 (byte s 1) (short-written s (ltb-false _ _ t) (ltb-true _ _ u)) ok (omega (arith, ltb-true (byte s 1) 128 u))) λ u.
    cond_both P (eqb (byte s 1) 129)
    (λ v. cond_both P (ltb (length s) 3 || ltb (byte s 2) 128) (λ w. bad s 2) λ w.
    inside-written s (byte s 0) 3 (byte s 2)
    (one_written s b (ltb-false _ _ (or_false_left _ _ w)) (ltb-false _ _ (or_false_right (ltb (length s) 3) _ w)) (eqb-true _ _ v)) ok (omega arith)) λ v.
    cond_both P (eqb (byte s 1) 130)
    (λ x. cond_both P (ltb (length s) 4 || eqb (byte s 2) 0) (λ w. bad s 2) λ w.
    inside-written s (byte s 0) 4 (byte s 2 * 256 + byte s 3)
    (two-written s b (ltb-false _ _ (or_false_left _ _ w)) (omega (arith, eqb-false (byte s 2) 0 (or_false_right (ltb (length s) 4) _ w))) (eqb-true _ _ x)) ok (omega arith))
    (λ x. bad s 2)

head-written : (s : List ℕ) → Bytes s → Written s (head_of s)
unfolding head_of
head-written s b =
    cond_both (Written s) (eqb (length s) 0) (λ t. bad s 2) λ t.
    cond_both (Written s) (tag_ok (byte s 0)) (λ u. length-written s b u) λ u. bad s 1

-- ONE FORM: the bytes of a head are those that its tag and content length give; the tag may stand, and the length is below 65,536
pub one_form : (s : List ℕ) {tag start len : ℕ} → Bytes s → head_of s ≡ whole_head tag start len → (take start s ≡ head_bytes tag len) × (tag_ok tag ≡ true) × (len < 65536)
unfolding Written
one_form s b e = subst (Written s) e (head-written s b)

-- ONE ENCODING: two heads that read as the same tag and content length are the same bytes
pub one_encoding : (s t : List ℕ) {tag a b len : ℕ} → Bytes s → Bytes t → head_of s ≡ whole_head tag a len → head_of t ≡ whole_head tag b len → take a s ≡ take b t
one_encoding s t p q e f = (one_form s p e).0 ∙ sym (one_form t q f).0

-- each form is read where its bytes stand
module _ (s : List ℕ) (ok : tag_ok (byte s 0) ≡ true) where
  pub short_read : byte s 1 < 128 → 2 + byte s 1 ≤ length s → head_of s ≡ whole_head (byte s 0) 2 (byte s 1)
  unfolding head_of length_of inside
  short_read h fits =
      simp (ne_eqb (length s) 0 (λ z. omega arith), ok, le-ltb (length s) 2 (omega arith), lt-ltb (byte s 1) 128 h, le-leb (2 + byte s 1) (length s) fits)

  one_read : byte s 1 ≡ 129 → 128 ≤ byte s 2 → 3 + byte s 2 ≤ length s → head_of s ≡ whole_head (byte s 0) 3 (byte s 2)
  unfolding head_of length_of length81 inside
  one_read e h fits =
      simp (ne_eqb (length s) 0 (λ z. omega arith), ok, le-ltb (length s) 2 (omega arith), e, le-ltb (length s) 3 (omega arith), le-ltb (byte s 2) 128 h, le-leb (3 + byte s 2) (length s) fits)

  two_read : byte s 1 ≡ 130 → 0 < byte s 2 → 4 + (byte s 2 * 256 + byte s 3) ≤ length s → head_of s ≡ whole_head (byte s 0) 4 (byte s 2 * 256 + byte s 3)
  unfolding head_of length_of length82 inside
  two_read e h fits =
      simp (ne_eqb (length s) 0 (λ z. omega arith), ok, le-ltb (length s) 2 (omega arith), e, le-ltb (length s) 4 (omega arith), ne_eqb (byte s 2) 0 (λ z. omega arith), le-leb (4 + (byte s 2 * 256 + byte s 3)) (length s) fits)

-- READ BACK: the bytes of a tag that may stand and a length below 65,536, with so many bytes after them, are read as these
pub read_back : (tag len : ℕ) (rest : List ℕ) → tag_ok tag ≡ true → len < 65536 → len ≤ length rest → head_of (head_bytes tag len ++ rest) ≡ whole_head tag (length (head_bytes tag len)) len
unfolding head_bytes
read_back tag len rest ok small fits =
    let P : List ℕ → Type 0 = λ (l : List ℕ). head_of (l ++ rest) ≡ whole_head tag (length l) len in
    let whole : len / 256 * 256 + len % 256 ≡ len = div-add-mod' len 256 in
    cond_both P (ltb len 128)
    (λ t. short_read (tag ∷ len ∷ rest) ok (ltb-true _ _ t) (omega arith))
    λ t. cond_both P (ltb len 256)
    (λ u. one_read (tag ∷ 129 ∷ len ∷ rest) ok refl (ltb-false _ _ t) (omega arith))
    λ u. two_read (tag ∷ 130 ∷ len / 256 ∷ len % 256 ∷ rest) ok refl (omega (arith, ltb-false len 256 u, mod-lt len {m = 256} (lit< tt))) (omega arith)
    ∙ ap (whole_head tag 4) whole

-- END BY HEAD: where other bytes begin with the same head and have room for its content, the element there ends at the same place
pub same_end : (s t : List ℕ) {tag start len : ℕ} → Bytes s → head_of s ≡ whole_head tag start len → take start t ≡ take start s → start + len ≤ length t → head_of t ≡ whole_head tag start len
same_end s t {tag} {start} {len} b e same fits =
    let form = one_form s b e in
    let bytes : head_bytes tag len ≡ take start t = sym form.0 ∙ sym same in
    let here : start ≡ length (head_bytes tag len) = sym (ap length bytes ∙ length-take-le start t (omega arith)) in
    ap head_of (sym (take-append-drop start t) ∙ ap (λ (l : List ℕ). l ++ drop start t) (sym bytes))
    ∙ read_back tag len (drop start t) form.1 form.2 (omega (arith, length-drop start t))
    ∙ ap (λ (k : ℕ). whole_head tag k len) (sym here)

-- an element takes its head and the content that the head announces, and nothing else
Ends : Head → Element → Type 0
Ends h (Primitive size) = (tag : ℕ) × (start : ℕ) × (len : ℕ) × (h ≡ whole_head tag start len) × (size ≡ start + len)
Ends h (Constructed start len) = (tag : ℕ) × (h ≡ whole_head tag start len)
Ends h (Faulty rule) = Unit {0}

judge-ends : (d : ℕ) (s : List ℕ) (h : Head) → Ends h (judge d s h)
unfolding judge Ends
judge-ends d s (Err rule) = tt
judge-ends d s (Ok hd) =
    let P : Element → Type 0 = Ends (whole_head hd.tag hd.start hd.len) in
    cond-case P (form_ok hd.tag && not (eqb d 0))
    (cond-case P (constructed hd.tag) {x = Constructed hd.start hd.len} (hd.tag, refl)
    (cond-case P (content_ok hd.tag (take hd.len (drop hd.start s))) {x = Primitive (hd.start + hd.len)} {y = Faulty 4} (hd.tag, hd.start, hd.len, refl, refl) tt))
    tt

-- ELEMENT'S END: a well-formed primitive element ends where its head says, and so does a constructed one, whose content is what its head announces
pub primitive-end : (d : ℕ) (s : List ℕ) {size : ℕ} → element_of d s ≡ Primitive size → (tag : ℕ) × (start : ℕ) × (len : ℕ) × (head_of s ≡ whole_head tag start len) × (size ≡ start + len)
unfolding element_of Ends
primitive-end d s e = subst (Ends (head_of s)) e (judge-ends d s (head_of s))

pub constructed-end : (d : ℕ) (s : List ℕ) {start len : ℕ} → element_of d s ≡ Constructed start len → (tag : ℕ) × (head_of s ≡ whole_head tag start len)
unfolding element_of Ends
constructed-end d s e = subst (Ends (head_of s)) e (judge-ends d s (head_of s))
