-- Laws of tag and length: a head that is whole takes two to four bytes, its content ends inside the parent, and its tag is the first byte.
use Rattle.std.specs.Prelude.{Ok, Err}
use Prim.Native.Nat.{ℕ, ◌+◌, ◌-◌, ◌*◌, ◌/◌, ◌%◌, ◌<◌, ◌≤◌}
use mathlib.Core.Path.{◌≡◌, refl, sym, ◌∙◌, ap, subst}
use native.Mathlib.Nat.{mul-add-mod_self_right, mod-eq_of_lt, mul-add-div_right, div-eq_of_lt, add-zero}
use mathlib.Core.List.{List}
use mathlib.Core.Bool.{Bool, true, false, cond, ◌||◌}
use native.Mathlib.Omega.{arith}
use borrow.Author.Tests.{leb-true, le-ltb, eq-eqb, ne_eqb}
use lib.ListN.{length, get_or, take, drop, length-take}
use lib.Dec.{ltb, leb, eqb, lit≤, lit<}
use Rattle.der.specs.declared.head.Whole.{Whole}
use Rattle.der.specs.Types.{Head, whole_head}
use Rattle.der.specs.Head.{byte, tag_ok, inside, length_of, length81, length82, head_of}

-- what holds in each case of a test, under that case
pub cond_both {ℓ ℓ'} : {A : Type ℓ} (P : A → Type ℓ') (b : Bool) {x y : A} → (b ≡ true → P x) → (b ≡ false → P y) → P (cond b x y)
cond_both P true p q = p refl
cond_both P false p q = q refl

-- what holds in each case, whatever the test
pub cond-case {ℓ ℓ'} : {A : Type ℓ} (P : A → Type ℓ') (b : Bool) {x y : A} → P x → P y → P (cond b x y)
cond-case P b p q = cond_both P b (λ e. p) (λ e. q)

-- ## A head that is whole

-- of n bytes, a head that is whole takes at least two, and its content ends inside
unfoldable pub HeadIn : ℕ → Head → Type 0
HeadIn n (Err rule) = Unit {0}
HeadIn n (Ok hd) = (2 ≤ hd.start) × (hd.start ≤ 4) × (hd.start + hd.len ≤ n)

bad_in : (n rule : ℕ) → HeadIn n (Err rule)
unfolding HeadIn
bad_in n rule = tt

inside_in : (n tag start len : ℕ) → 2 ≤ start → start ≤ 4 → HeadIn n (inside n tag start len)
unfolding inside HeadIn
inside_in n tag start len h k = cond_both (HeadIn n) (leb (start + len) n) (λ e. (h, k, leb-true _ _ e)) (λ e. tt)

length_in : (s : List ℕ) → HeadIn (length s) (length_of s)
unfolding length_of length81 length82
length_in s =
    let P : Head → Type 0 = HeadIn (length s) in
    let bad : P (Err 2) = bad_in (length s) 2 in
    let in2 = inside_in (length s) (get_or s 0 0) 2 (get_or s 1 0) (lit≤ tt) (lit≤ tt) in
    let in3 = inside_in (length s) (get_or s 0 0) 3 (get_or s 2 0) (lit≤ tt) (lit≤ tt) in
    let in4 = inside_in (length s) (get_or s 0 0) 4 (get_or s 2 0 * 256 + get_or s 3 0) (lit≤ tt) (lit≤ tt) in
    cond-case P (ltb (length s) 2) bad
    (cond-case P (ltb (get_or s 1 0) 128) in2
    (cond-case P (eqb (get_or s 1 0) 129) (cond-case P (ltb (length s) 3 || ltb (get_or s 2 0) 128) bad in3)
    (cond-case P (eqb (get_or s 1 0) 130) (cond-case P (ltb (length s) 4 || eqb (get_or s 2 0) 0) bad in4) bad)))

pub head_in_lem : (s : List ℕ) → HeadIn (length s) (head_of s)
unfolding head_of
head_in_lem s =
    let P : Head → Type 0 = HeadIn (length s) in
    cond-case P (eqb (length s) 0) (bad_in (length s) 2) (cond-case P (tag_ok (get_or s 0 0)) (length_in s) (bad_in (length s) 1))

pub whole_in : (s : List ℕ) {r : Head} {tag start len : ℕ} → r ≡ head_of s → r ≡ whole_head tag start len → (2 ≤ start) × (start ≤ 4) × (start + len ≤ length s)
unfolding HeadIn
whole_in s e k = subst (HeadIn (length s)) (sym e ∙ k) (head_in_lem s)

-- a whole element at a, in what is left up to e, ends by e
pub span_in_lem : (m : List ℕ) (a e : ℕ) {r : Head} {tag start len : ℕ} → a ≤ e → r ≡ head_of (take (e - a) (drop a m)) → r ≡ whole_head tag start len → (2 ≤ start) × (a + start + len ≤ e)
span_in_lem m a e h is k = omega (arith, whole_in (take (e - a) (drop a m)) is k, length-take (e - a) (drop a m))

-- the same of a head that was read
pub ok_fits : (s : List ℕ) {h : Whole} → Ok h ≡ head_of s → h.start + h.len ≤ length s
ok_fits s e = (whole_in s refl (sym e)).2

pub length_whole_in : (s : List ℕ) {tag start len : ℕ} → whole_head tag start len ≡ length_of s → (2 ≤ start) × (start ≤ 4) × (start + len ≤ length s)
unfolding HeadIn
length_whole_in s e = subst (HeadIn (length s)) (sym e) (length_in s)

pub ok_length_fits : (s : List ℕ) {h : Whole} → Ok h ≡ length_of s → (2 ≤ h.start) × (h.start ≤ 4) × (h.start + h.len ≤ length s)
ok_length_fits s e = length_whole_in s e

-- ## The tag of a whole head is its first byte

unfoldable TagIs : ℕ → Head → Type 0
TagIs t (Err rule) = Unit {0}
TagIs t (Ok hd) = hd.tag ≡ t

bad_tag : (t rule : ℕ) → TagIs t (Err rule)
unfolding TagIs
bad_tag t rule = tt

inside_tag : (n t start len : ℕ) → TagIs t (inside n t start len)
unfolding inside TagIs
inside_tag n t start len = cond-case (TagIs t) (leb (start + len) n) {x = whole_head t start len} {y = Err 2} refl tt

length_tag_is : (s : List ℕ) → TagIs (byte s 0) (length_of s)
unfolding length_of length81 length82
length_tag_is s =
    let t : ℕ = byte s 0 in
    let n : ℕ = length s in
    let P : Head → Type 0 = TagIs t in
    let bad : P (Err 2) = bad_tag t 2 in
    cond-case P (ltb n 2) bad
    (cond-case P (ltb (byte s 1) 128) (inside_tag n t 2 (byte s 1))
    (cond-case P (eqb (byte s 1) 129) (cond-case P (ltb n 3 || ltb (byte s 2) 128) bad (inside_tag n t 3 (byte s 2)))
    (cond-case P (eqb (byte s 1) 130) (cond-case P (ltb n 4 || eqb (byte s 2) 0) bad (inside_tag n t 4 (byte s 2 * 256 + byte s 3))) bad)))

head_tag_is : (s : List ℕ) → TagIs (byte s 0) (head_of s)
unfolding head_of TagIs
head_tag_is s = cond-case (TagIs (byte s 0)) (eqb (length s) 0) {x = Err 2} tt (cond-case (TagIs (byte s 0)) (tag_ok (byte s 0)) {y = Err 1} (length_tag_is s) tt)

pub length-tag : (s : List ℕ) {tag start len : ℕ} → whole_head tag start len ≡ length_of s → tag ≡ byte s 0
unfolding TagIs
length-tag s e = subst (TagIs (byte s 0)) (sym e) (length_tag_is s)

pub whole-tag : (s : List ℕ) {tag start len : ℕ} → head_of s ≡ whole_head tag start len → tag ≡ byte s 0
unfolding TagIs
whole-tag s e = subst (TagIs (byte s 0)) e (head_tag_is s)

-- a length is bad by rule 2 alone
unfoldable IsTwo : Head → Type 0
IsTwo (Err rule) = rule ≡ 2
IsTwo (Ok hd) = Unit {0}

two : IsTwo (Err 2)
unfolding IsTwo
two = refl

inside_two : (n t start len : ℕ) → IsTwo (inside n t start len)
unfolding inside IsTwo
inside_two n t start len = cond-case IsTwo (leb (start + len) n) {x = whole_head t start len} {y = Err 2} tt refl

length_two : (s : List ℕ) → IsTwo (length_of s)
unfolding length_of length81 length82
length_two s =
    let t : ℕ = byte s 0 in
    let n : ℕ = length s in
    cond-case IsTwo (ltb n 2) two
    (cond-case IsTwo (ltb (byte s 1) 128) (inside_two n t 2 (byte s 1))
    (cond-case IsTwo (eqb (byte s 1) 129) (cond-case IsTwo (ltb n 3 || ltb (byte s 2) 128) two (inside_two n t 3 (byte s 2)))
    (cond-case IsTwo (eqb (byte s 1) 130) (cond-case IsTwo (ltb n 4 || eqb (byte s 2) 0) two (inside_two n t 4 (byte s 2 * 256 + byte s 3))) two)))

pub bad_length_is : (s : List ℕ) {rule : ℕ} → Err rule ≡ length_of s → rule ≡ 2
unfolding IsTwo
bad_length_is s e = subst IsTwo (sym e) (length_two s)

-- ## Two bytes of length: 256 or more exactly where the first is not 0

-- the length is `len`, from `start` on, where so many bytes fit
unfoldable pub Form : List ℕ → ℕ → ℕ → Type 0
Form s start len = (start < 5) × (len < 65536) × (length_of s ≡ inside (length s) (byte s 0) start len)

module _ (s : List ℕ) where
  pub form_82 : length_of s ≡ length82 s → 4 ≤ length s → {a b : ℕ} → (a ≡ byte s 2) × (a < 256) → (b ≡ byte s 3) × (b < 256) → 256 ≤ a * 256 + b → Form s 4 (a * 256 + b)
  unfolding length82 Form
  form_82 e four q r h =
      (lit< tt, omega (arith, q.1, r.1), rw (q.0, r.0) (simp (e, le-ltb (length s) 4 four, ne_eqb (byte s 2) 0 (λ z. omega (arith, z, q.0, r.1, h)))))

  pub low_82 : length_of s ≡ length82 s → 4 ≤ length s → {a : ℕ} → a ≡ byte s 2 → (b : ℕ) → a * 256 + b < 256 → length_of s ≡ Err 2
  unfolding length82
  low_82 e four q b h = simp (e, le-ltb (length s) 4 four, eq-eqb (byte s 2) 0 (omega (arith, q, h)))
