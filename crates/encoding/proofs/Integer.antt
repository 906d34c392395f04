-- A number of 32 bits as an INTEGER.
use Prim.Native.Nat.{ℕ, ◌+◌, ◌*◌, ◌/◌, ◌%◌, ◌<◌, ◌≤◌}
use mathlib.Core.Path.{◌≡◌, refl, sym, ◌∙◌, ap}
use mathlib.Core.List.{List, [], ◌∷◌}
use mathlib.Core.Bool.{Bool, true, false, cond, ◌||◌, true≢false}
use mathlib.Core.Logic.{◌⊎◌, inl, inr}
use native.Mathlib.Nat.{mod-eq_of_lt}
use native.Mathlib.Omega.{arith}
use borrow.Author.Tests.{lt-ltb, le-ltb, lt-leb, le-leb, eq-eqb, ne_eqb, eqb-true, eqb-false, not-true, ltb-true, ltb-false, leb-true, leb-false}
use lib.ListN.{length}
use lib.Dec.{ltb, leb, eqb, lit≤}
use Rattle.der.specs.Content.{integer_ok}
use Rattle.der.proofs.Auto.{or_cases, or_false_left, or_false_right}
use Rattle.der.proofs.OneForm.{Bytes}
use Rattle.der.proofs.HeadLaws.{cond_both, cond-case}
use Rattle.der.specs.Integer.{shift_in, signed32}
use Rattle.encoding.specs.Element.{integer_bytes}

one_byte : (a : ℕ) → integer_ok (a ∷ []) ≡ true
unfolding integer_ok
one_byte a = refl

pub integer-short : (n : ℕ) → length (integer_bytes n) ≤ 4
unfolding integer_bytes
integer-short n =
    let P : List ℕ → Type 0 = λ (l : List ℕ). length l ≤ 4 in
    cond-case P (ltb n 0x80 || leb 0xFFFFFF80 n) (lit≤ tt)
    (cond-case P (ltb n 0x8000 || leb 0xFFFF8000 n) (lit≤ tt) (cond-case P (ltb n 0x800000 || leb 0xFF800000 n) (lit≤ tt) (lit≤ tt)))

-- small and not negative, or small and negative
low_or_high : (n a b : ℕ) → (ltb n a || leb b n) ≡ true → (n < a) ⊎ (b ≤ n)
low_or_high n a b e = go (or_cases (ltb n a) (leb b n) e)
  where
    go : (ltb n a ≡ true) ⊎ (leb b n ≡ true) → (n < a) ⊎ (b ≤ n)
    go (inl p) = inl (ltb-true n a p)
    go (inr p) = inr (leb-true b n p)

between : (n a b : ℕ) → (ltb n a || leb b n) ≡ false → (a ≤ n) × (n < b)
between n a b e = (ltb-false n a (or_false_left (ltb n a) (leb b n) e), leb-false b n (or_false_right (ltb n a) (leb b n) e))

-- one byte shifted in
shift_to : (v x w : ℕ) (s : List ℕ) → (v * 256 + x) % 4294967296 ≡ w → shift_in v (x ∷ s) ≡ shift_in w s
unfolding shift_in
shift_to v x w s e = ap (λ (k : ℕ). shift_in k s) e

ended : {v n : ℕ} → v ≡ n → shift_in v [] ≡ n
unfolding shift_in
ended e = e

from_0 : (x : ℕ) (s : List ℕ) → x < 256 → shift_in 0 (x ∷ s) ≡ shift_in x s
from_0 x s h = shift_to 0 x x s (omega arith)

next_0 : (v x : ℕ) (s : List ℕ) → v * 256 + x < 4294967296 → shift_in v (x ∷ s) ≡ shift_in (v * 256 + x) s
next_0 v x s h = shift_to v x (v * 256 + x) s (mod-eq_of_lt h)

from_1 : (x : ℕ) (s : List ℕ) → x < 256 → shift_in 4294967295 (x ∷ s) ≡ shift_in (4294967040 + x) s
from_1 x s h = shift_to 4294967295 x (4294967040 + x) s (omega arith)

-- ones in front, so many of them that they stay
to : (f v x g : ℕ) (s : List ℕ) → ((f + v) * 256 + x) % 4294967296 ≡ g + (v * 256 + x)
    → shift_in (f + v) (x ∷ s) ≡ shift_in (g + (v * 256 + x)) s
to f v x g s e = shift_to (f + v) x (g + (v * 256 + x)) s e

-- the ones in front are shifted out
last : (v x : ℕ) → v < 16777216 → x < 256 → shift_in (4278190080 + v) (x ∷ []) ≡ shift_in (v * 256 + x) []
last v x h k = shift_to (4278190080 + v) x (v * 256 + x) [] (omega arith)

module _ (n : ℕ) (word : n < 4294967296) where
  one : (n < 0x80) ⊎ (0xFFFFFF80 ≤ n) → signed32 (n % 256 ∷ []) ≡ n
  unfolding signed32 shift_in
  one (inl h) = rw (lt-leb 128 (n % 256) (omega arith)) (omega arith)
  one (inr h) = rw (le-leb 128 (n % 256) (omega arith)) (omega arith)

  two : (n < 0x8000) ⊎ (0xFFFF8000 ≤ n) → signed32 (n / 256 % 256 ∷ n % 256 ∷ []) ≡ n
  unfolding signed32 shift_in
  two (inl h) = rw (lt-leb 128 (n / 256 % 256) (omega arith)) (omega arith)
  two (inr h) = rw (le-leb 128 (n / 256 % 256) (omega arith)) (omega arith)

  three : (n < 0x800000) ⊎ (0xFF800000 ≤ n) → signed32 (n / 65536 % 256 ∷ n / 256 % 256 ∷ n % 256 ∷ []) ≡ n
  unfolding signed32
  three (inl h) =
      let a : ℕ = n / 65536 % 256 in
      let b : ℕ = n / 256 % 256 in
      rw (lt-leb 128 (n / 65536 % 256) (omega arith))
      (from_0 a (b ∷ n % 256 ∷ []) (omega arith) ∙ next_0 a b (n % 256 ∷ []) (omega arith) ∙ next_0 (a * 256 + b) (n % 256) [] (omega arith)
      ∙ ended (omega arith))
  three (inr h) =
      let a : ℕ = n / 65536 % 256 in
      let b : ℕ = n / 256 % 256 in
      rw (le-leb 128 (n / 65536 % 256) (omega arith))
      (from_1 a (b ∷ n % 256 ∷ []) (omega arith) ∙ to 4294967040 a b 4294901760 (n % 256 ∷ []) (omega arith)
      ∙ to 4294901760 (a * 256 + b) (n % 256) 4278190080 [] (omega arith) ∙ ended (omega arith))

  four : signed32 (n / 16777216 ∷ n / 65536 % 256 ∷ n / 256 % 256 ∷ n % 256 ∷ []) ≡ n
  unfolding signed32
  four =
      let a : ℕ = n / 16777216 in
      let b : ℕ = n / 65536 % 256 in
      let c : ℕ = n / 256 % 256 in
      cond-case (λ (v : ℕ). shift_in v (n / 16777216 ∷ n / 65536 % 256 ∷ n / 256 % 256 ∷ n % 256 ∷ []) ≡ n) (leb 128 (n / 16777216))
      (from_1 a (b ∷ c ∷ n % 256 ∷ []) (omega arith) ∙ to 4294967040 a b 4294901760 (c ∷ n % 256 ∷ []) (omega arith)
      ∙ to 4294901760 (a * 256 + b) c 4278190080 (n % 256 ∷ []) (omega arith)
      ∙ last ((a * 256 + b) * 256 + c) (n % 256) (omega arith) (omega arith) ∙ ended (omega arith))
      (from_0 a (b ∷ c ∷ n % 256 ∷ []) (omega arith) ∙ next_0 a b (c ∷ n % 256 ∷ []) (omega arith)
      ∙ next_0 (a * 256 + b) c (n % 256 ∷ []) (omega arith) ∙ next_0 ((a * 256 + b) * 256 + c) (n % 256) [] (omega arith)
      ∙ ended (omega arith))

  -- VALUE: the number that is written is the number that is read
  pub integer_value : signed32 (integer_bytes n) ≡ n
  unfolding integer_bytes
  integer_value =
      let P : List ℕ → Type 0 = λ (l : List ℕ). signed32 l ≡ n in
      cond_both P (ltb n 0x80 || leb 0xFFFFFF80 n) (λ e. one (low_or_high n 0x80 0xFFFFFF80 e)) λ e.
      cond_both P (ltb n 0x8000 || leb 0xFFFF8000 n) (λ f. two (low_or_high n 0x8000 0xFFFF8000 f)) λ f.
      cond_both P (ltb n 0x800000 || leb 0xFF800000 n) (λ g. three (low_or_high n 0x800000 0xFF800000 g)) λ g. four

  -- the first nine bits are not all alike
  ok_by : (a b : ℕ) (rest : List ℕ) → (a ≡ 0 → 128 ≤ b) → (a ≡ 255 → b < 128) → integer_ok (a ∷ b ∷ rest) ≡ true
  unfolding integer_ok
  ok_by a b rest p q =
      let P : Bool → Type 0 = λ (t : Bool). t ≡ true in
      rw (ne_eqb (length (a ∷ b ∷ rest)) 0 (λ e. omega arith), le-ltb (length (a ∷ b ∷ rest)) 2 (omega arith))
      (cond_both P (eqb a 0) (λ e. rw (le-ltb b 128 (p (eqb-true a 0 e)))) λ e.
      cond_both P (eqb a 255) (λ f. lt-ltb b 128 (q (eqb-true a 255 f))) λ f. refl)

  -- SHORTEST: it is an INTEGER of DER
  pub integer_ok_lem : integer_ok (integer_bytes n) ≡ true
  unfolding integer_bytes
  integer_ok_lem =
      let P : List ℕ → Type 0 = λ (l : List ℕ). integer_ok l ≡ true in
      cond_both P (ltb n 0x80 || leb 0xFFFFFF80 n) (λ e. single (n % 256)) λ e.
      let r = between n 0x80 0xFFFFFF80 e in
      cond_both P (ltb n 0x8000 || leb 0xFFFF8000 n)
      (λ f.
      let h = low_or_high n 0x8000 0xFFFF8000 f in
      ok_by (n / 256 % 256) (n % 256) [] (λ z. two_low h z r) (λ z. two_high h z r)) λ f.
      let s = between n 0x8000 0xFFFF8000 f in
      cond_both P (ltb n 0x800000 || leb 0xFF800000 n)
      (λ g.
      let h = low_or_high n 0x800000 0xFF800000 g in
      ok_by (n / 65536 % 256) (n / 256 % 256) (n % 256 ∷ []) (λ z. three_low h z s) (λ z. three_high h z s)) λ g.
      let t = between n 0x800000 0xFF800000 g in
      ok_by (n / 16777216) (n / 65536 % 256) (n / 256 % 256 ∷ n % 256 ∷ []) (λ z. omega arith) (λ z. omega arith)
    where
      single : (a : ℕ) → integer_ok (a ∷ []) ≡ true
      single a = one_byte a

      two_low : (n < 0x8000) ⊎ (0xFFFF8000 ≤ n) → n / 256 % 256 ≡ 0 → (0x80 ≤ n) × (n < 0xFFFFFF80) → 128 ≤ n % 256
      two_low (inl h) z r = omega arith
      two_low (inr h) z r = omega arith

      two_high : (n < 0x8000) ⊎ (0xFFFF8000 ≤ n) → n / 256 % 256 ≡ 255 → (0x80 ≤ n) × (n < 0xFFFFFF80) → n % 256 < 128
      two_high (inl h) z r = omega arith
      two_high (inr h) z r = omega arith

      three_low : (n < 0x800000) ⊎ (0xFF800000 ≤ n) → n / 65536 % 256 ≡ 0 → (0x8000 ≤ n) × (n < 0xFFFF8000) → 128 ≤ n / 256 % 256
      three_low (inl h) z r = omega arith
      three_low (inr h) z r = omega arith

      three_high : (n < 0x800000) ⊎ (0xFF800000 ≤ n) → n / 65536 % 256 ≡ 255 → (0x8000 ≤ n) × (n < 0xFFFF8000) → n / 256 % 256 < 128
      three_high (inl h) z r = omega arith
      three_high (inr h) z r = omega arith

-- ## ONLY: no other bytes say the number

yes_low : (n a b : ℕ) → n < a → (ltb n a || leb b n) ≡ true
yes_low n a b h = rw (lt-ltb n a h)

yes_high : (n a b : ℕ) → a ≤ n → b ≤ n → (ltb n a || leb b n) ≡ true
yes_high n a b h k = rw (le-ltb n a h, le-leb b n k)

no : (n a b : ℕ) → a ≤ n → n < b → (ltb n a || leb b n) ≡ false
no n a b h k = rw (le-ltb n a h, lt-leb b n k)

-- the bytes that are written, by the ranges
module _ (n : ℕ) where
  as_1 : (ltb n 0x80 || leb 0xFFFFFF80 n) ≡ true → integer_bytes n ≡ n % 256 ∷ []
  unfolding integer_bytes
  as_1 p = rw p

  as_2 : (ltb n 0x80 || leb 0xFFFFFF80 n) ≡ false → (ltb n 0x8000 || leb 0xFFFF8000 n) ≡ true
      → integer_bytes n ≡ n / 256 % 256 ∷ n % 256 ∷ []
  unfolding integer_bytes
  as_2 p q = rw (p, q)

  as_3 : (ltb n 0x80 || leb 0xFFFFFF80 n) ≡ false → (ltb n 0x8000 || leb 0xFFFF8000 n) ≡ false → (ltb n 0x800000 || leb 0xFF800000 n) ≡ true
      → integer_bytes n ≡ n / 65536 % 256 ∷ n / 256 % 256 ∷ n % 256 ∷ []
  unfolding integer_bytes
  as_3 p q r = rw (p, q, r)

  as_4 : (ltb n 0x80 || leb 0xFFFFFF80 n) ≡ false → (ltb n 0x8000 || leb 0xFFFF8000 n) ≡ false
      → (ltb n 0x800000 || leb 0xFF800000 n) ≡ false → integer_bytes n ≡ n / 16777216 ∷ n / 65536 % 256 ∷ n / 256 % 256 ∷ n % 256 ∷ []
  unfolding integer_bytes
  as_4 p q r = rw (p, q, r)

-- what is asked of the first two bytes
shortest : (a b : ℕ) (s : List ℕ) → integer_ok (a ∷ b ∷ s) ≡ true → (a ≡ 0 → 128 ≤ b) × (a ≡ 255 → b < 128)
unfolding integer_ok
shortest a b s h =
    let t = simp (ne_eqb (length (a ∷ b ∷ s)) 0 (λ e. omega arith), le-ltb (length (a ∷ b ∷ s)) 2 (omega arith)) at h in (
      (λ e. ltb-false b 128 (not-true (ltb b 128) (simp (eq-eqb a 0 e) at t))),
      λ e. ltb-true b 128 (simp (ne_eqb a 0 (λ z. omega arith), eq-eqb a 255 e) at t),
    )

above_0 : (a b : ℕ) (k : ℕ) → (a ≡ 0 → k ≤ b) → k ≤ 256 → k ≤ a * 256 + b
above_0 a b k lo h = go (eqb a 0) refl
  where
    go : (z : Bool) → eqb a 0 ≡ z → k ≤ a * 256 + b
    go true q = omega (arith, lo (eqb-true a 0 q))
    go false q = omega (arith, eqb-false a 0 q)

below_1 : (a b : ℕ) → (a ≡ 255 → b < 128) → a < 256 → b < 256 → a * 256 + b < 65408
below_1 a b hi h k = go (eqb a 255) refl
  where
    go : (z : Bool) → eqb a 255 ≡ z → a * 256 + b < 65408
    go true q = omega (arith, hi (eqb-true a 255 q), eqb-true a 255 q)
    go false q = omega (arith, eqb-false a 255 q)

three_bytes : (x y z a b c : ℕ) → x ≡ a → y ≡ b → z ≡ c → x ∷ y ∷ z ∷ [] ≡ a ∷ b ∷ c ∷ []
three_bytes x y z a b c e f g = cc

four_bytes_lem : (w x y z a b c d : ℕ) → w ≡ a → x ≡ b → y ≡ c → z ≡ d → w ∷ x ∷ y ∷ z ∷ [] ≡ a ∷ b ∷ c ∷ d ∷ []
four_bytes_lem w x y z a b c d e f g h = cc

two_bytes_lem : (x y a b : ℕ) → x ≡ a → y ≡ b → x ∷ y ∷ [] ≡ a ∷ b ∷ []
two_bytes_lem x y a b e f = cc

module _ (a : ℕ) (ha : a < 256) where
  value_1 : (neg : Bool) → leb 128 a ≡ neg → a ∷ [] ≡ integer_bytes (signed32 (a ∷ []))
  unfolding signed32
  value_1 false q =
      let h = leb-false 128 a q in
      let e : shift_in (cond (leb 128 a) 4294967295 0) (a ∷ []) ≡ a = rw q (from_0 a [] ha ∙ ended refl) in
      rw e (sym (as_1 a (yes_low a 0x80 0xFFFFFF80 (omega arith)) ∙ ap (λ (k : ℕ). k ∷ []) (omega arith)))
  value_1 true q =
      let h = leb-true 128 a q in
      let n : ℕ = 4294967040 + a in
      let e : shift_in (cond (leb 128 a) 4294967295 0) (a ∷ []) ≡ n = rw q (from_1 a [] ha ∙ ended refl) in
      rw e (sym (as_1 n (yes_high n 0x80 0xFFFFFF80 (omega arith) (omega arith)) ∙ ap (λ (k : ℕ). k ∷ []) (omega arith)))

  module _ (b : ℕ) (hb : b < 256) where
    value_2 : (neg : Bool) → leb 128 a ≡ neg → (a ≡ 0 → 128 ≤ b) → (a ≡ 255 → b < 128) → a ∷ b ∷ [] ≡ integer_bytes (signed32 (a ∷ b ∷ []))
    unfolding signed32
    value_2 false q lo hi =
        let h = leb-false 128 a q in
        let n : ℕ = a * 256 + b in
        let e : shift_in (cond (leb 128 a) 4294967295 0) (a ∷ b ∷ []) ≡ n =
        rw q (from_0 a (b ∷ []) ha ∙ next_0 a b [] (omega arith) ∙ ended refl) in
        rw e
        (sym
        (as_2 n (no n 0x80 0xFFFFFF80 (above_0 a b 128 lo (lit≤ tt)) (omega arith)) (yes_low n 0x8000 0xFFFF8000 (omega arith))
        ∙ two_bytes_lem (n / 256 % 256) (n % 256) a b (omega arith) (omega arith)))
    value_2 true q lo hi =
        let h = leb-true 128 a q in
        let n : ℕ = 4294901760 + (a * 256 + b) in
        let e : shift_in (cond (leb 128 a) 4294967295 0) (a ∷ b ∷ []) ≡ n =
        rw q (from_1 a (b ∷ []) ha ∙ to 4294967040 a b 4294901760 [] (omega arith) ∙ ended refl) in
        rw e
        (sym
        (as_2 n (no n 0x80 0xFFFFFF80 (omega arith) (omega (arith, below_1 a b hi ha hb)))
        (yes_high n 0x8000 0xFFFF8000 (omega arith) (omega arith))
        ∙ two_bytes_lem (n / 256 % 256) (n % 256) a b (omega arith) (omega arith)))

    module _ (c : ℕ) (hc : c < 256) where
      value_3 : (neg : Bool) → leb 128 a ≡ neg → (a ≡ 0 → 128 ≤ b) → (a ≡ 255 → b < 128)
          → a ∷ b ∷ c ∷ [] ≡ integer_bytes (signed32 (a ∷ b ∷ c ∷ []))
      unfolding signed32
      value_3 false q lo hi =
          let h = leb-false 128 a q in
          let n : ℕ = (a * 256 + b) * 256 + c in
          let f = above_0 a b 128 lo (lit≤ tt) in
          let e : shift_in (cond (leb 128 a) 4294967295 0) (a ∷ b ∷ c ∷ []) ≡ n =
          rw q (from_0 a (b ∷ c ∷ []) ha ∙ next_0 a b (c ∷ []) (omega arith) ∙ next_0 (a * 256 + b) c [] (omega arith) ∙ ended refl) in
          rw e
          (sym
          (as_3 n (no n 0x80 0xFFFFFF80 (omega arith) (omega arith)) (no n 0x8000 0xFFFF8000 (omega arith) (omega arith))
          (yes_low n 0x800000 0xFF800000 (omega arith))
          ∙ three_bytes (n / 65536 % 256) (n / 256 % 256) (n % 256) a b c (omega arith) (omega arith) (omega arith)))
      value_3 true q lo hi =
          let h = leb-true 128 a q in
          let n : ℕ = 4278190080 + ((a * 256 + b) * 256 + c) in
          let f = below_1 a b hi ha hb in
          let e : shift_in (cond (leb 128 a) 4294967295 0) (a ∷ b ∷ c ∷ []) ≡ n =
          rw q
          (from_1 a (b ∷ c ∷ []) ha ∙ to 4294967040 a b 4294901760 (c ∷ []) (omega arith)
          ∙ to 4294901760 (a * 256 + b) c 4278190080 [] (omega arith) ∙ ended refl) in
          rw e
          (sym
          (as_3 n (no n 0x80 0xFFFFFF80 (omega arith) (omega arith)) (no n 0x8000 0xFFFF8000 (omega arith) (omega arith))
          (yes_high n 0x800000 0xFF800000 (omega arith) (omega arith))
          ∙ three_bytes (n / 65536 % 256) (n / 256 % 256) (n % 256) a b c (omega arith) (omega arith) (omega arith)))

      module _ (d : ℕ) (hd : d < 256) where
        whole_4 : (neg : Bool) → leb 128 a ≡ neg
            → shift_in (cond (leb 128 a) 4294967295 0) (a ∷ b ∷ c ∷ d ∷ []) ≡ ((a * 256 + b) * 256 + c) * 256 + d
        whole_4 false q =
            rw q
            (from_0 a (b ∷ c ∷ d ∷ []) ha ∙ next_0 a b (c ∷ d ∷ []) (omega arith) ∙ next_0 (a * 256 + b) c (d ∷ []) (omega arith)
            ∙ next_0 ((a * 256 + b) * 256 + c) d [] (omega arith) ∙ ended refl)
        whole_4 true q =
            rw q
            (from_1 a (b ∷ c ∷ d ∷ []) ha ∙ to 4294967040 a b 4294901760 (c ∷ d ∷ []) (omega arith)
            ∙ to 4294901760 (a * 256 + b) c 4278190080 (d ∷ []) (omega arith) ∙ last ((a * 256 + b) * 256 + c) d (omega arith) hd
            ∙ ended refl)

        value_4 : (a ≡ 0 → 128 ≤ b) → (a ≡ 255 → b < 128) → a ∷ b ∷ c ∷ d ∷ [] ≡ integer_bytes (signed32 (a ∷ b ∷ c ∷ d ∷ []))
        unfolding signed32
        value_4 lo hi =
            let n : ℕ = ((a * 256 + b) * 256 + c) * 256 + d in
            let f = above_0 a b 128 lo (lit≤ tt) in
            let g = below_1 a b hi ha hb in
            let e : shift_in (cond (leb 128 a) 4294967295 0) (a ∷ b ∷ c ∷ d ∷ []) ≡ n = whole_4 (leb 128 a) refl in
            rw e
            (sym
            (as_4 n (no n 0x80 0xFFFFFF80 (omega arith) (omega arith)) (no n 0x8000 0xFFFF8000 (omega arith) (omega arith))
            (no n 0x800000 0xFF800000 (omega arith) (omega arith))
            ∙ four_bytes_lem (n / 16777216) (n / 65536 % 256) (n / 256 % 256) (n % 256) a b c d (omega arith) (omega arith) (omega arith)
            (omega arith)))

-- ONLY: the bytes of an INTEGER of DER, at most four, are the ones that its number is written in
pub integer-only : (v : List ℕ) → Bytes v → integer_ok v ≡ true → length v ≤ 4 → v ≡ integer_bytes (signed32 v)
unfolding integer_ok
integer-only [] bytes ok h = absurd (true≢false (sym ok))
integer-only (a ∷ []) bytes ok h = value_1 a (bytes 0) (leb 128 a) refl
integer-only (a ∷ b ∷ []) bytes ok h = let s = shortest a b [] ok in value_2 a (bytes 0) b (bytes 1) (leb 128 a) refl s.0 s.1
integer-only (a ∷ b ∷ c ∷ []) bytes ok h =
    let s = shortest a b (c ∷ []) ok in
    value_3 a (bytes 0) b (bytes 1) c (bytes 2) (leb 128 a) refl s.0 s.1
integer-only (a ∷ b ∷ c ∷ d ∷ []) bytes ok h =
    let s = shortest a b (c ∷ d ∷ []) ok in
    value_4 a (bytes 0) b (bytes 1) c (bytes 2) d (bytes 3) s.0 s.1
integer-only (a ∷ b ∷ c ∷ d ∷ e ∷ v) bytes ok h = absurd (omega arith)
