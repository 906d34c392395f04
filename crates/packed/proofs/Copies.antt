-- An array filled by a loop, one element further, and parts put into lent bytes.
use Prim.Native.Nat.{ℕ, suc, ◌+◌, ◌-◌, ◌<◌, ◌≤◌}
use mathlib.Core.List.{List, [], ◌∷◌, ◌++◌, append-nil, append_assoc}
use mathlib.Core.Bool.{true, false, cond}
use mathlib.Core.Path.{◌≡◌, refl, sym, ◌∙◌, ap}
use native.Mathlib.Numerals.{add-one}
use native.Mathlib.Nat.{add-zero, suc-add, add-suc, le_of_lt, le_antisymm}
use native.Mathlib.Omega.{arith}
use borrow.Author.Tests.{le-leb, lt-leb, eq-eqb}
use borrow.Rule.Slice.PartMut.{put_mid}
use lib.Dec.{eqb}
use lib.ListN.{length, take, drop, set, get_or, drop_of_length-le, length-append, length-drop}
use lib.Seq.{sets, set_at, length-take-le, drop-drop, drop-cons, append_snoc, take-suc, sets-eq}
use Rattle.std.proofs.lemmas.List.{take_rest}
use Rattle.packed.specs.Bytes.{Placed, fits_at, pack_at}

module _ {ℓ} {A : Type ℓ} where
  -- an array z that takes the first elements of s
  filled : (s z : List A) (i : ℕ) (d : A) → i < length s → i < length z → set (take i s ++ drop i z) i (get_or s i d) ≡ take (i + 1) s ++ drop (i + 1) z
  filled s z i d h k =
      rw (add-one i, drop-cons z i d k, set_at (take i s) (get_or z i d) (drop (suc i) z) (get_or s i d) i (length-take-le i s (le_of_lt h)), take-suc s i d h)
      (sym (append_snoc (take i s) (get_or s i d) (drop (suc i) z)))

  full : (s z : List A) (n : ℕ) → length z ≤ n → take n s ++ drop n z ≡ take n s
  full s z n h = rw (drop_of_length-le z h) (append-nil (take n s))

  -- one part after another
  sets_append : (l : List A) (i : ℕ) (xs ys : List A) → sets l i (xs ++ ys) ≡ sets (sets l i xs) (i + length xs) ys
  sets_append l i [] ys = ap (λ (k : ℕ). sets l k ys) (sym (add-zero i))
  sets_append l i (x ∷ xs) ys =
      sets_append (set l i x) (suc i) xs ys ∙ ap (λ (k : ℕ). sets (sets (set l i x) (suc i) xs) k ys) (suc-add i (length xs) ∙ sym (add-suc i (length xs)))

-- ## An array of n that was z, whose first i elements are those of p

pub record Filled {A : Type 0} (n : ℕ) (p z x : List A) (i : ℕ) : Type 0 where
  pub below : i ≤ n
  pub is : x ≡ take i p ++ drop i z

module _ {A : Type 0} {n : ℕ} {p z x : List A} {i : ℕ} (f : Filled n p z x i) (sized : length z ≡ n) where
  pub fill_more : n ≤ length p → i < n → (v d : A) → get_or p i d ≡ v → Filled n p z (set x i v) (i + 1)
  fill_more h k v d e = record { below = omega arith; is = rw (f.is, ← e) (filled p z i d (omega arith) (omega arith)) }

  pub fill_all : n ≤ i → x ≡ take n p
  fill_all k = f.is ∙ rw (le_antisymm f.below k) (full p z n (omega arith))

-- ## Parts put in

-- what a copy into a part of the bytes leaves
pub copied : {at n k : ℕ} {x y s : List ℕ} → at + n ≤ length s → k ≡ n → length x ≡ n → y ≡ x → Placed at n x s (put_mid at k s y)
copied {at} {n} {k} {x} {y} {s} h e l is = record { is = rw (is, e, sets-eq x s at (omega arith), l, drop-drop n at s) (sym (append_assoc (take at s) x (drop (at + n) s))); size = l }

-- what a call put at the start of their end
pub inside : {a n : ℕ} {x y s : List ℕ} → a + n ≤ length s → Placed 0 n x (take (length s - a) (drop a s)) y → Placed a n x s (put_mid a (length s - a) s y)
inside {a} {n} {x} {y} {s} h p =
    let at : y ≡ sets (drop a s) 0 x = rw (take_rest s a) at p.is in
    let z : 0 + length x ≡ length x = omega arith in
    let there : y ≡ x ++ drop (length x) (drop a s) = at ∙ rw z at (sets-eq x (drop a s) 0 (omega (arith, length-drop a s, p.size))) in
    let end : drop (length s - a) (drop a s) ≡ [] = drop-drop (length s - a) a s ∙ drop_of_length-le s (omega arith) in
    let whole : sets s a x ≡ take a s ++ (x ++ drop (a + length x) s) = sets-eq x s a (omega (arith, p.size)) ∙ append_assoc (take a s) x (drop (a + length x) s) in
    record { is = rw (there, end, whole, drop-drop (length x) a s) (ap (λ (l : List ℕ). take a s ++ l) (append-nil _)); size = p.size }

-- one byte, and one that a call answered
pub one : {at v : ℕ} {s : List ℕ} → Placed at 1 (v ∷ []) s (set s at v)
one = record { is = refl; size = refl }

pub one_of : {at v w : ℕ} {s : List ℕ} → v ≡ w → Placed at 1 (w ∷ []) s (set s at v)
one_of e = rw e one

-- one part put in after another
pub next : {at n b m : ℕ} {x y s₀ s₁ s₂ : List ℕ} → Placed at n x s₀ s₁ → at + n ≡ b → Placed b m y s₁ s₂ → Placed at (n + m) (x ++ y) s₀ s₂
next {at} {n} {b} {m} {x} {y} {s₀} p e q =
    record {
      is = q.is ∙ rw (p.is, ← e, ← p.size) (sym (sets_append s₀ at x y));
      size = length-append x y ∙ rw (p.size, q.size);
    }

-- all that there was is replaced, where it is as long
pub replaced : {n : ℕ} {x s s' : List ℕ} → Placed 0 n x s s' → length s ≡ n → (true ≡ eqb (length s) n) × (s' ≡ cond (eqb (length s) n) x s)
replaced {n} {x} {s} p e =
    let h : length s ≤ 0 + length x = omega (arith, p.size) in
    let size : eqb (length s) n ≡ true = eq-eqb _ _ e in
    (sym size, rw size (p.is ∙ sets-eq x s 0 (omega (arith, p.size)) ∙ rw (drop_of_length-le s h) (append-nil x)))

-- ## An answer: whether there was room, and the bytes after it

pub no_room : (at n : ℕ) (x s : List ℕ) → length s < at + n → (false ≡ fits_at at n s) × (s ≡ pack_at at n x s)
unfolding pack_at
no_room at n x s h = (sym (lt-leb _ _ h), rw (lt-leb _ _ h))

pub room : {at n : ℕ} {x s s' : List ℕ} → at + n ≤ length s → Placed at n x s s' → (true ≡ fits_at at n s) × (s' ≡ pack_at at n x s)
unfolding pack_at
room h p = (sym (le-leb _ _ h), p.is ∙ rw (le-leb _ _ h))
