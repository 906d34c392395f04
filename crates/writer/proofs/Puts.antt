-- Laws of bytes put into a buffer.
use Prim.Native.Nat.{ℕ, suc, ◌+◌, ◌<◌, ◌≤◌}
use mathlib.Core.List.{List, [], ◌∷◌, ◌++◌}
use mathlib.Core.Path.{◌≡◌, refl, sym, ◌∙◌, ap, subst}
use native.Mathlib.Numerals.{add-one}
use native.Mathlib.Nat.{add-zero, suc-add, add-suc, le_of_lt}
use native.Mathlib.Omega.{arith}
use lib.ListN.{length, take, set, get_or, length-append, length-set}
use lib.Seq.{sets, length-sets, length-take-le, take-suc, take_all}
use Rattle.der.specs.Head.{head_bytes}
use Rattle.encoding.specs.Element.{element}
use Rattle.writer.specs.Puts.{Put, Puts}
use Rattle.writer.specs.Sizes.{Size}

-- one part after another
sets_append : (l : List ℕ) (i : ℕ) (xs ys : List ℕ) → sets l i (xs ++ ys) ≡ sets (sets l i xs) (i + length xs) ys
sets_append l i [] ys = ap (λ (k : ℕ). sets l k ys) (sym (add-zero i))
sets_append l i (x ∷ xs) ys =
    sets_append (set l i x) (suc i) xs ys
    ∙ ap (λ (k : ℕ). sets (sets (set l i x) (suc i) xs) k ys) (suc-add i (length xs) ∙ sym (add-suc i (length xs)))

-- ## A copy: the first i bytes of x are in their places

pub record Copied (at : ℕ) (x s₀ s : List ℕ) (i : ℕ) : Type 0 where
  pub below : i ≤ length x
  pub is : s ≡ sets s₀ at (take i x)
  pub size : length s ≡ length s₀

pub copy_more : (x : List ℕ) {at : ℕ} {s₀ s : List ℕ} {i : ℕ} → Copied at x s₀ s i → i < length x → Copied at x s₀ (set s (at + i) (get_or x i 0)) (i + 1)
copy_more x {at} {s₀} {s} {i} p k = record {
  below = omega arith;
  is = rw (p.is, add-one i, take-suc x i 0 k, sets_append s₀ at (take i x) (get_or x i 0 ∷ []), length-take-le i x (le_of_lt k));
  size = length-set s (at + i) (get_or x i 0) ∙ p.size;
}

pub copy_all : (x : List ℕ) {at i : ℕ} {s₀ s : List ℕ} → Copied at x s₀ s i → length x ≤ i → Put at (at + length x) x s₀ s
copy_all x {at} {i} {s₀} p k = record { is = p.is ∙ ap (sets s₀ at) (take_all i x k); end = refl }

module _ (x s : List ℕ) (at : ℕ) where
  -- there is room, and it is put in
  pub put_in : (r : ℕ) (s' : List ℕ) → Put at r x s s' → Puts at r x s s'
  put_in r s' p = record { size = ap length p.is ∙ length-sets s at x; put = λ room few. p }

-- ## One after another

pub joined : {at b r : ℕ} {x y s₀ s₁ s₂ : List ℕ} → Puts at b x s₀ s₁ → Puts b r y s₁ s₂ → Puts at r (x ++ y) s₀ s₂
joined {at} {b} {r} {x} {y} {s₀} {s₁} {s₂} p q = record {
  size = q.size ∙ p.size;
  put = λ room few.
      let e = length-append x y in
      let u : Put at b x s₀ s₁ = p.put (omega arith) (omega arith) in
      let z = p.size in
      let w = u.end in
      let v : Put b r y s₁ s₂ = q.put (omega arith) (omega arith) in
      record { is = v.is ∙ rw (u.is, u.end) (sym (sets_append s₀ at x y)); end = omega (arith, v.end, w, e) };
}

-- ## An element: its head, then its content, of which the size is known

pub around_head : {at a r n : ℕ} {v s₀ s₁ s₂ : List ℕ} (tag : ℕ) → Size n v → Puts at a (head_bytes tag n) s₀ s₁ → Puts a r v s₁ s₂ → Puts at r (element tag v) s₀ s₂
unfolding element
around_head {at} {a} {r} {n} {v} {s₀} {s₁} {s₂} tag e p q = record {
  size = q.size ∙ p.size;
  put = λ room few.
      let k : length v < 65536 = omega (arith, length-append (head_bytes tag (length v)) v) in
      let f : n ≡ length v = e.is ∙ omega arith in
      (joined (subst (λ (j : ℕ). Puts at a (head_bytes tag j) s₀ s₁) f p) q).put room few;
}
