-- Laws of sizes.
use Prim.Native.Nat.{ℕ, ◌+◌}
use mathlib.Core.List.{List, [], ◌++◌, append-nil}
use mathlib.Core.Path.{◌≡◌, refl, sym, ◌∙◌, ap, subst}
use mathlib.Core.Bool.{Bool, true, false}
use native.Mathlib.Omega.{arith}
use borrow.Author.Tests.{ltb-true, ltb-false}
use lib.Dec.{ltb}
use lib.ListN.{length, length-append}
use Rattle.der.specs.Head.{head_bytes}
use Rattle.der.proofs.HeadLaws.{cond_both}
use Rattle.encoding.specs.Element.{element}
use Rattle.writer.specs.Sizes.{size16, head_size, Size}

-- the head's size does not depend on the tag
head-size : (tag len : ℕ) → length (head_bytes tag len) ≡ head_size len
unfolding head_bytes
head-size tag len =
    cond_both (λ (l : List ℕ). length l ≡ head_size len) (ltb len 128) (λ e. sym (rw e)) λ e.
    cond_both (λ (l : List ℕ). length l ≡ head_size len) (ltb len 256) (λ f. sym (rw (e, f))) (λ f. sym (rw (e, f)))

pub size_none : Size 0 []
size_none = record { is = refl }

-- the size of the same bytes under another name
pub size_as : {r : ℕ} {x y : List ℕ} → x ≡ y → Size r y → Size r x
size_as {r} e p = subst (Size r) (sym e) p

-- one part after another
pub size_then : {a b r : ℕ} {x y : List ℕ} → Size a x → Size b y → r ≡ size16 (a + b) → Size r (x ++ y)
size_then {a} {b} {r} {x} {y} p q e = record { is = e ∙ omega (arith, p.is, q.is, length-append x y) }

pub size-last : {r : ℕ} {x : List ℕ} → Size r x → Size r (x ++ [])
size-last {r} {x} p = record { is = p.is ∙ ap (λ (l : List ℕ). size16 (length l)) (sym (append-nil x)) }

around-same : (n k : ℕ) → n ≡ size16 k → size16 (n + head_size n) ≡ size16 (k + head_size k)
around-same n k e = by_size (ltb n 65535) refl
  where
    by_size : (b : Bool) → ltb n 65535 ≡ b → size16 (n + head_size n) ≡ size16 (k + head_size k)
    by_size true q = let f : n ≡ k = omega (arith, e, ltb-true n 65535 q) in ap (λ (j : ℕ). size16 (j + head_size j)) f
    by_size false q = omega (arith, e, ltb-false n 65535 q)

-- an element around a content
pub size-around : {n r : ℕ} {v : List ℕ} (tag : ℕ) → Size n v → r ≡ size16 (n + head_size n) → Size r (element tag v)
unfolding element
size-around {n} {r} {v} tag p e = record {
  is =
      e ∙ around-same n (length v) p.is
      ∙ omega (arith, length-append (head_bytes tag (length v)) v, head-size tag (length v));
}
