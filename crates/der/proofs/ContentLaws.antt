-- Laws of an OBJECT IDENTIFIER's arcs, for the loop over its bytes.
use Prim.Native.Nat.{ℕ, suc, ◌+◌, ◌-◌, ◌<◌, ◌≤◌}
use mathlib.Core.Path.{◌≡◌, ◌∙◌, refl, sym}
use native.Mathlib.Nat.{lt_irrefl}
use native.Mathlib.Omega.{arith}
use borrow.Author.Tests.{ne_eqb}
use mathlib.Core.List.{List, [], ◌∷◌}
use mathlib.Core.Bool.{Bool, true, false, ◌&&◌, and-false}
use native.Mathlib.Numerals.{add-one, sub-one}
use lib.ListN.{length, get_or, drop, drop_of_length-le}
use lib.Seq.{drop-cons}
use lib.Dec.{ltb, eqb}
use Rattle.std.specs.List.{list_any}
use Rattle.der.specs.Content.{arcs_ok, oid_ok}
use Rattle.der.proofs.Auto.{or_false_left, or_false_right}

-- where the loop is at i, and the bytes passed are right; `fresh`: an arc begins here
module _ (c : List ℕ) (i : ℕ) (fresh : Bool) (here : i < length c) (so_far : arcs_ok true c ≡ arcs_ok fresh (drop i c)) where
  -- no arc begins here with 80: the rest decides
  pub arc_more : (fresh && eqb (get_or c i 0) 128) ≡ false → arcs_ok true c ≡ arcs_ok (ltb (get_or c i 0) 128) (drop (i + 1) c)
  unfolding arcs_ok
  arc_more e = so_far ∙ rw (add-one, drop-cons c i 0 here, e)

  -- one does
  pub arc_bad : fresh ≡ true → get_or c i 0 ≡ 128 → arcs_ok true c ≡ false
  unfolding arcs_ok
  arc_bad f e = so_far ∙ rw (drop-cons c i 0 here, f, e)

-- at the end an arc would begin, so that the last is whole
pub arc_end : (c : List ℕ) (i : ℕ) {fresh : Bool} → length c ≤ i → arcs_ok true c ≡ arcs_ok fresh (drop i c) → arcs_ok true c ≡ fresh
unfolding arcs_ok
arc_end c i h so_far = so_far ∙ rw (drop_of_length-le c h)

-- ## Bytes none of which is 80

-- the last byte, if there is one
last_of : ℕ → List ℕ → ℕ
last_of x [] = x
last_of x (y ∷ c) = last_of y c

last-is : (x : ℕ) (c : List ℕ) → get_or (x ∷ c) (length c) 0 ≡ last_of x c
unfolding last_of
last-is x [] = refl
last-is x (y ∷ c) = last-is y c

plain : (fresh : Bool) (x : ℕ) (c : List ℕ) → list_any (λ (y : ℕ). eqb y 128) (x ∷ c) ≡ false → arcs_ok fresh (x ∷ c) ≡ ltb (last_of x c) 128
unfolding arcs_ok last_of
plain fresh x [] e = simp (or_false_left (eqb x 128) false e, and-false)
plain fresh x (y ∷ c) e =
    simp (or_false_left (eqb x 128) (list_any (λ (z : ℕ). eqb z 128) (y ∷ c)) e, and-false)
    (plain (ltb x 128) y c (or_false_right (eqb x 128) (list_any (λ (z : ℕ). eqb z 128) (y ∷ c)) e))

-- without a byte 80 the last byte decides
pub oid_plain : (c : List ℕ) {has_80 : Bool} → 1 ≤ length c → has_80 ≡ list_any (λ (y : ℕ). eqb y 128) c → has_80 ≡ false → ltb (get_or c (length c - 1) 0) 128 ≡ oid_ok c
unfolding oid_ok
oid_plain [] h e f = absurd (lt_irrefl 0 h)
oid_plain (x ∷ c) h e f = rw (sub-one (suc (length c)), last-is x c, ne_eqb (suc (length c)) 0 (λ z. omega arith)) (sym (plain true x c (sym e ∙ f)))
