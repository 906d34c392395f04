-- What stands at a place of a list after `set`, and after one more element.
use Prim.Native.Nat.{ℕ, zero, suc}
use mathlib.Core.List.{List, [], ◌∷◌, ◌++◌}
use mathlib.Core.Option.{some}
use mathlib.Core.Path.{◌≡◌, refl, ap}
use mathlib.Core.Logic.{◌⊎◌, inl, inr}
use lib.ListN.{length, get_elem?, set}
use Rattle.protocol.proofs.Tests.{none_some, some_some}

module _ {A : Type 0} where
  pub at_set_same : (l : List A) (k : ℕ) (x y : A) → get_elem? l k ≡ some x → get_elem? (set l k y) k ≡ some y
  at_set_same [] k x y e = none_some e
  at_set_same (a ∷ l) zero x y e = refl
  at_set_same (a ∷ l) (suc k) x y e = at_set_same l k x y e

  pub at_set_other : (l : List A) (k j : ℕ) (y : A) → (k ≡ j → ⊥) → get_elem? (set l k y) j ≡ get_elem? l j
  at_set_other [] k j y d = refl
  at_set_other (a ∷ l) zero zero y d = absurd (d refl)
  at_set_other (a ∷ l) zero (suc j) y d = refl
  at_set_other (a ∷ l) (suc k) zero y d = refl
  at_set_other (a ∷ l) (suc k) (suc j) y d = at_set_other l k j y (λ e. d (ap suc e))

  pub at_more_old : (l m : List A) (j : ℕ) (x : A) → get_elem? l j ≡ some x → get_elem? (l ++ m) j ≡ some x
  at_more_old [] m j x e = none_some e
  at_more_old (a ∷ l) m zero x e = e
  at_more_old (a ∷ l) m (suc j) x e = at_more_old l m j x e

  pub at_more : (l : List A) (y : A) (j : ℕ) (x : A) → get_elem? (l ++ (y ∷ [])) j ≡ some x → (get_elem? l j ≡ some x) ⊎ ((j ≡ length l) × (y ≡ x))
  at_more [] y zero x e = inr (refl, some_some e)
  at_more [] y (suc j) x e = none_some e
  at_more (a ∷ l) y zero x e = inl e
  at_more (a ∷ l) y (suc j) x e = up (at_more l y j x e)
    where
      up : (get_elem? l j ≡ some x) ⊎ ((j ≡ length l) × (y ≡ x)) → (get_elem? l j ≡ some x) ⊎ ((suc j ≡ suc (length l)) × (y ≡ x))
      up (inl p) = inl p
      up (inr p) = inr (ap suc p.0, p.1)

  pub at_more_new : (l : List A) (y : A) → get_elem? (l ++ (y ∷ [])) (length l) ≡ some y
  at_more_new [] y = refl
  at_more_new (a ∷ l) y = at_more_new l y
