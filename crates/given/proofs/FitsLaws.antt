-- For the proofs of refusal 36's code.
use Prim.Native.Nat.{ℕ}
use mathlib.Core.List.{List, [], ◌∷◌}
use mathlib.Core.Bool.{Bool, false, ◌&&◌}
use mathlib.Core.Path.{◌≡◌, refl, ap}
use lib.Dec.{eqb}
use Rattle.std.specs.List.{list_all}
use Rattle.der.specs.Head.{head_of}
use Rattle.der.specs.Element.{is_element, fills}
use Rattle.encoding.specs.Fits.{blank}

-- each byte's test
pub blank-all : (x : List ℕ) → list_all (λ b. eqb b 0) x ≡ blank x
unfolding blank
blank-all [] = refl
blank-all (b ∷ x) = ap (λ (r : Bool). eqb b 0 && r) (blank-all x)

-- no bytes are no element
pub no_element : (d : ℕ) → is_element d [] ≡ false
unfolding is_element fills head_of
no_element d = refl
