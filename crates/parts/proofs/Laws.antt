-- For the proofs of code: the library's equality of byte strings, and copies of sixteen bytes.
use Prim.Native.Nat.{ℕ}
use mathlib.Core.List.{List, [], ◌∷◌}
use mathlib.Core.Bool.{Bool, true, false, cond, ◌&&◌}
use mathlib.Core.Path.{◌≡◌, refl, ap}
use mathlib.Core.Option.{none, some}
use lib.ListN.{length}
use lib.Dec.{eqb}
use lib.Pointwise.{pointwise}
use Rattle.grammar.specs.declared.Span.{Span}
use Rattle.protocol.specs.Bytes.{same_bytes, bytes_of}
use Rattle.grammar.specs.Span.{part_of}
use Rattle.protocol.specs.Message.{is_present, optional_part}
use Rattle.protocol.specs.Refusals.{not_sixteen}
use Rattle.protocol.proofs.Tests.{true_false, not_false}
use Rattle.parts.specs.Parts.{sixteen_of}

-- `==` of two slices of bytes is the one comparison
pub same_is : (p q : List ℕ) → pointwise eqb p q ≡ same_bytes p q
unfolding same_bytes
same_is [] [] = refl
same_is [] (y ∷ ys) = refl
same_is (x ∷ xs) [] = refl
same_is (x ∷ xs) (y ∷ ys) = ap (λ (t : Bool). eqb x y && t) (same_is xs ys)

-- a part that is there and has sixteen bytes is copied as it is
copy_by : (b : Bool) (p : List ℕ) → not_sixteen (cond b (some p) none) ≡ false → sixteen_of p ≡ bytes_of (cond b (some p) none)
copy_by true p e = rw (not_false (eqb (length p) 16) e)
copy_by false p e = true_false e

pub copy_is : (bytes : List ℕ) (s : Span) → not_sixteen (optional_part bytes s) ≡ false → sixteen_of (part_of bytes s) ≡ bytes_of (optional_part bytes s)
copy_is bytes s e = copy_by (is_present s) (part_of bytes s) e
