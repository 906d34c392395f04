-- Laws of the number that an INTEGER says: bytes one after another, and what is computed of them is what X.690 says that they are.
use Prim.Native.Nat.{ℕ, ◌+◌, ◌-◌, ◌*◌, ◌%◌, ◌^◌, ◌<◌, ◌≤◌}
use mathlib.Core.Path.{◌≡◌, refl}
use mathlib.Core.List.{List, [], ◌∷◌}
use mathlib.Core.Bool.{Bool, true, false, cond}
use native.Mathlib.Numerals.{add-one}
use native.Mathlib.Omega.{arith}
use borrow.Author.Tests.{le-leb, lt-leb}
use lib.ListN.{length, get_or, drop, drop_of_length-le}
use lib.Seq.{drop-cons}
use lib.Dec.{leb}
use Rattle.der.specs.Integer.{unsigned, negative, integer_of, shift_in, signed32}

-- one more byte shifted in
pub shift_more : (s : List ℕ) (i v : ℕ) → i < length s → shift_in v (drop i s) ≡ shift_in ((v * 256 + get_or s i 0) % 4294967296) (drop (i + 1) s)
unfolding shift_in
shift_more s i v h = rw (add-one, drop-cons s i 0 h)

pub shift_end : (s : List ℕ) (i v : ℕ) → length s ≤ i → shift_in v (drop i s) ≡ v
unfolding shift_in
shift_end s i v h = rw (drop_of_length-le s h)

pub signed_none : (s : List ℕ) → length s ≡ 0 → signed32 s ≡ 0
unfolding signed32 shift_in
signed_none [] e = refl
signed_none (x ∷ s) e = absurd (omega arith)

pub signed_one : (s : List ℕ) → length s ≡ 1 → signed32 s ≡ shift_in (cond (leb 128 (get_or s 0 0)) 4294967295 0) (get_or s 0 0 ∷ [])
unfolding signed32
signed_one [] e = absurd (omega arith)
signed_one (x ∷ []) e = refl
signed_one (x ∷ y ∷ s) e = absurd (omega arith)

-- the number of one byte
pub byte_high : (x : ℕ) → 128 ≤ x → x < 256 → 4294967040 + x ≡ shift_in (cond (leb 128 x) 4294967295 0) (x ∷ [])
unfolding shift_in
byte_high x h k = rw (le-leb 128 x h) (omega arith)

pub byte_low : (x : ℕ) → x < 128 → x ≡ shift_in (cond (leb 128 x) 4294967295 0) (x ∷ [])
unfolding shift_in
byte_low x h = rw (lt-leb 128 x h) (omega arith)

-- the first bit being set or not
by_first_bit : (b : Bool) (s : List ℕ) → length s ≤ 4
    → shift_in (cond b 4294967295 0) s ≡ cond b (2 ^ 32 + unsigned s - 256 ^ length s) (unsigned s) % 2 ^ 32
unfolding shift_in unsigned
by_first_bit true [] h = refl
by_first_bit true (w ∷ []) h = omega arith
by_first_bit true (w ∷ x ∷ []) h = omega arith
by_first_bit true (w ∷ x ∷ y ∷ []) h = omega arith
by_first_bit true (w ∷ x ∷ y ∷ z ∷ []) h = omega arith
by_first_bit false [] h = refl
by_first_bit false (w ∷ []) h = omega arith
by_first_bit false (w ∷ x ∷ []) h = omega arith
by_first_bit false (w ∷ x ∷ y ∷ []) h = omega arith
by_first_bit false (w ∷ x ∷ y ∷ z ∷ []) h = omega arith
by_first_bit b (w ∷ x ∷ y ∷ z ∷ v ∷ s) h = absurd (omega arith)

-- up to four bytes, whatever they are
pub signed_is : (s : List ℕ) → length s ≤ 4 → signed32 s ≡ integer_of s
unfolding signed32 integer_of
signed_is s h = by_first_bit (negative s) s h
