-- Parts of a byte string, and numbers in bytes, big-endian.
use Rattle.std.specs.Prelude.{ℕ, ◌+◌, ◌*◌, ◌/◌, ◌%◌, ◌<◌, List, [], ◌∷◌, ◌++◌, Bool, cond, ◌≡◌, length, take, drop, get_or, eqb, leb}
use Rattle.std.proofs.lemmas.List.Edits.{sets}

-- n bytes from an offset
abbrev pub part : (at n : ℕ) → List ℕ → List ℕ
part at n s = take n (drop at s)

-- the bytes s with x in place of theirs from an offset
abbrev pub put_at : (at : ℕ) (x s : List ℕ) → List ℕ
put_at at x s = sets s at x

-- x is n bytes long, and was put into s, which is now s'
pub record Placed (at n : ℕ) (x s s' : List ℕ) : Type 0 where
  pub is : s' ≡ put_at at x s
  pub size : length x ≡ n

-- there is room for n bytes at an offset
abbrev pub fits_at : (at n : ℕ) → List ℕ → Bool
fits_at at n s = leb (at + n) (length s)

-- x, of n bytes, put into s; bytes that have no room for it stay as they are
unfoldable pub pack_at : (at n : ℕ) (x s : List ℕ) → List ℕ
pack_at at n x s = cond (fits_at at n s) (put_at at x s) s

-- a 16-bit number, and where it is read
abbrev pub two_bytes : ℕ → List ℕ
two_bytes n = n / 256 ∷ n % 256 ∷ []

abbrev pub two_at : (at : ℕ) → List ℕ → ℕ
two_at at s = 256 * get_or s at 0 + get_or s (at + 1) 0

-- a 32-bit number, and where it is read
abbrev pub four_bytes : ℕ → List ℕ
four_bytes n = two_bytes (n / 65536) ++ two_bytes (n % 65536)

abbrev pub four_at : (at : ℕ) → List ℕ → ℕ
four_at at s = 65536 * two_at at s + two_at (at + 2) s

-- a 64-bit number, and where it is read
abbrev pub eight_bytes : ℕ → List ℕ
eight_bytes n = four_bytes (n / 4294967296) ++ four_bytes (n % 4294967296)

abbrev pub eight_at : (at : ℕ) → List ℕ → ℕ
eight_at at s = 4294967296 * four_at at s + four_at (at + 4) s

-- a Bool, and where it is read
abbrev pub flag : Bool → ℕ
flag b = cond b 1 0

abbrev pub flag_at : (at : ℕ) → List ℕ → Bool
flag_at at s = eqb (get_or s at 0) 1

-- every element is a byte
abbrev pub AllBytes : List ℕ → Type 0
AllBytes s = (i : ℕ) → get_or s i 0 < 256
