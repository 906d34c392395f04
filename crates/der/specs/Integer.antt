-- The number that an INTEGER says (X.690 8.3.3): two's complement, the most significant byte first.
use Rattle.std.specs.Prelude.{ℕ, ◌+◌, ◌-◌, ◌*◌, ◌%◌, ◌^◌, List, [], ◌∷◌, Bool, cond, length, leb}
use Rattle.der.specs.Head.{byte}

-- bytes as the digits of a number to the base 256, the first the most significant
unfoldable pub unsigned : List ℕ → ℕ
unsigned [] = 0
unsigned (x ∷ s) = x * 256 ^ length s + unsigned s

-- the first bit of the first byte is set
abbrev pub negative : List ℕ → Bool
negative s = leb 128 (byte s 0)

-- Where that bit is set, n bytes say what they say as digits, less 256 ^ n. The number is handed on in 32 bits, modulo 2 ^ 32, so
-- that -1 is 2 ^ 32 - 1; this is said of at most four bytes, and of more no number is ever read.
unfoldable pub integer_of : List ℕ → ℕ
integer_of s = cond (negative s) (2 ^ 32 + unsigned s - 256 ^ length s) (unsigned s) % 2 ^ 32

-- ## The same as it is computed

-- bytes shifted into a number of 32 bits
unfoldable pub shift_in : ℕ → List ℕ → ℕ
shift_in v [] = v
shift_in v (x ∷ s) = shift_in ((v * 256 + x) % 4294967296) s

-- the low 32 bits, of any number of bytes; of at most four it is `integer_of` (`signed_is` in proofs/IntegerLaws.antt)
unfoldable pub signed32 : List ℕ → ℕ
signed32 s = shift_in (cond (negative s) 4294967295 0) s
