-- DER as it is written: tag, length and content of an element (X.690 8.1), and what is made of it.
use Rattle.std.specs.Prelude.{ℕ, ◌/◌, ◌%◌, List, [], ◌∷◌, ◌++◌, cond, ◌||◌, length, ltb, leb}
use Rattle.std.proofs.Math.Option.{Option, none, some}
use Rattle.der.specs.Head.{head_bytes}

-- an element with this tag and content, its length in the only form that DER has for it (`head_bytes`)
unfoldable pub element : (tag : ℕ) → (content : List ℕ) → List ℕ
element tag content = head_bytes tag (length content) ++ content

-- [n] OPTIONAL around an element, of which the content is given
unfoldable pub field : (tag inner : ℕ) → Option (List ℕ) → List ℕ
field tag inner none = []
field tag inner (some v) = element tag (element inner v ++ [])

-- the same around an element that is given whole
unfoldable pub wrapped : (tag : ℕ) → Option (List ℕ) → List ℕ
wrapped tag none = []
wrapped tag (some e) = element tag (e ++ [])

-- an optional element
unfoldable pub optional : (tag : ℕ) → Option (List ℕ) → List ℕ
optional tag none = []
optional tag (some v) = element tag v

-- a number of 32 bits in two's complement, in the fewest bytes (X.690 8.3.2)
unfoldable pub integer_bytes : ℕ → List ℕ
integer_bytes n =
    cond (ltb n 0x80 || leb 0xFFFFFF80 n) (n % 256 ∷ [])
    (cond (ltb n 0x8000 || leb 0xFFFF8000 n) (n / 256 % 256 ∷ n % 256 ∷ [])
    (cond (ltb n 0x800000 || leb 0xFF800000 n) (n / 65536 % 256 ∷ n / 256 % 256 ∷ n % 256 ∷ [])
    (n / 16777216 ∷ n / 65536 % 256 ∷ n / 256 % 256 ∷ n % 256 ∷ [])))

unfoldable pub integer : ℕ → List ℕ
integer n = element 0x02 (integer_bytes n)
