-- Tag and length of an element (document 01, "DER as we take it", points 1 and 2; X.690 8.1.2, 8.1.3 and 10.1).
-- A byte is a number below 256, and bytes are a list.
use Rattle.std.specs.Prelude.{ℕ, ◌+◌, ◌*◌, ◌/◌, ◌%◌, List, [], ◌∷◌, Bool, not, cond, ◌||◌, length, get_or, ltb, leb, eqb, Err}
use Rattle.der.specs.Types.{Head, whole_head}

-- byte i of s
abbrev pub byte : List ℕ → ℕ → ℕ
byte s i = get_or s i 0

-- Rule 1: tag in one byte, so its low five bits are not 31 (X.690 8.1.2.4 has the longer form); universal tag 0,
-- primitive or constructed, is refused (X.690 8.1.5).
unfoldable pub tag_ok : ℕ → Bool
tag_ok t = not (eqb (t % 32) 31 || (eqb t 0 || eqb t 32))

-- Rule 2: an element lies wholly inside its parent. Its content is `len` bytes from `start`, and the parent has n bytes left.
unfoldable pub inside : ℕ → ℕ → ℕ → ℕ → Head
inside n tag start len = cond (leb (start + len) n) (whole_head tag start len) (Err 2)

-- Rule 2: 81 xx says 128 to 255
unfoldable pub length81 : List ℕ → Head
length81 s = cond (ltb (length s) 3 || ltb (byte s 2) 128) (Err 2) (inside (length s) (byte s 0) 3 (byte s 2))

-- Rule 2: 82 xx xx says 256 up
unfoldable pub length82 : List ℕ → Head
length82 s = cond (ltb (length s) 4 || eqb (byte s 2) 0) (Err 2) (inside (length s) (byte s 0) 4 (byte s 2 * 256 + byte s 3))

-- Rule 2: below 128 the length is the one byte, else it is in the form 81 or 82; 80 and the longer forms are refused
unfoldable pub length_of : List ℕ → Head
length_of s =
    cond (ltb (length s) 2) (Err 2)
    (cond (ltb (byte s 1) 128) (inside (length s) (byte s 0) 2 (byte s 1))
    (cond (eqb (byte s 1) 129) (length81 s)
    (cond (eqb (byte s 1) 130) (length82 s) (Err 2))))

-- Tag and length of the element that s begins with, where s is what its parent has left. The lower rule is named first.
unfoldable pub head_of : List ℕ → Head
head_of s = cond (eqb (length s) 0) (Err 2) (cond (tag_ok (byte s 0)) (length_of s) (Err 1))

-- The other way: the bytes of a tag and a content length below 65,536. They are the only ones (`one_form` in proofs/OneForm.antt).
unfoldable pub head_bytes : ℕ → ℕ → List ℕ
head_bytes tag len =
    cond (ltb len 128) (tag ∷ len ∷ []) (cond (ltb len 256) (tag ∷ 129 ∷ len ∷ []) (tag ∷ 130 ∷ len / 256 ∷ len % 256 ∷ []))
