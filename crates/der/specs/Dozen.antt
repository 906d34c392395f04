-- The dozen at the definitions (document 01): each element with what `check` answers, and the two INTEGERs with the number they say.
use Rattle.std.specs.Prelude.{ℕ, ◌-◌, ◌^◌, ◌≡◌, refl, List, [], ◌∷◌, Bool, true, false, not, cond, ◌&&◌, take, drop, eqb, Ok, Err}
use Rattle.std.proofs.Math.Option.{Option, none, some}
use Rattle.der.specs.Types.{Head, Check, fault_by}
use Rattle.der.specs.Head.{tag_ok, inside, length81, length82, length_of, head_of}
use Rattle.der.specs.Content.{boolean_ok, integer_ok, bit_string_ok, arcs_ok, oid_ok, content_ok}
use Rattle.der.specs.Element.{max_depth, form_ok, judge, element_of, each_element, content_at, check_at, check, fills, is_sound, is_element}
use Rattle.der.specs.Integer.{unsigned, integer_of, shift_in, signed32}

-- two answers are the same
pub same : Check → Check → Bool
same (Ok _) (Ok _) = true
same (Ok _) (Err b) = false
same (Err a) (Ok _) = false
same (Err a) (Err b) = eqb a.at.0 b.at.0 && eqb a.rule b.rule

-- two numbers are the same, or there is none
pub same_number : Option ℕ → Option ℕ → Bool
same_number none none = true
same_number none (some n) = false
same_number (some m) none = false
same_number (some m) (some n) = eqb m n

-- the number that an element with this tag and length says, where it is an INTEGER; `value` reads its content
pub integer_in : (List ℕ → ℕ) → List ℕ → Head → Option ℕ
integer_in value s (Err rule) = none
integer_in value s (Ok whole) = cond (eqb whole.tag 0x02) (some (value (take whole.len (drop whole.start s)))) none

-- the same of bytes that are an element
pub integer_said : (List ℕ → ℕ) → List ℕ → Option ℕ
integer_said value s = cond (is_element max_depth s) (integer_in value s (head_of s)) none

-- a number below 0, as it is handed on in 32 bits
pub minus : ℕ → ℕ
minus n = 2 ^ 32 - n

pub record Case : Type 0 where
  pub bytes : List ℕ
  pub says : Check
  pub number : Option ℕ

-- no number
pub ◌says◌ : List ℕ → Check → Case
b says a = record { bytes = b; says = a; number = none }

-- a sound INTEGER
pub ◌is_number◌ : List ℕ → ℕ → Case
b is_number n = record { bytes = b; says = (Ok tt); number = some n }

infix 4 ◌says◌
infix 4 ◌is_number◌
-- each case is answered as it says, is an element exactly where no fault is said, and says the number given, by its definition and as
-- it is computed
pub answered : List Case → Bool
answered [] = true
answered (c ∷ cs) =
    same (check c.bytes) c.says
    && (cond (is_sound c.says) (is_element max_depth c.bytes) (not (is_element max_depth c.bytes))
    && (same_number (integer_said integer_of c.bytes) c.number && (same_number (integer_said signed32 c.bytes) c.number && answered cs)))

pub cases : List Case
cases =
    ((0x02 ∷ 0x01 ∷ 0xFF ∷ []) is_number minus 1)
    ∷ ((0x02 ∷ 0x02 ∷ 0x00 ∷ 0x80 ∷ []) is_number 128)
    ∷ ((0x03 ∷ 0x01 ∷ 0x00 ∷ []) says (Ok tt))
    ∷ ((0x03 ∷ 0x02 ∷ 0x07 ∷ 0x80 ∷ []) says (Ok tt))
    ∷ ((0x05 ∷ 0x00 ∷ []) says (Ok tt))
    ∷ ((0x02 ∷ 0x02 ∷ 0x00 ∷ 0x7F ∷ []) says fault_by (record { 0 = 0 }) 4)
    ∷ ((0x03 ∷ 0x01 ∷ 0x01 ∷ []) says fault_by (record { 0 = 0 }) 4)
    ∷ ((0x03 ∷ 0x02 ∷ 0x07 ∷ 0xC0 ∷ []) says fault_by (record { 0 = 0 }) 4)
    ∷ ((0x01 ∷ 0x01 ∷ 0x01 ∷ []) says fault_by (record { 0 = 0 }) 4)
    ∷ ((0x06 ∷ 0x01 ∷ 0x80 ∷ []) says fault_by (record { 0 = 0 }) 4)
    ∷ ((0x30 ∷ 0x81 ∷ 0x7F ∷ []) says fault_by (record { 0 = 0 }) 2)
    ∷ ((0x30 ∷ 0x80 ∷ []) says fault_by (record { 0 = 0 }) 2)
    ∷ []

pub dozen : answered cases ≡ true
unfolding answered same same_number integer_in integer_said minus cases ◌says◌ ◌is_number◌ tag_ok inside length81 length82 length_of head_of boolean_ok integer_ok bit_string_ok arcs_ok oid_ok content_ok form_ok judge element_of each_element content_at check_at check fills is_element unsigned integer_of shift_in signed32
dozen = refl
