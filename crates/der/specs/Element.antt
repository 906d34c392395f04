-- Elements with all that they hold (document 01, "DER as we take it", point 3, over points 1, 2 and 4).
use Rattle.std.specs.Prelude.{ℕ, zero, suc, ◌+◌, ◌-◌, ◌/◌, ◌%◌, List, [], ◌∷◌, Bool, true, false, not, cond, ◌&&◌, ◌||◌, length, take, drop, ltb, leb, eqb, Ok, Err}
use Rattle.der.specs.Types.{Head, Check, fault_by}
use Rattle.der.specs.declared.element.Element.{Element}
use Rattle.der.specs.declared.element.Element.TheVariants.{Primitive, Constructed, Faulty}
use Rattle.der.specs.Head.{head_of}
use Rattle.der.specs.Content.{content_ok}

-- A nest is at most 16 elements deep, the message being depth 1.
abbrev pub max_depth : ℕ
max_depth = 16

-- the constructed bit of a tag (X.690 8.1.2.5)
abbrev pub constructed : ℕ → Bool
constructed tag = eqb (tag / 32 % 2) 1

-- Rule 3: universal tags are primitive, except SEQUENCE 30 and SET 31, which are always constructed. Other classes may be either.
unfoldable pub form_ok : ℕ → Bool
form_ok tag = leb 64 tag || cond (eqb (tag % 32) 16 || eqb (tag % 32) 17) (leb 32 tag) (ltb tag 32)

-- An element with this tag and length, judged by itself where d levels are left: rules 1 and 2, then 3 (with no level left no
-- element may stand here, a primitive one neither), then 4.
unfoldable pub judge : ℕ → List ℕ → Head → Element
judge d s (Err rule) = Faulty rule
judge d s (Ok whole) =
    cond (form_ok whole.tag && not (eqb d 0))
    (cond (constructed whole.tag) (Constructed whole.start whole.len)
    (cond (content_ok whole.tag (take whole.len (drop whole.start s))) (Primitive (whole.start + whole.len)) (Faulty 4)))
    (Faulty 3)

-- the element that s begins with, by itself
unfoldable pub element_of : ℕ → List ℕ → Element
element_of d s = judge d s (head_of s)

-- how many bytes it takes (after a faulty one nothing is read)
abbrev pub size_of : Element → ℕ
size_of (Primitive size) = size
size_of (Constructed start len) = start + len
size_of (Faulty rule) = 1

-- the first fault of two checks, the first being of bytes that stand before the second's
abbrev pub and_then : Check → Check → Check
and_then (Ok _) next = next
and_then (Err fault) next = Err fault

-- an element at offset b and what it holds, which `inner` checks
abbrev pub with_content : (ℕ → List ℕ → Check) → ℕ → List ℕ → Element → Check
with_content inner b s (Primitive size) = Ok tt
with_content inner b s (Constructed start len) = inner (b + start) (take len (drop start s))
with_content inner b s (Faulty rule) = fault_by (record { 0 = b }) rule

-- the elements of s, at offset b, one after another; the first k bytes belong to the element before
unfoldable pub each_element : (ℕ → List ℕ → Check) → ℕ → ℕ → ℕ → List ℕ → Check
each_element inner d k b [] = Ok tt
each_element inner d (suc k) b (x ∷ s) = each_element inner d k (b + 1) s
each_element inner d zero b (x ∷ s) =
    and_then (with_content inner b (x ∷ s) (element_of d (x ∷ s))) (each_element inner d (size_of (element_of d (x ∷ s)) - 1) (b + 1) s)

-- what an element holds: whole elements, which may nest one level less (with none left rule 3 has refused the element itself)
unfoldable pub content_at : ℕ → ℕ → List ℕ → Check
content_at zero b s = Ok tt
content_at (suc d) b s = each_element (content_at d) d 0 b s

-- s, which stands at offset b, is whole elements where d levels are left; or the fault with the lowest offset, and the lowest
-- rule broken there
unfoldable pub check_at : ℕ → ℕ → List ℕ → Check
check_at d b s = each_element (content_at d) d 0 b s

-- all of s is whole elements, the first at depth 1
unfoldable pub check : List ℕ → Check
check s = check_at max_depth 0 s

-- the element that s begins with ends where s ends
abbrev pub fills_to : ℕ → Head → Bool
fills_to n (Err rule) = false
fills_to n (Ok whole) = eqb (whole.start + whole.len) n

unfoldable pub fills : List ℕ → Bool
fills s = fills_to (length s) (head_of s)

abbrev pub is_sound : Check → Bool
is_sound (Ok _) = true
is_sound (Err fault) = false

-- s is exactly one element with nothing after it, nested at most d deep
unfoldable pub is_element : ℕ → List ℕ → Bool
is_element d s = fills s && is_sound (check_at d 0 s)
