-- Definitions that only follow the code: tests in the order in which it makes them, and what it hands from function to function. What
-- they mean is proved in proofs/ (HeadLaws, KindLaws and ElementLaws); a reader of the paper need not look at them.
use Rattle.std.specs.Prelude.{ℕ, ◌+◌, ◌*◌, List, Bool, cond, ◌&&◌, ◌≡◌, Ok, Err}
use Rattle.der.specs.Types.{Head, Check, fault_by}
use Rattle.der.specs.declared.element.Kind.{Kind}
use Rattle.der.specs.declared.element.Kind.TheVariants.{Primitive, Constructed, Faulty}
use Rattle.der.specs.declared.element.Run.{Run}
use Rattle.der.specs.declared.element.Run.TheVariants.{Sound as RunSound, BadTag, BadLength, BadForm, BadContent}
use Rattle.der.specs.Head.{tag_ok}
use Rattle.der.specs.Content.{content_ok}
use Rattle.der.specs.Element.{constructed, form_ok}

-- what an element with this tag and content is, wherever it stands
unfoldable pub kind_of : ℕ → List ℕ → Kind
kind_of tag c = cond (tag_ok tag && form_ok tag) (cond (constructed tag) Constructed (cond (content_ok tag c) Primitive Faulty)) Faulty

-- the rule that a faulty element with this tag and length breaks, where a level is left or none is
unfoldable pub rule_of : Bool → Head → ℕ
rule_of level (Err rule) = rule
rule_of level (Ok whole) = cond (level && form_ok whole.tag) 4 3

-- A head as one number: the content's length times 8, and the bytes that tag and length take; 0 where it is bad.
abbrev pub packed_of : Head → ℕ
packed_of (Err rule) = 0
packed_of (Ok whole) = whole.len * 8 + whole.start

-- a fault at this place
abbrev pub fault_of : ℕ → ℕ → Check
fault_of at rule = fault_by (record { 0 = at }) rule

-- what a run's check says
abbrev pub check_of : Run → Check
check_of (RunSound end) = Ok tt
check_of (BadTag at) = fault_by at 1
check_of (BadLength at) = fault_by at 2
check_of (BadForm at) = fault_by at 3
check_of (BadContent at) = fault_by at 4

-- where all of n bytes are sound, they are what was checked
abbrev pub EndsAt : ℕ → Run → Type 0
EndsAt n (RunSound end) = end ≡ n
EndsAt n (BadTag at) = Unit {0}
EndsAt n (BadLength at) = Unit {0}
EndsAt n (BadForm at) = Unit {0}
EndsAt n (BadContent at) = Unit {0}
