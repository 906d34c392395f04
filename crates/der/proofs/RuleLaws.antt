-- The rules that a fault of DER names: 1 to 4.
use Rattle.std.specs.Prelude.{Ok, Err}
use Prim.Native.Nat.{ℕ, zero, suc, ◌+◌, ◌-◌, ◌*◌, ◌≤◌}
use mathlib.Core.Path.{◌≡◌, subst}
use mathlib.Core.List.{List, [], ◌∷◌}
use mathlib.Core.Bool.{◌&&◌, ◌||◌, not}
use lib.ListN.{length, get_or, take, drop}
use lib.Dec.{ltb, leb, eqb, lit≤}
use Rattle.der.specs.declared.Offset.{Offset}
use Rattle.der.specs.Types.{Head, Check, fault_by, whole_head}
use Rattle.der.specs.declared.element.Element.{Element}
use Rattle.der.specs.declared.element.Element.TheVariants.{Primitive, Constructed, Faulty}
use Rattle.der.specs.Head.{tag_ok, inside, length81, length82, length_of, head_of}
use Rattle.der.specs.Content.{content_ok}
use Rattle.der.specs.Element.{max_depth, constructed, form_ok, judge, element_of, size_of, and_then, with_content, each_element, content_at, check_at, check}
use Rattle.der.proofs.HeadLaws.{cond-case}

abbrev pub Rule : ℕ → Type 0
Rule rule = (1 ≤ rule) × (rule ≤ 4)

unfoldable pub HeadRule : Head → Type 0
HeadRule (Err rule) = Rule rule
HeadRule (Ok hd) = Unit {0}

unfoldable ElementRule : Element → Type 0
ElementRule (Primitive size) = Unit {0}
ElementRule (Constructed start len) = Unit {0}
ElementRule (Faulty rule) = Rule rule

unfoldable pub CheckRule : Check → Type 0
CheckRule (Ok _) = Unit {0}
CheckRule (Err ft) = Rule ft.rule

bad_2 : HeadRule (Err 2)
unfolding HeadRule
bad_2 = (lit≤ tt, lit≤ tt)

inside_rule : (n tag start len : ℕ) → HeadRule (inside n tag start len)
unfolding inside HeadRule
inside_rule n tag start len = cond-case HeadRule (leb (start + len) n) {x = whole_head tag start len} tt bad_2

length_rule : (s : List ℕ) → HeadRule (length_of s)
unfolding length_of length81 length82
length_rule s =
    let n : ℕ = length s in
    let tag : ℕ = get_or s 0 0 in
    cond-case HeadRule (ltb n 2) bad_2
    (cond-case HeadRule (ltb (get_or s 1 0) 128) (inside_rule n tag 2 (get_or s 1 0))
    (cond-case HeadRule (eqb (get_or s 1 0) 129) (cond-case HeadRule (ltb n 3 || ltb (get_or s 2 0) 128) bad_2 (inside_rule n tag 3 (get_or s 2 0)))
    (cond-case HeadRule (eqb (get_or s 1 0) 130) (cond-case HeadRule (ltb n 4 || eqb (get_or s 2 0) 0) bad_2 (inside_rule n tag 4 (get_or s 2 0 * 256 + get_or s 3 0))) bad_2)))

pub head_rule : (s : List ℕ) → HeadRule (head_of s)
unfolding head_of HeadRule
head_rule s = cond-case HeadRule (eqb (length s) 0) bad_2 (cond-case HeadRule (tag_ok (get_or s 0 0)) {y = Err 1} (length_rule s) (lit≤ tt, lit≤ tt))

judge_rule : (d : ℕ) (s : List ℕ) (h : Head) → HeadRule h → ElementRule (judge d s h)
unfolding judge HeadRule ElementRule
judge_rule d s (Err rule) w = w
judge_rule d s (Ok hd) w =
    cond-case ElementRule (form_ok hd.tag && not (eqb d 0))
    (cond-case ElementRule (constructed hd.tag) {x = Constructed hd.start hd.len} tt
    (cond-case ElementRule (content_ok hd.tag (take hd.len (drop hd.start s))) {x = Primitive (hd.start + hd.len)} {y = Faulty 4} tt (lit≤ tt, lit≤ tt)))
    (lit≤ tt, lit≤ tt)

element_rule : (d : ℕ) (s : List ℕ) → ElementRule (element_of d s)
unfolding element_of
element_rule d s = judge_rule d s (head_of s) (head_rule s)

both_rule : (v next : Check) → CheckRule v → CheckRule next → CheckRule (and_then v next)
both_rule (Ok _) next w u = u
both_rule (Err ft) next w u = w

with_content_rule : (inner : ℕ → List ℕ → Check) → ((b : ℕ) (s : List ℕ) → CheckRule (inner b s)) → (b : ℕ) (s : List ℕ) (o : Element) → ElementRule o → CheckRule (with_content inner b s o)
unfolding CheckRule ElementRule
with_content_rule inner ih b s (Primitive size) w = tt
with_content_rule inner ih b s (Constructed start len) w = ih (b + start) (take len (drop start s))
with_content_rule inner ih b s (Faulty rule) w = w

run_rule : (inner : ℕ → List ℕ → Check) → ((b : ℕ) (s : List ℕ) → CheckRule (inner b s)) → (d k b : ℕ) (s : List ℕ) → CheckRule (each_element inner d k b s)
unfolding each_element CheckRule
run_rule inner ih d k b [] = tt
run_rule inner ih d (suc k) b (x ∷ s) = run_rule inner ih d k (b + 1) s
run_rule inner ih d zero b (x ∷ s) =
    both_rule (with_content inner b (x ∷ s) (element_of d (x ∷ s))) (each_element inner d (size_of (element_of d (x ∷ s)) - 1) (b + 1) s)
    (with_content_rule inner ih b (x ∷ s) (element_of d (x ∷ s)) (element_rule d (x ∷ s)))
    (run_rule inner ih d (size_of (element_of d (x ∷ s)) - 1) (b + 1) s)

content_rule : (d b : ℕ) (s : List ℕ) → CheckRule (content_at d b s)
unfolding content_at CheckRule
content_rule zero b s = tt
content_rule (suc d) b s = run_rule (content_at d) (content_rule d) d 0 b s

-- DER'S RULES: a fault that the check of DER names is of rule 1, 2, 3 or 4
pub check_rule : (s : List ℕ) {at : Offset} {rule : ℕ} → check s ≡ fault_by at rule → Rule rule
unfolding check check_at CheckRule
check_rule s e = subst CheckRule e (run_rule (content_at max_depth) (content_rule max_depth) max_depth 0 0 s)
