-- Laws of a run of elements: what stands at the loop's place, and that a fault lies inside the bytes that were checked.
use Rattle.std.specs.Prelude.{Ok, Err}
use Prim.Native.Nat.{ℕ, zero, suc, ◌+◌, ◌-◌, ◌<◌, ◌≤◌}
use mathlib.Core.Path.{◌≡◌, refl, sym, ◌∙◌, ap, subst}
use mathlib.Core.List.{List, [], ◌∷◌}
use mathlib.Core.Bool.{Bool, true, false, not, ◌&&◌}
use native.Mathlib.Nat.{lt_irrefl, add-zero, add_assoc, add-sub_cancel_left, sub-zero, zero-sub, suc-sub-suc}
use native.Mathlib.Numerals.{sub-one}
use native.Mathlib.Omega.{arith}
use borrow.Author.Tests.{eqb-false, not-true}
use lib.ListN.{length, take, drop, length-drop, length-take, drop_of_length-le}
use lib.Seq.{drop-drop, take_all, take-nil}
use lib.Dec.{eqb, lit≤, T}
use Rattle.der.specs.declared.Offset.{Offset}
use Rattle.der.specs.Types.{Head, Check, fault_by}
use Rattle.der.specs.declared.element.Element.{Element}
use Rattle.der.specs.declared.element.Element.TheVariants.{Primitive, Constructed, Faulty}
use Rattle.der.specs.declared.element.Run.{Run}
use Rattle.der.specs.declared.element.Run.TheVariants.{Sound as RunSound, BadTag, BadLength, BadForm, BadContent}
use Rattle.der.specs.Head.{head_of}
use Rattle.der.specs.Content.{content_ok}
use Rattle.der.specs.Element.{constructed, form_ok, judge, element_of, size_of, and_then, with_content, each_element, content_at, check_at}
use Rattle.der.specs.Code.{check_of, EndsAt}
use Rattle.der.proofs.HeadLaws.{HeadIn, head_in_lem, cond-case, cond_both}

-- an element takes at least two bytes and ends inside; a constructed one has a level left
unfoldable pub ElementIn : ℕ → ℕ → Element → Type 0
ElementIn d n (Primitive size) = (2 ≤ size) × (size ≤ n)
ElementIn d n (Constructed start len) = (2 ≤ start) × (start + len ≤ n) × (0 < d)
ElementIn d n (Faulty rule) = Unit {0}

deep : (b : Bool) (d : ℕ) → (b && not (eqb d 0)) ≡ true → 0 < d
deep true d e = omega (arith, eqb-false d 0 (not-true (eqb d 0) e))
deep false d e = absurd (subst T (sym e) tt)

judge_in : (d : ℕ) (s : List ℕ) (h : Head) → HeadIn (length s) h → ElementIn d (length s) (judge d s h)
unfolding judge HeadIn ElementIn
judge_in d s (Err rule) w = tt
judge_in d s (Ok hd) w =
    let P : Element → Type 0 = ElementIn d (length s) in
    cond_both P (form_ok hd.tag && not (eqb d 0))
    (λ e. cond-case P (constructed hd.tag) {x = Constructed hd.start hd.len} (w.0, w.2, deep (form_ok hd.tag) d e)
    (cond-case P (content_ok hd.tag (take hd.len (drop hd.start s))) {x = Primitive (hd.start + hd.len)} {y = Faulty 4} (omega arith, w.2) tt)) (λ e. tt)

pub element_in : (d : ℕ) (s : List ℕ) → ElementIn d (length s) (element_of d s)
unfolding element_of
element_in d s = judge_in d s (head_of s) (head_in_lem s)

-- what `&s[i..]` is
pub tail_is : (s : List ℕ) (i : ℕ) → take (length s - i) (drop i s) ≡ drop i s
tail_is s i = take_all (length s - i) (drop i s) (omega (arith, length-drop i s))

-- ---- the walk over a run of elements
skip : (inner : ℕ → List ℕ → Check) (d k b : ℕ) (s : List ℕ) → each_element inner d k b s ≡ each_element inner d 0 (b + k) (drop k s)
unfolding each_element
skip inner d zero b s = rw add-zero
skip inner d (suc k) b [] = refl
skip inner d (suc k) b (x ∷ s) = skip inner d k (b + 1) s ∙ ap (λ (j : ℕ). each_element inner d 0 j (drop k s)) (omega arith)

after : (inner : ℕ → List ℕ → Check) (d k b x : ℕ) (s : List ℕ) → 0 < k → each_element inner d (k - 1) (b + 1) s ≡ each_element inner d 0 (b + k) (drop k (x ∷ s))
after inner d zero b x s h = absurd (lt_irrefl 0 h)
after inner d (suc k) b x s h =
    ap (λ (j : ℕ). each_element inner d j (b + 1) s) (sub-one (suc k)) ∙ skip inner d k (b + 1) s ∙ ap (λ (j : ℕ). each_element inner d 0 j (drop k s)) (omega arith)

-- a run that is not empty: its first element, then the run behind it
first : (d b : ℕ) (s : List ℕ) → 0 < length s → 0 < size_of (element_of d s) → check_at d b s ≡ and_then (with_content (content_at d) b s (element_of d s)) (check_at d (b + size_of (element_of d s)) (drop (size_of (element_of d s)) s))
unfolding check_at each_element
first d b [] h k = absurd (lt_irrefl 0 h)
first d b (x ∷ s) h k = ap (and_then (with_content (content_at d) b (x ∷ s) (element_of d (x ∷ s)))) (after (content_at d) d (size_of (element_of d (x ∷ s))) b x s k)

pub first-is : (d b : ℕ) (s : List ℕ) {o : Element} → element_of d s ≡ o → 0 < length s → 0 < size_of o → check_at d b s ≡ and_then (with_content (content_at d) b s o) (check_at d (b + size_of o) (drop (size_of o) s))
first-is d b s e h k = subst (λ (o : Element). 0 < size_of o → check_at d b s ≡ and_then (with_content (content_at d) b s o) (check_at d (b + size_of o) (drop (size_of o) s))) e (first d b s h) k

content-check : (d b : ℕ) (s : List ℕ) → 0 < d → content_at d b s ≡ check_at (d - 1) b s
unfolding content_at check_at
content-check zero b s h = absurd (lt_irrefl 0 h)
content-check (suc d) b s h = ap (λ (j : ℕ). each_element (content_at j) j 0 b s) (sym (sub-one (suc d)))

pub nothing-more : (d b : ℕ) (v : Check) → and_then v (check_at d b []) ≡ v
unfolding check_at each_element
nothing-more d b (Ok _) = refl
nothing-more d b (Err ft) = refl

-- ---- parts of the bytes up to an end

pub drop-take : (k n : ℕ) (l : List ℕ) → drop k (take n l) ≡ take (n - k) (drop k l)
drop-take zero n l = ap (λ (j : ℕ). take j l) (sym (sub-zero n))
drop-take (suc k) zero l = sym (rw zero-sub)
drop-take (suc k) (suc n) [] = sym (take-nil (suc n - suc k))
drop-take (suc k) (suc n) (x ∷ l) = drop-take k n l ∙ ap (λ (j : ℕ). take j (drop k l)) (sym (suc-sub-suc n k))

-- what `&m[i..end]` is
pub up_to : (m : List ℕ) (i end : ℕ) → take (end - i) (drop i m) ≡ drop i (take end m)
up_to m i end = sym (drop-take i end m)

-- where the loop is at i, and what is checked so far is sound; `whole` is the check of all
module _ (d : ℕ) (s : List ℕ) (i : ℕ) {whole : Check} (here : i < length s) (so_far : whole ≡ check_at d i (drop i s)) where
  left : 0 < length (drop i s)
  left = rw length-drop (omega arith)

  -- the element that `&s[i..]` begins with
  there : {o : Element} → o ≡ element_of d (take (length s - i) (drop i s)) → element_of d (drop i s) ≡ o
  there e = sym (rw (tail_is s i) at e)

  pub at_faulty : {rule : ℕ} → Faulty rule ≡ element_of d (take (length s - i) (drop i s)) → fault_by (record { 0 = i }) rule ≡ whole
  at_faulty e = sym (so_far ∙ first-is d i (drop i s) (there e) left (lit≤ tt))

  module _ {size : ℕ} (e : Primitive size ≡ element_of d (take (length s - i) (drop i s))) where
    pub primitive_in : (2 ≤ size) × (i + size ≤ length s)
    unfolding ElementIn
    primitive_in =
        let w = subst (ElementIn d (length (drop i s))) (there e) (element_in d (drop i s)) in omega (arith, length-drop i s)

    pub after_primitive : whole ≡ check_at d (i + size) (drop (i + size) s)
    after_primitive = so_far ∙ first-is d i (drop i s) (there e) left (omega (arith, primitive_in)) ∙ rw (drop-drop size i s) refl

  module _ {start len : ℕ} (e : Constructed start len ≡ element_of d (take (length s - i) (drop i s))) where
    pub constructed_in : (2 ≤ start) × (i + start + len ≤ length s) × (0 < d)
    unfolding ElementIn
    constructed_in =
        let w = subst (ElementIn d (length (drop i s))) (there e) (element_in d (drop i s)) in omega (arith, length-drop i s)

    with_rest : Check → Check
    with_rest v = and_then v (check_at d (i + start + len) (drop (i + start + len) s))

    by_content : whole ≡ with_rest (check_at (d - 1) (i + start) (take len (drop (i + start) s)))
    unfolding with_rest
    by_content =
        so_far ∙ first-is d i (drop i s) (there e) left (omega (arith, constructed_in))
        ∙ rw (content-check d (i + start) (take len (drop start (drop i s))) constructed_in.2, drop-drop start i s, drop-drop (start + len) i s) (simp add_assoc)

    -- with what the call on its content answered
    module _ {inner : Check} (calls : inner ≡ check_at (d - 1) (i + start) (drop (i + start) (take (i + start + len) s))) where
      called : whole ≡ with_rest inner
      called = by_content ∙ sym (ap with_rest (rw (← up_to s (i + start) (i + start + len), add-sub_cancel_left (i + start) len) at calls))

      pub after_sound : inner ≡ (Ok tt) → whole ≡ check_at d (i + start + len) (drop (i + start + len) s)
      unfolding with_rest
      after_sound f = called ∙ ap with_rest f

      pub at_fault : (v : Run) → check_of v ≡ inner → ((end : ℕ) → v ≡ RunSound end → ⊥) → check_of v ≡ whole
      unfolding with_rest
      at_fault (RunSound end) q n = absurd (n end refl)
      at_fault (BadTag at) q n = sym (called ∙ ap with_rest (sym q))
      at_fault (BadLength at) q n = sym (called ∙ ap with_rest (sym q))
      at_fault (BadForm at) q n = sym (called ∙ ap with_rest (sym q))
      at_fault (BadContent at) q n = sym (called ∙ ap with_rest (sym q))

-- nothing is said of the end of what is not sound
pub no_end : (n : ℕ) (v : Run) → ((end : ℕ) → v ≡ RunSound end → ⊥) → EndsAt n v
no_end n (RunSound end) q = absurd (q end refl)
no_end n (BadTag at) q = tt
no_end n (BadLength at) q = tt
no_end n (BadForm at) q = tt
no_end n (BadContent at) q = tt

pub check-end : (d : ℕ) (s : List ℕ) (i : ℕ) {whole : Check} → length s ≤ i → whole ≡ check_at d i (drop i s) → (Ok tt) ≡ whole
unfolding check_at each_element
check-end d s i h e = sym (e ∙ rw (drop_of_length-le s h))

-- ---- a fault lies inside the bytes that were checked
unfoldable pub FaultIn : ℕ → ℕ → Check → Type 0
FaultIn b n (Ok _) = Unit {0}
FaultIn b n (Err ft) = (b ≤ ft.at.0) × (ft.at.0 < b + n)

wider : (b n b' n' : ℕ) (v : Check) → FaultIn b' n' v → b ≤ b' → b' + n' ≤ b + n → FaultIn b n v
unfolding FaultIn
wider b n b' n' (Ok _) w h k = tt
wider b n b' n' (Err ft) w h k = omega arith

both_in : (b n : ℕ) (v next : Check) → FaultIn b n v → FaultIn b n next → FaultIn b n (and_then v next)
both_in b n (Ok _) next w u = u
both_in b n (Err ft) next w u = w

with_content_in : (inner : ℕ → List ℕ → Check) → ((b : ℕ) (s : List ℕ) → FaultIn b (length s) (inner b s)) → (d b : ℕ) (s : List ℕ) (o : Element) → 0 < length s → ElementIn d (length s) o → FaultIn b (length s) (with_content inner b s o)
unfolding FaultIn ElementIn
with_content_in inner ih d b s (Primitive size) h w = tt
with_content_in inner ih d b s (Faulty rule) h w = omega arith
with_content_in inner ih d b s (Constructed start len) h w =
    wider b (length s) (b + start) (length (take len (drop start s))) (inner (b + start) (take len (drop start s))) (ih (b + start) (take len (drop start s))) (omega arith)
    (omega (arith, length-take len (drop start s), length-drop start s))

run_in : (inner : ℕ → List ℕ → Check) → ((b : ℕ) (s : List ℕ) → FaultIn b (length s) (inner b s)) → (d k b : ℕ) (s : List ℕ) → FaultIn b (length s) (each_element inner d k b s)
unfolding each_element FaultIn
run_in inner ih d k b [] = tt
run_in inner ih d (suc k) b (x ∷ s) = wider b (length (x ∷ s)) (b + 1) (length s) (each_element inner d k (b + 1) s) (run_in inner ih d k (b + 1) s) (omega arith) (omega arith)
run_in inner ih d zero b (x ∷ s) =
    both_in b (length (x ∷ s)) (with_content inner b (x ∷ s) (element_of d (x ∷ s))) (each_element inner d (size_of (element_of d (x ∷ s)) - 1) (b + 1) s)
    (with_content_in inner ih d b (x ∷ s) (element_of d (x ∷ s)) (omega arith) (element_in d (x ∷ s)))
    (wider b (length (x ∷ s)) (b + 1) (length s) (each_element inner d (size_of (element_of d (x ∷ s)) - 1) (b + 1) s) (run_in inner ih d (size_of (element_of d (x ∷ s)) - 1) (b + 1) s) (omega arith) (omega arith))

content_in_lem : (d b : ℕ) (s : List ℕ) → FaultIn b (length s) (content_at d b s)
unfolding content_at FaultIn
content_in_lem zero b s = tt
content_in_lem (suc d) b s = run_in (content_at d) (content_in_lem d) d 0 b s

pub fault_in : (d b : ℕ) (s : List ℕ) {at : Offset} {rule : ℕ} → check_at d b s ≡ fault_by at rule → (b ≤ at.0) × (at.0 < b + length s)
unfolding check_at FaultIn
fault_in d b s e = subst (FaultIn b (length s)) e (run_in (content_at d) (content_in_lem d) d 0 b s)
