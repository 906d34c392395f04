-- Laws of the cursor's verbs: where an element ends, and how far a cursor moves on.
use Rattle.std.specs.Prelude.{Ok, Err}
use Prim.Native.Nat.{ℕ, zero, suc, ◌+◌, ◌-◌, ◌<◌, ◌≤◌}
use mathlib.Core.Path.{◌≡◌, refl, sym, ◌∙◌, ap}
use mathlib.Core.List.{List}
use mathlib.Core.Bool.{Bool, true, false, cond, ◌||◌, true≢false}
use native.Mathlib.Nat.{le_refl, add-zero}
use native.Mathlib.Omega.{arith}
use borrow.Author.Tests.{ltb-true, ltb-false, leb-false, lt-ltb, le-leb, ne_eqb}
use lib.ListN.{length, get_or, take, drop}
use lib.Seq.{get_or-take, get_or-drop}
use lib.Dec.{ltb, leb, eqb}
use Rattle.der.specs.Head.{head_of}
use Rattle.der.specs.declared.head.Whole.{Whole}
use Rattle.der.specs.Types.{Head, whole_head}
use Rattle.der.proofs.Auto.{and_left, and_right, or_false_left, or_false_right}
use Rattle.der.proofs.HeadLaws.{cond_both, span_in_lem, whole-tag}
use Rattle.grammar.specs.declared.cursor.Cursor.{Cursor}
use Rattle.grammar.specs.Cursor.{is_ok, head_in, tag_at, fault_at, if_tag, need_of, leave_of, more_at, left_at, repeat}

-- a whole element that stands between two offsets ends inside, and the second lies inside the message
module _ (m : List ℕ) (at end : ℕ) {tag start len : ℕ} (whole : head_in m at end ≡ whole_head tag start len) where
  pub stands : (at < end) × (end ≤ length m) × (head_of (take (end - at) (drop at m)) ≡ whole_head tag start len)
  unfolding head_in
  stands =
      cond_both (λ (h : Head). h ≡ whole_head tag start len → (at < end) × (end ≤ length m) × (head_of (take (end - at) (drop at m)) ≡ whole_head tag start len))
      (leb end at || ltb (length m) end)
      (λ t q. let z : ◌≡◌ {A = ℕ} 0 1 = cc in absurd (omega arith))
      (λ t q. (leb-false _ _ (or_false_left _ (ltb (length m) end) t), ltb-false _ _ (or_false_right (leb end at) _ t), q))
      whole

  pub head_in_parent : (2 ≤ start) × (at + start + len ≤ end) × (end ≤ length m)
  head_in_parent = let s = stands in let w = span_in_lem m at end (omega arith) refl s.2 in (w.0, w.1, s.1)

  -- its tag is the byte at the first offset
  head-tag : tag ≡ get_or m at 0
  head-tag =
      let s = stands in
      whole-tag _ s.2 ∙ get_or-take (end - at) (drop at m) 0 0 (omega arith) ∙ get_or-drop at m 0 0 ∙ ap (λ (k : ℕ). get_or m k 0) (add-zero at)

-- the tag of what comes next is the byte there
pub next_tag : (m : List ℕ) (c : Cursor) {tag start len : ℕ} → head_in m c.at c.end ≡ whole_head tag start len → tag_at m c ≡ tag
unfolding tag_at
next_tag m c whole = let s = stands m c.at c.end whole in simp (lt-ltb c.at c.end s.0, le-leb c.end (length m) s.1) (sym (head-tag m c.at c.end whole))

-- another byte there: no element with the tag asked
pub other_tag : (m : List ℕ) (tag : ℕ) (c : Cursor) → (tag_at m c ≡ tag → ⊥) → if_tag tag c (head_in m c.at c.end) ≡ fault_at c
other_tag m tag c other = go (head_in m c.at c.end) refl
  where
    go : (h : Head) → head_in m c.at c.end ≡ h → if_tag tag c h ≡ fault_at c
    go (Err rule) q = refl
    go (Ok hd) q = simp (ne_eqb hd.tag tag (λ e. other (next_tag m c q ∙ e)))

-- the first two of a head that was read
pub ok_in_parent : (m : List ℕ) (at end : ℕ) {h : Whole} → head_in m at end ≡ Ok h → (2 ≤ h.start) × (at + h.start + h.len ≤ end) × (end ≤ length m)
ok_in_parent m at end e = head_in_parent m at end e

pub ok_tag : (m : List ℕ) (c : Cursor) {h : Whole} → head_in m c.at c.end ≡ Ok h → tag_at m c ≡ h.tag
ok_tag m c e = next_tag m c e

pub ruleset heads = (ok_in_parent, ok_tag, other_tag)

-- ## A step forward

-- from c to r the cursor went on under the same end, if all is right
pub record Moved (c r : Cursor) : Type 0 where
  pub end : is_ok r ≡ true → r.end ≡ c.end
  pub on : is_ok r ≡ true → c.at < r.at

pub untrue : {X : Type 0} → false ≡ true → X
untrue e = absurd (true≢false (sym e))

moved-past : (m : List ℕ) (tag : ℕ) (c : Cursor) (h : Head) → h ≡ head_in m c.at c.end → Moved c (if_tag tag c h)
moved-past m tag c (Err rule) e = record { end = untrue; on = untrue }
moved-past m tag c (Ok hd) e =
    cond_both (Moved c) (eqb hd.tag tag)
    (λ q. record { end = λ k. refl; on = λ k. omega (arith, head_in_parent m c.at c.end (sym e)) })
    (λ q. record { end = untrue; on = untrue })

pub moved_need : (m : List ℕ) (tag : ℕ) (c : Cursor) → Moved c (need_of m tag c)
unfolding need_of
moved_need m tag c =
    cond_both (Moved c) (is_ok c) (λ q. moved-past m tag c (head_in m c.at c.end) refl) (λ q. record { end = λ k. untrue (sym q ∙ k); on = λ k. untrue (sym q ∙ k) })

pub moved_leave : {c s : Cursor} (i : Cursor) → Moved c s → Moved c (leave_of s i)
unfolding leave_of
moved_leave {c} i h = cond_both (Moved c) (is_ok i) (λ q. h) (λ q. record { end = λ k. untrue (sym q ∙ k); on = λ k. untrue (sym q ∙ k) })

-- ## A loop over elements, for any state that has a cursor and any step that moves it

module _ {S : Type 0} (cur : S → Cursor) (step : S → S) (moves : (s : S) → Moved (cur s) (cur (step s))) where
  pub left_less : (s : S) → more_at (cur s) ≡ true → left_at (cur (step s)) < left_at (cur s)
  unfolding more_at
  left_less s e =
      let ok = and_left (is_ok (cur s)) (ltb (cur s).at (cur s).end) e in
      let more = ltb-true (cur s).at (cur s).end (and_right (is_ok (cur s)) (ltb (cur s).at (cur s).end) e) in
      rw ok
      (cond_both (λ (k : ℕ). k < (cur s).end - (cur s).at) (is_ok (cur (step s)))
      (λ q. omega (arith, (moves s).end q, (moves s).on q))
      (λ q. omega arith))

  -- turns past the last element change nothing
  enough : (n k : ℕ) (s : S) → left_at (cur s) ≤ n → left_at (cur s) ≤ k → repeat cur step n s ≡ repeat cur step k s
  unfolding repeat
  enough zero zero s a b = refl
  enough zero (suc k) s a b = cond_both (λ (r : S). s ≡ r) (more_at (cur s)) (λ e. absurd (omega (arith, left_less s e))) (λ e. refl)
  enough (suc n) zero s a b = cond_both (λ (r : S). r ≡ s) (more_at (cur s)) (λ e. absurd (omega (arith, left_less s e))) (λ e. refl)
  enough (suc n) (suc k) s a b = go (more_at (cur s)) refl (λ e. enough n k (step s) (omega (arith, left_less s e)) (omega (arith, left_less s e)))
    where
      go : (t : Bool) → more_at (cur s) ≡ t → (more_at (cur s) ≡ true → repeat cur step n (step s) ≡ repeat cur step k (step s)) → cond t (repeat cur step n (step s)) s ≡ cond t (repeat cur step k (step s)) s
      go true e same = same e
      go false e same = refl

  -- what is to come from s on: from the next one on, or nothing
  pub rest_more : (s : S) → more_at (cur s) ≡ true → repeat cur step (left_at (cur s)) s ≡ repeat cur step (left_at (cur (step s))) (step s)
  unfolding repeat
  rest_more s e =
      let less = left_less s e in
      enough (left_at (cur s)) (suc (left_at (cur s))) s (le_refl _) (omega arith)
      ∙ rw e (enough (left_at (cur s)) (left_at (cur (step s))) (step s) (omega arith) (le_refl _))

  pub rest_done : (s : S) → more_at (cur s) ≡ false → repeat cur step (left_at (cur s)) s ≡ s
  unfolding repeat
  rest_done s e = stop (left_at (cur s))
    where
      stop : (n : ℕ) → repeat cur step n s ≡ s
      stop zero = refl
      stop (suc n) = rw e
