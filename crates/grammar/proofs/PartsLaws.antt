-- Laws of the shared grammar rules: each member of a SEQUENCE OF moves the cursor on, and a field with short lengths ends where they say.
use Rattle.der.specs.Types.{whole_head}
use Prim.Native.Nat.{ℕ, ◌+◌, ◌-◌, ◌<◌, ◌≤◌}
use mathlib.Core.Path.{◌≡◌, refl, sym, ◌∙◌, ap}
use mathlib.Core.Bool.{true, false, ◌&&◌}
use mathlib.Core.List.{List}
use native.Mathlib.Nat.{add-zero, add_assoc}
use native.Mathlib.Omega.{arith}
use borrow.Author.Tests.{eq-eqb, eqb-true, lt-ltb, le-ltb, le-leb, lt-leb}
use lib.ListN.{length, take, drop, length-drop}
use lib.Seq.{get_or-take, get_or-drop, length-take-le}
use lib.Dec.{eqb}
use Rattle.der.specs.Head.{byte, tag_ok}
use Rattle.der.proofs.Auto.{and_left, and_right}
use Rattle.der.proofs.OneForm.{short_read}
use Rattle.grammar.specs.declared.cursor.Cursor.{Cursor}
use Rattle.grammar.specs.declared.parts.Each.{Each}
use Rattle.grammar.specs.declared.parts.Each.TheVariants.{Text, Certificate, Info}
use Rattle.grammar.specs.Code.{past_field}
use Rattle.grammar.specs.Cursor.{head_in, tag_at, past_of, need_of, done_of, enter_of, more_at, left_at}
use Rattle.grammar.specs.Parts.{typed_of, one_of, all_by, found_of, field_of}
use Rattle.grammar.proofs.CursorLaws.{Moved, moved_need, moved_leave, left_less, rest_more, rest_done}

pub moved_typed : (m : List ℕ) (c : Cursor) → Moved c (typed_of m c)
unfolding typed_of
moved_typed m c = moved_leave _ (moved_need m 0x30 c)

pub moved-one : (m : List ℕ) (what : Each) (c : Cursor) → Moved c (one_of m what c)
unfolding one_of
moved-one m Text c = moved_need m 0x0C c
moved-one m Certificate c = moved_need m 0x30 c
moved-one m Info c = moved_typed m c

-- the elements of a SEQUENCE OF that are to come: the next one and those after it, or none
module _ (m : List ℕ) (what : Each) (c : Cursor) where
  pub all_more : more_at c ≡ true → all_by (one_of m what) c ≡ all_by (one_of m what) (one_of m what c)
  unfolding all_by
  all_more e = rest_more (λ (k : Cursor). k) (one_of m what) (moved-one m what) c e

  pub all_done : more_at c ≡ false → all_by (one_of m what) c ≡ c
  unfolding all_by
  all_done e = rest_done (λ (k : Cursor). k) (one_of m what) (moved-one m what) c e

  pub all_less : more_at c ≡ true → left_at (one_of m what c) < left_at c
  all_less e = left_less (λ (k : Cursor). k) (one_of m what) (moved-one m what) c e

pub ruleset one_by_one = (all_more, all_done, all_less)

-- ## A short length

-- an element with the tag asked and a short length comes next
module _ (m : List ℕ) (at end tag : ℕ) (inside : end ≤ length m) (first : byte m at ≡ tag) (ok : tag_ok tag ≡ true) (low : byte m (at + 1) < 128) (fits : at + 2 + byte m (at + 1) ≤ end) where
  byte_there : (k : ℕ) → k < 2 → byte (take (end - at) (drop at m)) k ≡ byte m (at + k)
  byte_there k h = get_or-take (end - at) (drop at m) k 0 (omega arith) ∙ get_or-drop at m k 0

  head-short : head_in m at end ≡ whole_head tag 2 (byte m (at + 1))
  unfolding head_in
  head-short =
      let s = take (end - at) (drop at m) in
      let b0 : byte s 0 ≡ tag = byte_there 0 (omega arith) ∙ ap (byte m) (add-zero at) ∙ first in
      let b1 : byte s 1 ≡ byte m (at + 1) = byte_there 1 (omega arith) in
      let size : length s ≡ end - at = length-take-le (end - at) (drop at m) (omega (arith, length-drop at m)) in
      let reads = short_read s (ap tag_ok b0 ∙ ok) (omega (arith, b1)) (omega (arith, b1, size)) in
      simp (lt-leb end at (omega arith), le-ltb (length m) end inside) (reads ∙ rw (b0, b1) refl)

pub need_short : (m : List ℕ) (tag : ℕ) (c : Cursor) → c.rule ≡ 0 → c.end ≤ length m → byte m c.at ≡ tag → tag_ok tag ≡ true → byte m (c.at + 1) < 128 → c.at + 2 + byte m (c.at + 1) ≤ c.end → need_of m tag c ≡ past_of c 2 (byte m (c.at + 1))
unfolding need_of
need_short m tag c rule inside first ok low fits =
    simp (eq-eqb c.rule 0 rule, head-short m c.at c.end tag inside first ok low fits, eq-eqb tag tag refl)

-- [n] around one element, both with a short length
pub field-short : (m : List ℕ) (tag inner : ℕ) (c : Cursor) → c.rule ≡ 0 → c.end ≤ length m → byte m c.at ≡ tag → tag_ok tag ≡ true → tag_ok inner ≡ true → byte m (c.at + 1) < 128 → c.at + 2 + byte m (c.at + 1) ≤ c.end → byte m (c.at + 2) ≡ inner → byte m (c.at + 3) + 2 ≡ byte m (c.at + 1) → field_of m tag inner c ≡ past_field c (c.at + 2 + byte m (c.at + 1))
unfolding field_of tag_at enter_of done_of found_of
field-short m tag inner c rule inside first ok ok' low fits second ends =
    let at = c.at in
    let l = byte m (at + 1) in
    let o = past_of c 2 l in
    let next : byte m (at + 2 + 1) + 2 ≡ l = rw (add_assoc at 2 1) ends in
    let outer : need_of m tag c ≡ o = need_short m tag c rule inside first ok low fits in
    let held = need_short m inner (enter_of o) refl (omega arith) second ok' (omega (arith, next)) (omega (arith, next)) in
    let all : at + 2 + 2 + byte m (at + 2 + 1) ≡ at + 2 + l = omega (arith, next) in
    let tagged : tag_at m c ≡ tag = simp (lt-ltb at c.end (omega arith), le-leb c.end (length m) inside) first in
    rw (eq-eqb (tag_at m c) tag tagged)
    (ap (λ (v : Cursor). found_of v (done_of (need_of m inner (enter_of v)))) outer
    ∙ ap (λ (v : Cursor). found_of o (done_of v)) held
    ∙ rw (all, le-ltb (at + 2 + l) (at + 2 + l) (omega arith), add_assoc at 2 2) refl)

-- each of the tests before it
pub tags_told : (rule first tag inner : ℕ) → (eqb rule 0 && (eqb first tag && (tag_ok tag && tag_ok inner))) ≡ true → (rule ≡ 0) × (first ≡ tag) × (tag_ok tag ≡ true) × (tag_ok inner ≡ true)
tags_told rule first tag inner e =
    let rest = and_right (eqb rule 0) (eqb first tag && (tag_ok tag && tag_ok inner)) e in
    let both = and_right (eqb first tag) (tag_ok tag && tag_ok inner) rest in
    (eqb-true rule 0 (and_left (eqb rule 0) (eqb first tag && (tag_ok tag && tag_ok inner)) e), eqb-true first tag (and_left (eqb first tag) (tag_ok tag && tag_ok inner) rest), and_left (tag_ok tag) (tag_ok inner) both, and_right (tag_ok tag) (tag_ok inner) both)

-- the same where `s` is what is left of the parent: its first four bytes say it
pub short_ends : (m : List ℕ) (tag inner : ℕ) (c : Cursor) {s : List ℕ} {len held : ℕ} → c.end ≤ length m → s ≡ take (c.end - c.at) (drop c.at m) → length s + c.at ≡ c.end → 4 ≤ length s →
    (eqb c.rule 0 && (eqb (byte s 0) tag && (tag_ok tag && tag_ok inner))) ≡ true → byte s 2 ≡ inner → len ≡ byte s 1 → len ≤ 127 → len + 2 ≤ length s → held ≡ byte s 3 → held + 2 ≡ len →
    field_of m tag inner c ≡ past_field c (c.at + 2 + len)
short_ends m tag inner c {s} {len} {held} inside left size four tags second l low fits h ends =
    let t = tags_told c.rule (byte s 0) tag inner tags in
    let b0 : byte m c.at ≡ byte s 0 = ap (byte m) (sym (add-zero c.at)) ∙ sym (there 0 (omega arith)) in
    let b1 = l ∙ there 1 (omega arith) in
    let b3 = h ∙ there 3 (omega arith) in
    rw b1 (field-short m tag inner c t.0 inside (b0 ∙ t.1) t.2 t.3 (omega (arith, b1)) (omega (arith, b1)) (sym (there 2 (omega arith)) ∙ second) (omega (arith, b1, b3)))
  where
    there : (k : ℕ) → k < 4 → byte s k ≡ byte m (c.at + k)
    there k below = ap (λ (z : List ℕ). byte z k) left ∙ get_or-take (c.end - c.at) (drop c.at m) k 0 (omega arith) ∙ get_or-drop c.at m k 0
