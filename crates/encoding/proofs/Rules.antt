-- The grammar's shared rules before bytes that were written.
use Prim.Native.Nat.{ℕ, ◌+◌, ◌-◌, ◌<◌, ◌≤◌}
use mathlib.Core.Path.{◌≡◌, refl, sym, ◌∙◌, ap, subst}
use mathlib.Core.List.{List, [], ◌++◌, append-nil}
use mathlib.Core.Bool.{true, cond}
use mathlib.Core.Option.{Option, none, some}
use native.Mathlib.Omega.{arith}
use borrow.Author.Tests.{le-ltb, eq-eqb, ne_eqb}
use lib.ListN.{length, take, drop, length-append}
use lib.Dec.{eqb}
use Rattle.der.specs.Head.{byte, tag_ok}
use Rattle.grammar.specs.declared.Span.{Span}
use Rattle.grammar.specs.declared.cursor.Cursor.{Cursor}
use Rattle.grammar.specs.Cursor.{tag_at, need_of, none_of, done_of, enter_of, leave_of, content_of, value_of, small_integer_of}
use Rattle.der.specs.Integer.{signed32}
use Rattle.grammar.specs.Parts.{found_span, whole_span, found_of, field_of}
use Rattle.grammar.specs.Header.{name_tag, name_of}
use Rattle.encoding.specs.Element.{element, field, wrapped}
use Rattle.encoding.proofs.Holds.{split, Holds, Found, Took, need_took, tag_is, element-tag, done-is, out_is, none-holds}

-- ## Spans

-- s is a part of m, above its first byte, and its bytes are v
pub record Shows (m : List ℕ) (s : Span) (v : List ℕ) : Type 0 where
  pub low : 0 < s.start.0
  pub high : s.start.0 + s.len ≤ length m
  pub is : take s.len (drop s.start.0 m) ≡ v

-- the same of a part that may be absent
unfoldable pub ShowsIf : List ℕ → Span → Option (List ℕ) → Type 0
ShowsIf m s none = (s.start.0 ≡ 0) × (s.len ≡ 0)
ShowsIf m s (some v) = Shows m s v

pub found_shows : {m v : List ℕ} (c : Cursor) → Found m c v → Shows m (found_span c) v
found_shows c f = record { low = f.low; high = omega (arith, f.size, f.high); is = f.is }

-- the whole element between two cursors
pub whole_shows : (m x y : List ℕ) (c r : Cursor) → 0 < c.at → Holds m c (x ++ y) → Holds m r y → r.end ≡ c.end
    → Shows m (whole_span c r) x
whole_shows m x y c r pos h k e =
    let both : length (x ++ y) ≡ length x + length y = length-append x y in
    let at : c.at + length x ≡ r.at = omega (arith, h.size, k.size) in
    let one = split m x y c.at c.end h.is h.size in
    record { low = pos; high = omega (arith, k.size, k.high); is = ap (λ (j : ℕ). take (j - c.at) (drop c.at m)) (sym at) ∙ one.0 }

-- ## Going on

pub moved : (m x y : List ℕ) (c r : Cursor) → Holds m c (x ++ y) → Holds m r y → r.end ≡ c.end → c.at ≤ r.at
moved m x y c r h k e = omega (arith, h.size, k.size, length-append x y)

-- ## An INTEGER of at most four bytes, a name

pub content-is : {m v : List ℕ} (c : Cursor) → Found m c v → content_of m c ≡ v
unfolding content_of
content-is c f = f.is

pub value_is : {m v : List ℕ} (c : Cursor) → Found m c v → value_of m c ≡ signed32 v
unfolding value_of content_of
value_is c f = ap signed32 f.is

module _ (m : List ℕ) (few : length m < 65536) (c : Cursor) where
  pub small_took : (v rest : List ℕ) → length v ≤ 4 → Holds m c (element 2 v ++ rest) → Took m c (small_integer_of m c) v rest
  unfolding small_integer_of tag_ok
  small_took v rest short h =
      let t = need_took m c 2 v rest few refl h in
      simp (le-ltb 4 ((need_of m 2 c).to - (need_of m 2 c).from) (omega (arith, t.found.size))) t

  pub name_took : (tag : ℕ) (v rest : List ℕ) → name_tag tag ≡ true → tag_ok tag ≡ true → Holds m c (element tag v ++ rest)
      → Took m c (name_of m c) v rest
  unfolding name_of
  name_took tag v rest name ok h =
      let e : tag_at m c ≡ tag = tag_is m c (element tag v ++ rest) h ∙ element-tag tag v rest in
      simp (e, name) (need_took m c tag v rest few ok h)

-- ## Optional fields

-- nothing comes, or an element whose tag is above this one
pub data Beyond (tag : ℕ) (x : List ℕ) : Type 0 where
  ends : byte x 0 ≡ 0 → Beyond tag x
  later : tag < byte x 0 → Beyond tag x

pub beyond_other : {tag : ℕ} {x : List ℕ} → 0 < tag → Beyond tag x → byte x 0 ≡ tag → ⊥
beyond_other h (ends e) q = omega arith
beyond_other h (later e) q = omega arith

pub beyond_less : {a b : ℕ} {x : List ℕ} → a ≤ b → Beyond b x → Beyond a x
beyond_less h (ends e) = ends e
beyond_less h (later e) = later (omega arith)

pub beyond_field : (lo tag inner : ℕ) (o : Option (List ℕ)) (rest : List ℕ) → lo < tag → Beyond tag rest
    → Beyond lo (field tag inner o ++ rest)
unfolding field
beyond_field lo tag inner none rest h b = beyond_less (omega arith) b
beyond_field lo tag inner (some v) rest h b = later (rw (element-tag tag (element inner v ++ []) rest) h)

-- r has passed a field, if it is there, and rest is left
pub record Passed (m : List ℕ) (c r : Cursor) (o : Option (List ℕ)) (rest : List ℕ) : Type 0 where
  pub left : Holds m r rest
  pub end : r.end ≡ c.end
  pub shows : ShowsIf m (found_span r) o

pub none_passed : {m rest : List ℕ} (c : Cursor) → Holds m c rest → Passed m c (none_of c) none rest
unfolding ShowsIf
none_passed c h = record { left = none-holds c h; end = refl; shows = (refl, refl) }

pub found_passed : (m v rest : List ℕ) (c o i : Cursor) {w : List ℕ} → Took m c o w rest → Took m (enter_of o) i v []
    → Passed m c (found_of o (done_of i)) (some v) rest
unfolding found_of ShowsIf
found_passed m v rest c o i t u =
    rw (done-is i u.left, u.left.ok)
    (record {
      left = record { ok = t.left.ok; size = t.left.size; high = t.left.high; is = t.left.is };
      end = t.end;
      shows = found_shows i u.found;
    })

module _ (m : List ℕ) (few : length m < 65536) (c : Cursor) where
  -- FIELD: [n] OPTIONAL around one element
  pub field_passed : (tag inner : ℕ) (o : Option (List ℕ)) (rest : List ℕ) → tag_ok tag ≡ true → tag_ok inner ≡ true → 0 < tag
      → Beyond tag rest → Holds m c (field tag inner o ++ rest) → Passed m c (field_of m tag inner c) o rest
  unfolding field field_of
  field_passed tag inner none rest ok ok' pos b h =
      simp (ne_eqb (tag_at m c) tag (λ e. beyond_other pos b (sym (tag_is m c rest h) ∙ e))) (none_passed c h)
  field_passed tag inner (some v) rest ok ok' pos b h =
      let t = need_took m c tag (element inner v ++ []) rest few ok h in
      let u = need_took m (enter_of (need_of m tag c)) inner v [] few ok' t.into in
      simp
      (eq-eqb (tag_at m c) tag (tag_is m c (element tag (element inner v ++ []) ++ rest) h ∙ element-tag tag (element inner v ++ []) rest))
      (found_passed m v rest c (need_of m tag c) (need_of m inner (enter_of (need_of m tag c))) t u)

-- ## A given element that a rule takes

-- wherever e comes next, the rule takes it
abbrev pub Reads : List ℕ → (Cursor → Cursor) → List ℕ → Type 0
Reads m f e = (c : Cursor) (rest : List ℕ) → Holds m c (e ++ rest) → Holds m (f c) rest

unfoldable pub ReadsIf : List ℕ → (Cursor → Cursor) → Option (List ℕ) → Type 0
ReadsIf m f none = Unit {0}
ReadsIf m f (some e) = Reads m f e

pub beyond_wrapped : (lo tag : ℕ) (o : Option (List ℕ)) (rest : List ℕ) → lo < tag → Beyond tag rest → Beyond lo (wrapped tag o ++ rest)
unfolding wrapped
beyond_wrapped lo tag none rest h b = beyond_less (omega arith) b
beyond_wrapped lo tag (some e) rest h b = later (rw (element-tag tag (e ++ []) rest) h)

module _ (m : List ℕ) (few : length m < 65536) (c : Cursor) (f : Cursor → Cursor) where
  -- [n] OPTIONAL around what the rule f takes
  abbrev pub around : ℕ → Cursor
  around tag = cond (eqb (tag_at m c) tag) (leave_of (need_of m tag c) (done_of (f (enter_of (need_of m tag c))))) (none_of c)

  pub around_passed : (tag : ℕ) (o : Option (List ℕ)) (rest : List ℕ) → tag_ok tag ≡ true → 0 < tag → Beyond tag rest → ReadsIf m f o
      → Holds m c (wrapped tag o ++ rest) → Passed m c (around tag) o rest
  unfolding wrapped ReadsIf ShowsIf
  around_passed tag none rest ok pos b r h =
      simp (ne_eqb (tag_at m c) tag (λ e. beyond_other pos b (sym (tag_is m c rest h) ∙ e))) (none_passed c h)
  around_passed tag (some e) rest ok pos b r h =
      let o : Cursor = need_of m tag c in
      let t = need_took m c tag (e ++ []) rest few ok h in
      rw (
        eq-eqb (tag_at m c) tag (tag_is m c (element tag (e ++ []) ++ rest) h ∙ element-tag tag (e ++ []) rest),
        out_is o (f (enter_of o))
            (r (enter_of o) [] t.into),
      )
      (record { left = t.left; end = t.end; shows = found_shows o (subst (Found m o) (append-nil e) t.found) })
