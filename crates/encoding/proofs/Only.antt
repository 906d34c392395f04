-- ONLY: no other bytes say the same parts, and the bytes that are written say them.
use Prim.Native.Nat.{ℕ, ◌+◌, ◌-◌, ◌<◌, ◌≤◌}
use mathlib.Core.Path.{◌≡◌, refl, sym, ◌∙◌, ap, subst}
use mathlib.Core.List.{List, [], ◌++◌}
use mathlib.Core.Bool.{true}
use native.Mathlib.Omega.{arith}
use lib.ListN.{length, take, drop, length-append}
use Rattle.der.specs.Head.{tag_ok}
use Rattle.der.specs.Content.{integer_ok}
use Rattle.der.specs.Integer.{signed32}
use Rattle.grammar.specs.declared.cursor.Cursor.{Cursor}
use Rattle.grammar.specs.Cursor.{tag_at, need_of, any_of, enter_of, content_of}
use Rattle.grammar.specs.Span.{part_of}
use Rattle.grammar.specs.Parts.{whole_span}
use Rattle.encoding.specs.Element.{element, integer_bytes, integer}
use Rattle.encoding.specs.ReadBack.{Bytes}
use Rattle.encoding.specs.Parts.{Parts, none, leaf, number, node, whole, Says, SaysAll}
use Rattle.encoding.proofs.Holds.{split, Holds, need_took, tag_is, element-tag}
use Rattle.encoding.proofs.Rules.{content-is, value_is}
use Rattle.encoding.proofs.Inverse.{need_only, at-end, bytes_span}
use Rattle.encoding.proofs.Integer.{integer-only, integer_ok_lem, integer-short, integer_value}
use Rattle.encoding.proofs.Message.{start-holds}

-- the parts as they are written
unfoldable pub parts_bytes : Parts → List ℕ
parts_bytes none = []
parts_bytes (leaf tag content rest) = element tag content ++ parts_bytes rest
parts_bytes (number n rest) = integer n ++ parts_bytes rest
parts_bytes (node tag inside rest) = element tag (parts_bytes inside) ++ parts_bytes rest
parts_bytes (whole bytes rest) = bytes ++ parts_bytes rest

pub between_is : (m x y : List ℕ) (c r : Cursor) → Holds m c (x ++ y) → Holds m r y → r.end ≡ c.end → part_of m (whole_span c r) ≡ x
between_is m x y c r h k e =
    let one = split m x y c.at c.end h.is h.size in
    let at : c.at + length x ≡ r.at = omega (arith, h.size, k.size, length-append x y) in
    ap (λ (j : ℕ). take (j - c.at) (drop c.at m)) (sym at) ∙ one.0

module _ (m : List ℕ) (bytes : Bytes m) where
  -- what is left is what the parts are written in
  says-only : (p : Parts) (c : Cursor) (x : List ℕ) → Holds m c x → Says m c p → x ≡ parts_bytes p
  unfolding Says parts_bytes integer any_of
  says-only none c x h s = at-end c h s
  says-only (leaf tag content rest) c x h s =
      let i = need_only m bytes c x h tag s.0 in
      let e : i.content ≡ content = sym (content-is (need_of m tag c) i.took.found) ∙ s.1 in
      i.is
      ∙ ap (λ (l : List ℕ). element tag l ++ i.rest) e
      ∙ ap (λ (l : List ℕ). element tag content ++ l) (says-only rest (need_of m tag c) i.rest i.took.left s.2)
  says-only (number n rest) c x h s =
      let r : Cursor = need_of m 0x02 c in
      let i = need_only m bytes c x h 0x02 s.0 in
      let k : content_of m r ≡ i.content = content-is r i.took.found in
      let b : Bytes i.content = subst Bytes i.took.found.is (bytes_span m r.from r.to bytes) in
      let o =
      integer-only i.content b (subst (λ (l : List ℕ). integer_ok l ≡ true) k s.1) (subst (λ (l : List ℕ). length l ≤ 4) k s.2) in
      let v : signed32 i.content ≡ n = sym (value_is r i.took.found) ∙ s.3 in
      i.is
      ∙ ap (λ (l : List ℕ). element 0x02 l ++ i.rest) (o ∙ ap integer_bytes v)
      ∙ ap (λ (l : List ℕ). element 0x02 (integer_bytes n) ++ l) (says-only rest r i.rest i.took.left s.4)
  says-only (node tag inside rest) c x h s =
      let r : Cursor = need_of m tag c in
      let i = need_only m bytes c x h tag s.0 in
      i.is
      ∙ ap (λ (l : List ℕ). element tag l ++ i.rest) (says-only inside (enter_of r) i.content i.took.into s.1)
      ∙ ap (λ (l : List ℕ). element tag (parts_bytes inside) ++ l) (says-only rest r i.rest i.took.left s.2)
  says-only (whole e rest) c x h s =
      let t : ℕ = tag_at m c in
      let r : Cursor = need_of m t c in
      let i = need_only m bytes c x h t s.0 in
      let here = between_is m (element t i.content) i.rest c r (subst (Holds m c) i.is h) i.took.left i.took.end in
      let w : element t i.content ≡ e = sym here ∙ s.1 in
      i.is
      ∙ ap (λ (l : List ℕ). l ++ i.rest) w
      ∙ ap (λ (l : List ℕ). e ++ l) (says-only rest r i.rest i.took.left s.2)

  -- ONLY: bytes that say these parts are the bytes that are written
  pub only_der : (p : Parts) → SaysAll m p → m ≡ parts_bytes p
  only_der p s = says-only p _ m (start-holds m) s

-- ## What is written says these parts

-- tags that may stand, numbers of 32 bits, and elements that are given whole
unfoldable pub Proper : Parts → Type 0
Proper none = Unit {0}
Proper (leaf tag content rest) = (tag_ok tag ≡ true) × Proper rest
Proper (number n rest) = (n < 4294967296) × Proper rest
Proper (node tag inside rest) = (tag_ok tag ≡ true) × Proper inside × Proper rest
Proper (whole e rest) = (tag : ℕ) × (v : List ℕ) × (e ≡ element tag v) × (tag_ok tag ≡ true) × Proper rest

module _ (m : List ℕ) (few : length m < 65536) where
  says_back : (p : Parts) (c : Cursor) → Proper p → Holds m c (parts_bytes p) → Says m c p
  unfolding Proper Says parts_bytes integer any_of tag_ok
  says_back none c q h = omega (arith, h.size)
  says_back (leaf tag content rest) c q h =
      let t = need_took m c tag content (parts_bytes rest) few q.0 h in
      (t.left.ok, content-is (need_of m tag c) t.found, says_back rest (need_of m tag c) q.1 t.left)
  says_back (number n rest) c q h =
      let r : Cursor = need_of m 0x02 c in
      let t = need_took m c 0x02 (integer_bytes n) (parts_bytes rest) few refl h in
      let k = content-is r t.found in (
        t.left.ok,
        rw k (integer_ok_lem n q.0),
        rw k (integer-short n),
        value_is r t.found ∙ integer_value n q.0,
        says_back rest r q.1 t.left,
      )
  says_back (node tag inside rest) c q h =
      let r : Cursor = need_of m tag c in
      let t = need_took m c tag (parts_bytes inside) (parts_bytes rest) few q.0 h in
      (t.left.ok, says_back inside (enter_of r) q.1 t.into, says_back rest r q.2 t.left)
  says_back (whole e rest) c q h =
      let k : Holds m c (element q.0 q.1 ++ parts_bytes rest) = subst (λ (l : List ℕ). Holds m c (l ++ parts_bytes rest)) q.2 h in
      let a : tag_at m c ≡ q.0 = tag_is m c (element q.0 q.1 ++ parts_bytes rest) k ∙ element-tag q.0 q.1 (parts_bytes rest) in
      let t = need_took m c q.0 q.1 (parts_bytes rest) few q.3 k in
      rw a (
        t.left.ok,
        between_is m e (parts_bytes rest) c (need_of m q.0 c) h t.left t.end,
        says_back rest (need_of m q.0 c) q.4 t.left,
      )

  pub says_all : (p : Parts) → Proper p → m ≡ parts_bytes p → SaysAll m p
  says_all p q is = says_back p _ q (subst (Holds m _) is (start-holds m))
