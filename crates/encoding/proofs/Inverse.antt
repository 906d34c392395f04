-- The other way: what was read is what is written.
use Rattle.std.specs.Prelude.{Ok, Err}
use Prim.Native.Nat.{ℕ, ◌+◌, ◌-◌, ◌<◌, ◌≤◌}
use mathlib.Core.Path.{◌≡◌, refl, sym, ◌∙◌, ap, subst}
use mathlib.Core.List.{List, [], ◌∷◌, ◌++◌, append_assoc}
use mathlib.Core.Bool.{Bool, true, false, cond}
use native.Mathlib.Omega.{arith}
use borrow.Author.Tests.{le-ltb, le-leb, lt-leb, eqb-true, ltb-true, ltb-false}
use lib.ListN.{length, take, drop, length-take, length-drop, take-append-drop, get_or-eq_default}
use lib.Seq.{get_or-take, get_or-drop, length-take-le}
use lib.Dec.{ltb, leb, eqb, lit<}
use Rattle.der.specs.Head.{byte, tag_ok, head_of, head_bytes}
use Rattle.der.specs.Types.{Head, whole_head}
use Rattle.der.proofs.HeadLaws.{cond_both, whole_in}
use Rattle.der.proofs.OneForm.{Bytes, one_form}
use Rattle.grammar.specs.declared.cursor.Cursor.{Cursor}
use Rattle.grammar.specs.Cursor.{is_ok, head_in, if_tag, need_of}
use Rattle.grammar.proofs.CursorLaws.{untrue}
use Rattle.encoding.specs.Element.{element}
use Rattle.encoding.proofs.Holds.{span, Holds, Took, small_need}

bytes_by : (m : List ℕ) (a n i : ℕ) (b : Bool) → ltb i (length (take n (drop a m))) ≡ b → Bytes m → byte (take n (drop a m)) i < 256
bytes_by m a n i true q bytes =
    let k : i < n = omega (arith, ltb-true i (length (take n (drop a m))) q, length-take n (drop a m)) in
    rw (get_or-take n (drop a m) i 0 k, get_or-drop a m i 0) (bytes (a + i))
bytes_by m a n i false q bytes = rw (get_or-eq_default (take n (drop a m)) 0 (ltb-false i (length (take n (drop a m))) q)) (lit< tt)

pub bytes-part : (m : List ℕ) (a n : ℕ) → Bytes m → Bytes (take n (drop a m))
bytes-part m a n bytes i = bytes_by m a n i (ltb i (length (take n (drop a m)))) refl bytes

pub bytes_span : (m : List ℕ) (a e : ℕ) → Bytes m → Bytes (span m a e)
bytes_span m a e = bytes-part m a (e - a)

no_bytes : (x : List ℕ) → length x ≡ 0 → x ≡ []
no_bytes [] e = refl
no_bytes (y ∷ x) e = absurd (omega arith)

head_there : (m : List ℕ) (c : Cursor) (x : List ℕ) {t start len : ℕ} → Holds m c x → head_in m c.at c.end ≡ whole_head t start len
    → head_of x ≡ whole_head t start len
unfolding head_in
head_there m c [] h q =
    let empty : leb c.end c.at ≡ true = le-leb c.end c.at (omega (arith, h.size)) in
    let p = simp empty at q in
    let z : ◌≡◌ {A = ℕ} 0 1 = cc p in absurd (omega arith)
head_there m c (y ∷ x) h q = sym (simp (lt-leb c.end c.at (omega (arith, h.size)), le-ltb (length m) c.end h.high, h.is)) ∙ q

-- x begins with an element with this tag, which r has passed
pub record Is (m : List ℕ) (tag : ℕ) (c r : Cursor) (x : List ℕ) : Type 0 where
  pub content : List ℕ
  pub rest : List ℕ
  pub is : x ≡ element tag content ++ rest
  pub tags : tag_ok tag ≡ true
  pub took : Took m c r content rest

module _ (m : List ℕ) (bytes : Bytes m) (c : Cursor) (x : List ℕ) (h : Holds m c x) where
  whole_is : (tag : ℕ) {start len : ℕ} → head_in m c.at c.end ≡ whole_head tag start len → Is m tag c (need_of m tag c) x
  unfolding element
  whole_is tag {start} {len} q =
      let e = head_there m c x h q in
      let form = one_form x (subst Bytes h.is (bytes_span m c.at c.end bytes)) e in
      let fit = whole_in x refl e in
      let v : List ℕ = take len (drop start x) in
      let rest : List ℕ = drop len (drop start x) in
      let size : length v ≡ len = length-take-le len (drop start x) (omega (arith, length-drop start x)) in
      let is : x ≡ (head_bytes tag (length v) ++ v) ++ rest =
      sym (take-append-drop start x) ∙ ap (λ (l : List ℕ). l ++ drop start x) (form.0 ∙ ap (head_bytes tag) (sym size))
      ∙ ap (λ (l : List ℕ). head_bytes tag (length v) ++ l) (sym (take-append-drop len (drop start x)))
      ∙ sym (append_assoc (head_bytes tag (length v)) v rest) in
      record {
        content = v;
        rest = rest;
        is = is;
        tags = form.1;
        took = small_need m c tag v rest (omega (arith, form.2)) form.1 (subst (Holds m c) is h);
      }

  -- ONLY: an element with this tag was read, so its bytes are the ones that are written
  pub need_only : (tag : ℕ) → is_ok (need_of m tag c) ≡ true → Is m tag c (need_of m tag c) x
  unfolding need_of
  need_only tag = by_head (head_in m c.at c.end) refl
    where
      by_head : (o : Head) → head_in m c.at c.end ≡ o → is_ok (cond (is_ok c) (if_tag tag c (head_in m c.at c.end)) c) ≡ true
          → Is m tag c (need_of m tag c) x
      by_head (Err rule) q k = untrue (sym (simp (h.ok, q)) ∙ k)
      by_head (Ok hd) q k =
          cond_both (λ (r : Cursor). is_ok r ≡ true → Is m tag c (need_of m tag c) x) (eqb hd.tag tag)
          (λ s y. whole_is tag (q ∙ ap (λ (j : ℕ). whole_head j hd.start hd.len) (eqb-true hd.tag tag s)))
          (λ s y. untrue y) (simp (h.ok, q) at k)

pub at-end : {m x : List ℕ} (c : Cursor) → Holds m c x → c.end ≤ c.at → x ≡ []
at-end {m} {x} c h e = no_bytes x (omega (arith, h.size))
