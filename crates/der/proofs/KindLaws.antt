-- The element that bytes begin with, by its length, its tag and its content, in the order in which the code asks.
use Rattle.std.specs.Prelude.{Ok, Err}
use Prim.Native.Nat.{ℕ, ◌+◌, ◌-◌}
use mathlib.Core.Path.{◌≡◌, ◌∙◌, refl, sym, ap, subst}
use mathlib.Core.List.{List}
use mathlib.Core.Bool.{Bool, true, false, and-false}
use native.Mathlib.Nat.{add-sub_cancel_left}
use native.Mathlib.Omega.{arith}
use borrow.Author.Tests.{ne_eqb, eq-eqb}
use lib.Dec.{eqb}
use lib.ListN.{length, take, drop}
use Rattle.der.specs.Types.{Head, whole_head}
use Rattle.der.specs.declared.element.Element.{Element}
use Rattle.der.specs.declared.element.Element.TheVariants.{Primitive, Constructed, Faulty}
use Rattle.der.specs.declared.element.Kind.{Kind}
use Rattle.der.specs.declared.element.Kind.TheVariants.{Primitive as KindPrimitive, Constructed as KindConstructed, Faulty as KindFaulty}
use Rattle.der.specs.Head.{byte, tag_ok, length_of, head_of}
use Rattle.der.specs.Content.{content_ok}
use Rattle.der.specs.Element.{constructed, form_ok, judge, element_of}
use Rattle.der.specs.Code.{kind_of, rule_of}
use Rattle.der.proofs.HeadLaws.{cond-case, length_whole_in, length-tag}

-- what a kind says of the element
abbrev pub of_kind : ℕ → ℕ → ℕ → Kind → Element
of_kind start len rule KindPrimitive = Primitive (start + len)
of_kind start len rule KindConstructed = Constructed start len
of_kind start len rule KindFaulty = Faulty rule

module _ (d : ℕ) (s : List ℕ) where
  judged_bad : (h : Head) → d ≡ 0 → judge d s h ≡ Faulty (rule_of false h)
  unfolding judge rule_of
  judged_bad (Err rule) e = refl
  judged_bad (Ok hd) e = simp (eq-eqb d 0 e, and-false)

  -- where no level is left
  pub no_level : d ≡ 0 → Faulty (rule_of false (head_of s)) ≡ element_of d s
  unfolding element_of
  no_level e = sym (judged_bad (head_of s) e)

  -- where the length is bad
  pub no_length : {rule : ℕ} → Err rule ≡ length_of s → Faulty (rule_of true (head_of s)) ≡ element_of d s
  unfolding element_of head_of judge rule_of
  no_length {rule} e =
      let P : Head → Type 0 = λ (h : Head). Faulty (rule_of true h) ≡ judge d s h in
      cond-case P (eqb (length s) 0) {x = Err 2} refl (cond-case P (tag_ok (byte s 0)) {y = Err 1} (subst P e refl) refl)

  module _ (level : d ≡ 0 → ⊥) {tag start len : ℕ} (e : whole_head tag start len ≡ length_of s) where
    by_tests : (a f b k : Bool) → tag_ok tag ≡ a → form_ok tag ≡ f → constructed tag ≡ b → content_ok tag (take len (drop start s)) ≡ k → element_of d s ≡ of_kind start len (rule_of true (head_of s)) (kind_of tag (take len (drop start s)))
    unfolding element_of head_of judge kind_of rule_of
    by_tests false f b k qa qf qb qk = simp (ne_eqb (length s) 0 (λ z. omega (arith, length_whole_in s e)), ← length-tag s e, qa)
    by_tests true false b k qa qf qb qk = simp (ne_eqb (length s) 0 (λ z. omega (arith, length_whole_in s e)), ← length-tag s e, sym e, qa, qf)
    by_tests true true true k qa qf qb qk = simp (ne_eqb (length s) 0 (λ z. omega (arith, length_whole_in s e)), ← length-tag s e, sym e, qa, qf, qb, ne_eqb d 0 level)
    by_tests true true false true qa qf qb qk = simp (ne_eqb (length s) 0 (λ z. omega (arith, length_whole_in s e)), ← length-tag s e, sym e, qa, qf, qb, qk, ne_eqb d 0 level)
    by_tests true true false false qa qf qb qk = simp (ne_eqb (length s) 0 (λ z. omega (arith, length_whole_in s e)), ← length-tag s e, sym e, qa, qf, qb, qk, ne_eqb d 0 level)

    -- with what was asked of `&s[start..start + len]`
    pub by_kind : {k : Kind} → k ≡ kind_of tag (take (start + len - start) (drop start s)) → of_kind start len (rule_of true (head_of s)) k ≡ element_of d s
    by_kind {k} q =
        ap (of_kind start len (rule_of true (head_of s))) (rw (add-sub_cancel_left start len) at q)
        ∙ sym (by_tests (tag_ok tag) (form_ok tag) (constructed tag) (content_ok tag (take len (drop start s))) refl refl refl refl)
