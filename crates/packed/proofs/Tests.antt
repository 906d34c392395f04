-- An answer that is there only where a test holds.
use Rattle.std.specs.Prelude.{Some, None, is_some}
use mathlib.Core.Bool.{Bool, true, false, cond, true≢false}
use mathlib.Core.Path.{◌≡◌, refl, sym, ap}
use Rattle.std.proofs.lemmas.Option.{cond_some}

module _ {A : Type 0} where
  pub tested : (b : Bool) (x : A) → is_some (cond b (Some x) None) ≡ true → b ≡ true
  tested true x e = refl
  tested false x e = e

  -- what a `?` tells of it
  pub no_answer : (b : Bool) (x : A) → None ≡ cond b (Some x) None → b ≡ false
  no_answer true x e = absurd (true≢false (sym (ap is_some e)))
  no_answer false x e = refl

  pub answered : (b : Bool) {x y : A} → Some y ≡ cond b (Some x) None → (b ≡ true) × (x ≡ y)
  answered b {x} {y} e = cond_some b x y (sym e)
