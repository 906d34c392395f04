-- What `find` gives is the first row that applies, and `map` its number.
use Rattle.std.proofs.Common.{◌≡◌, ◌∙◌, ap, Bool, ℕ, Bor, rules, tests}
use Rattle.std.specs.Prelude.{Option, Some, None}
use Rattle.std.specs.Option.{option_map, MatchOption, IsSomeAnd}
use Rattle.std.proofs.lemmas.Iterator.{YieldsList-from_slice}
use Rattle.std.proofs.lemmas.Iterator.Search.{find_from_yields_List}
use Rattle.incoming.proofs.RowLaws.{first_applies}
use Rattle.incoming.proofs.rows.first_row.Goals as goal

number_is : (P : Bor (ℕ × Bool) → ℕ → Type 0) → ((x : Bor (ℕ × Bool)) (n : ℕ) → P x n → n ≡ x.now.0) → (o : Option (Bor (ℕ × Bool))) (n : Option ℕ) → MatchOption o (n ≡ None) (λ x. IsSomeAnd n (P x)) → n ≡ option_map (λ (r : ℕ × Bool). r.0) (option_map (λ (x : Bor (ℕ × Bool)). x.now) o)
number_is P f None n h = h
number_is P f (Some x) None h = absurd h
number_is P f (Some x) (Some n) h = ap Some (f x n h)

pub returns : goal.returns
returns c =
    let found = find_from_yields_List (λ (r : ℕ × Bool). r.1) _ _ c.find.result c.find.ensures.ran (YieldsList-from_slice c.args.rows.now cc) (λ x b q k. search (rules, tests)) in
    number_is _ (λ x n e. search rules) c.find.result c.map.result c.map.ensures.cases ∙ ap (option_map (λ (r : ℕ × Bool). r.0)) found ∙ first_applies c.args.rows.now
