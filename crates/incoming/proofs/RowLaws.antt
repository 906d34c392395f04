-- The rows of a table, group by group: the number of the lowest that applies.
use Prim.Native.Nat.{ℕ}
use mathlib.Core.List.{List, [], ◌∷◌, ◌++◌}
use mathlib.Core.Bool.{Bool, true, false, cond}
use mathlib.Core.Path.{◌≡◌, refl, sym, ap, ◌∙◌}
use native.Mathlib.Omega.{arith}
use borrow.Author.Tests.{ltb-true, ne_eqb}
use lib.Dec.{ltb, eqb}
use Rattle.der.proofs.Auto.{and_left, and_right}
use Rattle.std.specs.Prelude.{Option, Some, None, map, unwrap_or}
use Rattle.std.specs.List.{find}
use Rattle.std.specs.Option.{option_or, option_map, MatchOption}
use Rattle.protocol.specs.Refusals.{Row, LowestRow, pass, stop, lowest_row}
use Rattle.incoming.specs.Incoming.{number_of, row_of, or_row, chain, all_positive, number_or0, ChainFinds, NumbersPositive}

-- the first group's answer, unless it has none
abbrev pub or_else : LowestRow → LowestRow → LowestRow
or_else pass d = d
or_else (stop k) d = stop k

append_at : (r : Row) (c d : LowestRow) (t : Bool) → c ≡ d → cond t (stop r.number) c ≡ cond t (stop r.number) d
append_at r c d t e = rw e

else-at : (k : ℕ) (c d : LowestRow) (t : Bool) → cond t (stop k) (or_else c d) ≡ or_else (cond t (stop k) c) d
else-at k c d true = refl
else-at k c d false = refl

pub check_append : (rs qs : List Row) → lowest_row (rs ++ qs) ≡ or_else (lowest_row rs) (lowest_row qs)
unfolding lowest_row
check_append [] qs = refl
check_append (r ∷ rs) qs = append_at r (lowest_row (rs ++ qs)) _ r.applies (check_append rs qs) ∙ else-at r.number (lowest_row rs) (lowest_row qs) r.applies

number_at : (c d : LowestRow) → option_or (number_of c) (number_of d) ≡ number_of (or_else c d)
number_at pass d = refl
number_at (stop k) d = refl

-- two groups of rows, the second after the first
pub number_append : (rs qs : List Row) → option_or (number_of (lowest_row rs)) (number_of (lowest_row qs)) ≡ number_of (lowest_row (rs ++ qs))
number_append rs qs = number_at (lowest_row rs) (lowest_row qs) ∙ rw (check_append rs qs)

-- what `or_else` gives, where the closure gives w
pub or_else_is : {P : Type 0} (o r w : Option ℕ) → (P → r ≡ w) → MatchOption o P (λ x. r ≡ Some x) → r ≡ option_or o w
or_else_is None r w f h = f h
or_else_is (Some x) r w f h = h

-- what a number, or none, tells of the row
pub stops_at : (c : LowestRow) (k : ℕ) → Some k ≡ number_of c → c ≡ stop k
stops_at pass k e = cc
stops_at (stop n) k e = cc

pub passes_all : (c : LowestRow) → None ≡ number_of c → c ≡ pass
passes_all pass e = refl
passes_all (stop n) e = cc

first_at : (r : ℕ × Bool) (rs : List (ℕ × Bool)) → option_map (λ (q : ℕ × Bool). q.0) (find (λ (q : ℕ × Bool). q.1) rs) ≡ number_of (lowest_row (map row_of rs)) → (t : Bool) → option_map (λ (q : ℕ × Bool). q.0) (cond t (Some r) (find (λ (q : ℕ × Bool). q.1) rs)) ≡ number_of (cond t (stop r.0) (lowest_row (map row_of rs)))
first_at r rs ih true = refl
first_at r rs ih false = ih

-- the number of the first row that applies
pub first_applies : (rs : List (ℕ × Bool)) → option_map (λ (r : ℕ × Bool). r.0) (find (λ (r : ℕ × Bool). r.1) rs) ≡ number_of (lowest_row (map row_of rs))
unfolding lowest_row
first_applies [] = refl
first_applies (r ∷ rs) = first_at r rs (first_applies rs) r.1

-- ## The table row by row

-- a number other than 0 stays
stays : (n : ℕ) → eqb n 0 ≡ false → (rs : List Row) → chain n rs ≡ n
unfolding chain
stays n e [] = refl
stays n e (r ∷ rs) = rw e (stays n e rs)

chain-at : (r : Row) (rs : List Row) → ltb 0 r.number ≡ true → chain 0 rs ≡ number_or0 rs → (b : Bool) → chain (cond b r.number 0) rs ≡ unwrap_or (number_of (cond b (stop r.number) (lowest_row rs))) 0
chain-at r rs p ih true = stays r.number (ne_eqb r.number 0 (λ e. omega (arith, ltb-true 0 r.number p))) rs
chain-at r rs p ih false = ih

pub chain-is : (rs : List Row) → all_positive rs ≡ true → chain 0 rs ≡ number_or0 rs
unfolding chain lowest_row all_positive
chain-is [] p = refl
chain-is (r ∷ rs) p = chain-at r rs (and_left (ltb 0 r.number) (all_positive rs) p) (chain-is rs (and_right (ltb 0 r.number) (all_positive rs) p)) r.applies

chain_append : (n : ℕ) (rs qs : List Row) → chain n (rs ++ qs) ≡ chain (chain n rs) qs
unfolding chain
chain_append n [] qs = refl
chain_append n (r ∷ rs) qs = chain_append (or_row n r.number r.applies) rs qs

pub chain_both : (rs qs : List Row) → all_positive (rs ++ qs) ≡ true → chain (chain 0 rs) qs ≡ number_or0 (rs ++ qs)
chain_both rs qs p = sym (chain_append 0 rs qs) ∙ chain-is (rs ++ qs) p

-- from the first group's number on
pub chain-from : (rs qs : List Row) → all_positive rs ≡ true → all_positive (rs ++ qs) ≡ true → chain (number_or0 rs) qs ≡ number_or0 (rs ++ qs)
chain-from rs qs p q = ap (λ (n : ℕ). chain n qs) (sym (chain-is rs p)) ∙ chain_both rs qs q

pub chain_finds : ChainFinds
chain_finds = record { whole = chain-is; both = chain_both; from = chain-from }

-- the lists' own numbers
pub numbers_positive : NumbersPositive
unfolding all_positive
numbers_positive =
    record {
      of_head = λ g m. refl;
      of_transaction = λ ts f v r m. refl;
      of_entry = λ r m. refl;
      of_answer = λ x m. refl;
    }
