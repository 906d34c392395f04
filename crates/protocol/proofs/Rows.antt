-- The check of a list of rows gives the lowest number that applies, and none otherwise.
use Prim.Native.Nat.{ℕ, ◌≤◌}
use mathlib.Core.List.{List, [], ◌∷◌}
use mathlib.Core.Bool.{Bool, true, false, cond, ◌&&◌, ◌||◌}
use mathlib.Core.Path.{◌≡◌, refl, sym, ◌∙◌, subst}
use mathlib.Core.Logic.{◌⊎◌, inl, inr}
use native.Mathlib.Omega.{arith}
use lib.Dec.{eqb, leb, leb→le}
use native.Mathlib.Nat.{le_refl}
use Rattle.protocol.specs.Refusals.{Row, stop, pass, lowest_row, LowestRow}
use Rattle.protocol.specs.Promises.{OneOf, Applies}
use Rattle.der.proofs.Auto.{or_cases, and_left, and_right}
use Rattle.protocol.proofs.Tests.{eqb_eq, true_false, true→T}

-- ## Numbers in a list

abbrev pub is_in : ℕ → List ℕ → Bool
is_in n [] = false
is_in n (k ∷ ks) = eqb n k || is_in n ks

abbrev pub all_in : List ℕ → List ℕ → Bool
all_in [] ks = true
all_in (n ∷ ns) ks = is_in n ks && all_in ns ks

is_in_at : (n k : ℕ) (ks : List ℕ) → (is_in n ks ≡ true → OneOf n ks) → (eqb n k ≡ true) ⊎ (is_in n ks ≡ true) → OneOf n (k ∷ ks)
is_in_at n k ks ih (inl p) = inl (eqb_eq n k p)
is_in_at n k ks ih (inr p) = inr (ih p)

is_in_lem : (n : ℕ) (ks : List ℕ) → is_in n ks ≡ true → OneOf n ks
is_in_lem n [] e = true_false (sym e)
is_in_lem n (k ∷ ks) e = is_in_at n k ks (λ p. is_in_lem n ks p) (or_cases (eqb n k) (is_in n ks) e)

-- what is one of the first list is one of the second, which has them all
pub one_in : (n : ℕ) (ns ks : List ℕ) → OneOf n ns → all_in ns ks ≡ true → OneOf n ks
one_in n [] ks o e = absurd o
one_in n (k ∷ ns) ks (inl p) e = subst (λ (j : ℕ). OneOf j ks) (sym p) (is_in_lem k ks (and_left (is_in k ks) (all_in ns ks) e))
one_in n (k ∷ ns) ks (inr o) e = one_in n ns ks o (and_right (is_in k ks) (all_in ns ks) e)

-- ## Rows

abbrev pub numbers_of : List Row → List ℕ
numbers_of [] = []
numbers_of (r ∷ rs) = r.number ∷ numbers_of rs

-- the number is below those of the rows; the rows stand in the order of their numbers
abbrev below : ℕ → List Row → Bool
below n [] = true
below n (r ∷ rs) = leb n r.number && below n rs

abbrev pub ascending : List Row → Bool
ascending [] = true
ascending (r ∷ rs) = below r.number rs && ascending rs

pub applies-number : (n : ℕ) (rs : List Row) → Applies n rs → OneOf n (numbers_of rs)
applies-number n [] a = absurd a
applies-number n (r ∷ rs) (inl g) = inl (sym g.0)
applies-number n (r ∷ rs) (inr a) = inr (applies-number n rs a)

stop-stop : (m n : ℕ) → stop m ≡ stop n → m ≡ n
stop-stop m n e = cc

pass-stop : {A : Type 0} (n : ℕ) → pass ≡ stop n → A
pass-stop n e = let z : ◌≡◌ {A = ℕ} 0 1 = cc in absurd (omega arith)

stops_at : (r : Row) (rs : List Row) (n : ℕ) → (lowest_row rs ≡ stop n → Applies n rs) → (b : Bool) → r.applies ≡ b → cond b (stop r.number) (lowest_row rs) ≡ stop n → Applies n (r ∷ rs)
stops_at r rs n ih true q e = inl (stop-stop r.number n e, q)
stops_at r rs n ih false q e = inr (ih e)

-- the number given is that of a row that applies
pub stops : (rs : List Row) (n : ℕ) → lowest_row rs ≡ stop n → Applies n rs
unfolding lowest_row
stops [] n e = pass-stop n e
stops (r ∷ rs) n e = stops_at r rs n (λ p. stops rs n p) r.applies refl e

below_applies : (n : ℕ) (rs : List Row) → below n rs ≡ true → (k : ℕ) → Applies k rs → n ≤ k
below_applies n [] b k a = absurd a
below_applies n (r ∷ rs) b k (inl g) = subst (λ (j : ℕ). n ≤ j) g.0 (leb→le n r.number (true→T (leb n r.number) (and_left (leb n r.number) (below n rs) b)))
below_applies n (r ∷ rs) b k (inr a) = below_applies n rs (and_right (leb n r.number) (below n rs) b) k a

least_at : (r : Row) (rs : List Row) (n : ℕ) → below r.number rs ≡ true → (lowest_row rs ≡ stop n → (k : ℕ) → Applies k rs → n ≤ k) → (b : Bool) → r.applies ≡ b → cond b (stop r.number) (lowest_row rs) ≡ stop n → (k : ℕ) → Applies k (r ∷ rs) → n ≤ k
least_at r rs n l ih true q e k (inl g) = subst (λ (j : ℕ). n ≤ j) g.0 (subst (λ (j : ℕ). n ≤ j) (sym (stop-stop r.number n e)) (le_refl n))
least_at r rs n l ih true q e k (inr a) = subst (λ (j : ℕ). j ≤ k) (stop-stop r.number n e) (below_applies r.number rs l k a)
least_at r rs n l ih false q e k (inl g) = true_false (sym g.1 ∙ q)
least_at r rs n l ih false q e k (inr a) = ih e k a

-- and no row with a lower number applies
pub least : (rs : List Row) (n : ℕ) → ascending rs ≡ true → lowest_row rs ≡ stop n → (k : ℕ) → Applies k rs → n ≤ k
unfolding lowest_row
least [] n a e = pass-stop n e
least (r ∷ rs) n a e = least_at r rs n (and_left (below r.number rs) (ascending rs) a) (λ p. least rs n (and_right (below r.number rs) (ascending rs) a) p) r.applies refl e

stopped_at : (r : Row) (rs : List Row) (k : ℕ) → (Applies k rs → (n : ℕ) × (lowest_row rs ≡ stop n)) → (b : Bool) → r.applies ≡ b → Applies k (r ∷ rs) → (n : ℕ) × (cond b (stop r.number) (lowest_row rs) ≡ stop n)
stopped_at r rs k ih true q a = (r.number, refl)
stopped_at r rs k ih false q (inl g) = true_false (sym g.1 ∙ q)
stopped_at r rs k ih false q (inr a) = ih a

-- where a row applies, a number is given
pub stopped : (rs : List Row) (k : ℕ) → Applies k rs → (n : ℕ) × (lowest_row rs ≡ stop n)
unfolding lowest_row
stopped [] k a = absurd a
stopped (r ∷ rs) k a = stopped_at r rs k (λ p. stopped rs k p) r.applies refl a

-- a table of rows walked from the top: what the check gives
pub data Lowest : List Row → LowestRow → Type 0 where
  through : Lowest [] pass
  skip : {r : Row} {rs : List Row} {c : LowestRow} → r.applies ≡ false → Lowest rs c → Lowest (r ∷ rs) c
  halt : {r : Row} {rs : List Row} → r.applies ≡ true → Lowest (r ∷ rs) (stop r.number)

pub check-is : {rs : List Row} {c : LowestRow} → Lowest rs c → lowest_row rs ≡ c
unfolding lowest_row
check-is through = refl
check-is (skip e l) = rw e (check-is l)
check-is (halt e) = rw e
