-- A table in which one transaction was replaced or put: the other slots, at most one transaction for an id, unset bytes zero.
use Prim.Native.Nat.{ℕ, zero, suc}
use mathlib.Core.List.{List, [], ◌∷◌}
use mathlib.Core.Bool.{Bool, true, false, cond}
use mathlib.Core.Option.{Option, none, some}
use mathlib.Core.Path.{◌≡◌, refl, sym, ◌∙◌, ap, subst}
use mathlib.Core.Logic.{◌⊎◌, inl, inr}
use native.Mathlib.Omega.{arith}
use lib.ListN.{get_elem?}
use Rattle.protocol.specs.declared.TransactionId.{TransactionId}
use Rattle.protocol.specs.declared.TransactionState.{TransactionState}
use Rattle.protocol.specs.declared.Transaction.{Transaction}
use Rattle.protocol.specs.declared.TransactionTable.{TransactionTable}
use Rattle.protocol.specs.declared.TransactionState.TheVariants as at_registrar
use Rattle.protocol.specs.Table.{replace, slot_of, is_for, lookup, is_free, put, free_slot}
use Rattle.protocol.specs.Promises.{AllUnsetZero, UnsetZero}
use Rattle.protocol.proofs.Tests.{some_some, none_some, true_false}
use Rattle.protocol.proofs.RegistrarStates.{in_use_lem}
use Rattle.protocol.proofs.Lookup.{Unique, found, found-place, unique_replace, unique_put, place_found, is_for_make, is_for_live, is_for-id}

-- what a call may do to the table, at the slot p
pub record Change (t : TransactionTable) (p : ℕ) (u : TransactionTable) : Type 0 where
  pub others : (q : ℕ) → (q ≡ p → ⊥) → get_elem? u.transactions q ≡ get_elem? t.transactions q
  pub one : Unique t.transactions → Unique u.transactions
  pub unset : AllUnsetZero t → AllUnsetZero u

pub unchanged : (t : TransactionTable) (p : ℕ) → Change t p t
unchanged t p = record { others = λ q d. refl; one = λ u. u; unset = λ z. z }

-- ## One transaction is replaced

zero_suc : {A : Type 0} (n : ℕ) → zero ≡ suc n → A
zero_suc n e = absurd (omega arith)

replace-others-at :
    (i : TransactionId) (x r : Transaction) (rs : List Transaction) (q : ℕ) →
    ((p : ℕ) → (p ≡ slot_of rs i → ⊥) → get_elem? (replace rs i x) p ≡ get_elem? rs p) → (b : Bool) → (q ≡ cond b 0 (suc (slot_of rs i)) → ⊥) →
    get_elem? (cond b (x ∷ rs) (r ∷ replace rs i x)) q ≡ get_elem? (r ∷ rs) q
replace-others-at i x r rs zero ih true d = absurd (d refl)
replace-others-at i x r rs (suc q) ih true d = refl
replace-others-at i x r rs zero ih false d = refl
replace-others-at i x r rs (suc q) ih false d = ih q (λ e. d (ap suc e))

pub replace-others : (rs : List Transaction) (i : TransactionId) (x : Transaction) (q : ℕ) → (q ≡ slot_of rs i → ⊥) → get_elem? (replace rs i x) q ≡ get_elem? rs q
unfolding replace slot_of
replace-others [] i x q d = refl
replace-others (r ∷ rs) i x q d = replace-others-at i x r rs q (λ p. replace-others rs i x p) (is_for i r) d

-- what stands in a slot afterwards is the new transaction, or stood there before
replace_new_at :
    (i : TransactionId) (x r : Transaction) (rs : List Transaction) (q : ℕ) (y : Transaction) →
    ((p : ℕ) → get_elem? (replace rs i x) p ≡ some y → (y ≡ x) ⊎ (get_elem? rs p ≡ some y)) → (b : Bool) →
    get_elem? (cond b (x ∷ rs) (r ∷ replace rs i x)) q ≡ some y → (y ≡ x) ⊎ (get_elem? (r ∷ rs) q ≡ some y)
replace_new_at i x r rs zero y ih true e = inl (sym (some_some e))
replace_new_at i x r rs (suc q) y ih true e = inr e
replace_new_at i x r rs zero y ih false e = inr e
replace_new_at i x r rs (suc q) y ih false e = ih q e

replace_new : (rs : List Transaction) (i : TransactionId) (x : Transaction) (q : ℕ) (y : Transaction) → get_elem? (replace rs i x) q ≡ some y → (y ≡ x) ⊎ (get_elem? rs q ≡ some y)
unfolding replace
replace_new [] i x q y e = none_some e
replace_new (r ∷ rs) i x q y e = replace_new_at i x r rs q y (λ p. replace_new rs i x p y) (is_for i r) e

zero_cases : (t : TransactionTable) (x y : Transaction) (q : ℕ) → AllUnsetZero t → UnsetZero x → (y ≡ x) ⊎ (get_elem? t.transactions q ≡ some y) → UnsetZero y
zero_cases t x y q z u (inl e) = subst UnsetZero (sym e) u
zero_cases t x y q z u (inr e) = z q y e

pub replacing :
    (t : TransactionTable) (i : TransactionId) (r x : Transaction) → lookup t.transactions i ≡ some r →
    (is_free x.state ≡ false → x.id ≡ i) → (UnsetZero r → UnsetZero x) →
    Change t (slot_of t.transactions i) (record { transactions = replace t.transactions i x })
replacing t i r x h k u =
    let g : (p : ℕ) × (get_elem? t.transactions p ≡ some r) = found-place t.transactions i r h in
    record {
      others = replace-others t.transactions i x;
      one = unique_replace t.transactions i x k;
      unset = λ z q y e. zero_cases t x y q z (u (z g.0 r g.1)) (replace_new t.transactions i x q y e);
    }

-- ## One transaction is put into the lowest free slot

put-others-at :
    (x r : Transaction) (rs : List Transaction) (q : ℕ) → ((p : ℕ) → (p ≡ free_slot rs → ⊥) → get_elem? (put rs x) p ≡ get_elem? rs p) →
    (b : Bool) → (q ≡ cond b 0 (suc (free_slot rs)) → ⊥) → get_elem? (cond b (x ∷ rs) (r ∷ put rs x)) q ≡ get_elem? (r ∷ rs) q
put-others-at x r rs zero ih true d = absurd (d refl)
put-others-at x r rs (suc q) ih true d = refl
put-others-at x r rs zero ih false d = refl
put-others-at x r rs (suc q) ih false d = ih q (λ e. d (ap suc e))

pub put-others : (rs : List Transaction) (x : Transaction) (q : ℕ) → (q ≡ free_slot rs → ⊥) → get_elem? (put rs x) q ≡ get_elem? rs q
unfolding put free_slot
put-others [] x q d = refl
put-others (r ∷ rs) x q d = put-others-at x r rs q (λ p. put-others rs x p) (is_free r.state) d

put_new_at :
    (x r : Transaction) (rs : List Transaction) (q : ℕ) (y : Transaction) →
    ((p : ℕ) → get_elem? (put rs x) p ≡ some y → (y ≡ x) ⊎ (get_elem? rs p ≡ some y)) → (b : Bool) →
    get_elem? (cond b (x ∷ rs) (r ∷ put rs x)) q ≡ some y → (y ≡ x) ⊎ (get_elem? (r ∷ rs) q ≡ some y)
put_new_at x r rs zero y ih true e = inl (sym (some_some e))
put_new_at x r rs (suc q) y ih true e = inr e
put_new_at x r rs zero y ih false e = inr e
put_new_at x r rs (suc q) y ih false e = ih q e

put_new : (rs : List Transaction) (x : Transaction) (q : ℕ) (y : Transaction) → get_elem? (put rs x) q ≡ some y → (y ≡ x) ⊎ (get_elem? rs q ≡ some y)
unfolding put
put_new [] x q y e = none_some e
put_new (r ∷ rs) x q y e = put_new_at x r rs q y (λ p. put_new rs x p y) (is_free r.state) e

pub putting : (t : TransactionTable) (x : Transaction) → lookup t.transactions x.id ≡ none → UnsetZero x → Change t (free_slot t.transactions) (record { transactions = put t.transactions x })
putting t x h u =
    record {
      others = put-others t.transactions x;
      one = unique_put t.transactions x h;
      unset = λ z q y e. zero_cases t x y q z u (put_new t.transactions x q y e);
    }

-- ## At most one, in the statement's words

abbrev OneIn : List Transaction → Type 0
OneIn rs =
    (p q : ℕ) (r s : Transaction)
    → get_elem? rs p ≡ some r
    → get_elem? rs q ≡ some s
    → (r.state ≡ at_registrar.Free → ⊥)
    → (s.state ≡ at_registrar.Free → ⊥)
    → r.id ≡ s.id
    → p ≡ q

-- a head in use, and the same id further on
twice : {A : Type 0} (x : Transaction) (rs : List Transaction) (q : ℕ) (r s : Transaction) → Unique (x ∷ rs) → x ≡ r → get_elem? rs q ≡ some s → (r.state ≡ at_registrar.Free → ⊥) → (s.state ≡ at_registrar.Free → ⊥) → r.id ≡ s.id → A
twice x rs q r s u a b f g e =
    let c : lookup rs r.id ≡ some s = place_found rs r.id q s u.1 (is_for_make r.id s (in_use_lem s.state g) (sym e)) b in
    none_some (sym (subst (λ (y : Transaction). is_free y.state ≡ false → lookup rs y.id ≡ none) a u.0 (in_use_lem r.state f)) ∙ c)

pub unique_one : (rs : List Transaction) → Unique rs → OneIn rs
unique_one [] u p q r s a b f g e = none_some a
unique_one (x ∷ rs) u zero zero r s a b f g e = refl
unique_one (x ∷ rs) u zero (suc q) r s a b f g e = twice x rs q r s u (some_some a) b f g e
unique_one (x ∷ rs) u (suc p) zero r s a b f g e = twice x rs p s r u (some_some b) a g f (sym e)
unique_one (x ∷ rs) u (suc p) (suc q) r s a b f g e = ap suc (unique_one rs u.1 p q r s a b f g e)

not_free : (s : TransactionState) → is_free s ≡ false → s ≡ at_registrar.Free → ⊥
not_free s f e = true_false (sym (ap is_free e) ∙ f)

none_further : (x : Transaction) (rs : List Transaction) → OneIn (x ∷ rs) → is_free x.state ≡ false → (l : Option Transaction) → lookup rs x.id ≡ l → lookup rs x.id ≡ none
none_further x rs o f none h = h
none_further x rs o f (some s) h =
    let g : (p : ℕ) × (get_elem? rs p ≡ some s) = found-place rs x.id s h in
    let i : is_for x.id s ≡ true = found rs x.id s h in
    zero_suc g.0 (o 0 (suc g.0) x s refl g.1 (not_free x.state f) (not_free s.state (is_for_live x.id s i)) (sym (is_for-id x.id s i)))

suc_suc : (m n : ℕ) → suc m ≡ suc n → m ≡ n
suc_suc m n e = omega arith

pub one_unique : (rs : List Transaction) → OneIn rs → Unique rs
one_unique [] o = tt
one_unique (x ∷ rs) o = (
  λ f. none_further x rs o f (lookup rs x.id) refl,
  one_unique rs (λ p q r s a b f g e. suc_suc p q (o (suc p) (suc q) r s a b f g e)),
)
