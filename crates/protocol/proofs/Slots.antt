-- The slot of a transaction, and the table with that slot changed, by what each slot holds.
use Prim.Native.Nat.{ℕ, zero, suc, ◌≤◌}
use mathlib.Core.List.{List, [], ◌∷◌}
use mathlib.Core.Bool.{Bool, true, false, cond}
use mathlib.Core.Option.{some}
use mathlib.Core.Path.{◌≡◌, refl, sym, ◌∙◌, ap}
use lib.ListN.{get_elem?, length}
use Rattle.protocol.specs.declared.TransactionId.{TransactionId}
use Rattle.protocol.specs.declared.Transaction.{Transaction}
use Rattle.protocol.specs.declared.TransactionTable.{TransactionTable}
use Rattle.protocol.specs.declared.Outgoing.{Outgoing}
use Rattle.protocol.specs.Table.{is_free, is_for, lookup, slot_of, replace, free_slot, put}
use Rattle.protocol.specs.Registrar.{done_sending, done_quietly}
use Rattle.protocol.specs.Slots.{HoldsAt, FirstAt, OnlyAt, Becomes}
use Rattle.protocol.proofs.Tests.{none_some, some_some, true_false, cases}
use Rattle.protocol.proofs.RegistrarStates.{in_use_lem}
use native.Mathlib.Omega.{arith}
use Rattle.protocol.proofs.Lookup.{found, is_for-id, is_for_live, is_for_make}
use Rattle.protocol.proofs.Changes.{replace-others, put-others}

-- ## The slot of an id

slot_at : (r : Transaction) (rs : List Transaction) (i : TransactionId) (x : Transaction) → (lookup rs i ≡ some x → get_elem? rs (slot_of rs i) ≡ some x) → (b : Bool) → cond b (some r) (lookup rs i) ≡ some x → get_elem? (r ∷ rs) (cond b 0 (suc (slot_of rs i))) ≡ some x
slot_at r rs i x ih true e = e
slot_at r rs i x ih false e = ih e

slot-holds : (rs : List Transaction) (i : TransactionId) (x : Transaction) → lookup rs i ≡ some x → get_elem? rs (slot_of rs i) ≡ some x
unfolding lookup slot_of
slot-holds [] i x e = none_some e
slot-holds (r ∷ rs) i x e = slot_at r rs i x (λ p. slot-holds rs i x p) (is_for i r) e

pub held_at : (t : TransactionTable) (i : TransactionId) (r : Transaction) → lookup t.transactions i ≡ some r → HoldsAt t (slot_of t.transactions i) i r
held_at t i r h =
    let f : is_for i r ≡ true = found t.transactions i r h in
    record { holds = slot-holds t.transactions i r h; in_use = λ q. true_false (sym (ap is_free q) ∙ is_for_live i r f); id = is_for-id i r f }

slot-first : (rs : List Transaction) (i : TransactionId) (q : ℕ) (s : Transaction) → get_elem? rs q ≡ some s → is_for i s ≡ true → slot_of rs i ≤ q
unfolding slot_of
slot-first [] i q s e f = none_some e
slot-first (r ∷ rs) i zero s e f =
    cases (λ (n : ℕ). n ≤ 0) (is_for i r) 0 (suc (slot_of rs i)) (λ _. omega arith) (λ k. true_false (sym f ∙ ap (is_for i) (sym (some_some e)) ∙ k))
slot-first (r ∷ rs) i (suc q) s e f =
    let h : slot_of rs i ≤ q = slot-first rs i q s e f in
    cases (λ (n : ℕ). n ≤ suc q) (is_for i r) 0 (suc (slot_of rs i)) (λ _. omega arith) (λ _. omega (arith, h))

pub first-at : (t : TransactionTable) (i : TransactionId) (r : Transaction) → lookup t.transactions i ≡ some r → FirstAt t (slot_of t.transactions i) i r
first-at t i r h =
    record { holds = held_at t i r h; first = λ q s g. slot-first t.transactions i q s g.holds (is_for_make i s (in_use_lem s.state g.in_use) g.id) }

-- ## One transaction is replaced

replace-at :
    (x r : Transaction) (rs : List Transaction) (i : TransactionId) (y : Transaction) →
    (lookup rs i ≡ some y → get_elem? (replace rs i x) (slot_of rs i) ≡ some x) → (b : Bool) → cond b (some r) (lookup rs i) ≡ some y →
    get_elem? (cond b (x ∷ rs) (r ∷ replace rs i x)) (cond b 0 (suc (slot_of rs i))) ≡ some x
replace-at x r rs i y ih true e = refl
replace-at x r rs i y ih false e = ih e

replace_there : (rs : List Transaction) (i : TransactionId) (x y : Transaction) → lookup rs i ≡ some y → get_elem? (replace rs i x) (slot_of rs i) ≡ some x
unfolding lookup slot_of replace
replace_there [] i x y e = none_some e
replace_there (r ∷ rs) i x y e = replace-at x r rs i y (λ p. replace_there rs i x y p) (is_for i r) e

pub replace-length : (rs : List Transaction) (i : TransactionId) (x : Transaction) → length (replace rs i x) ≡ length rs
unfolding replace
replace-length [] i x = refl
replace-length (r ∷ rs) i x = cases (λ (l : List Transaction). length l ≡ suc (length rs)) (is_for i r) (x ∷ rs) (r ∷ replace rs i x) (λ _. refl) (λ _. ap suc (replace-length rs i x))

module _ (t : TransactionTable) (i : TransactionId) (r x : Transaction) (h : lookup t.transactions i ≡ some r) where
  replaced-only : OnlyAt t (slot_of t.transactions i) x (record { transactions = replace t.transactions i x })
  replaced-only = record { holds = replace_there t.transactions i x r h; others = replace-others t.transactions i x; slots = replace-length t.transactions i x }

  pub sending_becomes : (o : Outgoing) → Becomes t i r x (done_sending (slot_of t.transactions i) (replace t.transactions i x) o)
  sending_becomes o = record { done = refl; fault = refl; held = first-at t i r h; only = replaced-only }

  pub quietly_becomes : Becomes t i r x (done_quietly (slot_of t.transactions i) (replace t.transactions i x))
  quietly_becomes = record { done = refl; fault = refl; held = first-at t i r h; only = replaced-only }

-- ## One transaction is put into the lowest free slot

pub put-length : (rs : List Transaction) (x : Transaction) → length (put rs x) ≡ length rs
unfolding put
put-length [] x = refl
put-length (r ∷ rs) x = cases (λ (l : List Transaction). length l ≡ suc (length rs)) (is_free r.state) (x ∷ rs) (r ∷ put rs x) (λ _. refl) (λ _. ap suc (put-length rs x))

pub put_only : (t : TransactionTable) (x : Transaction) → get_elem? (put t.transactions x) (free_slot t.transactions) ≡ some x → OnlyAt t (free_slot t.transactions) x (record { transactions = put t.transactions x })
put_only t x e = record { holds = e; others = put-others t.transactions x; slots = put-length t.transactions x }
