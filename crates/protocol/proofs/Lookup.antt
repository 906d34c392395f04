-- The table as a map from ids to transactions: what is found after one is replaced, freed or put.
use Prim.Native.Nat.{ℕ, zero, suc}
use mathlib.Core.List.{List, [], ◌∷◌}
use mathlib.Core.Bool.{Bool, true, false, not, cond}
use mathlib.Core.Option.{Option, none, some}
use mathlib.Core.Path.{◌≡◌, refl, sym, ◌∙◌, ap}
use lib.ListN.{get_elem?, replicate}
use Rattle.protocol.specs.declared.TransactionId.{TransactionId}
use Rattle.protocol.specs.declared.Transaction.{Transaction}
use Rattle.protocol.specs.declared.TransactionTable.{TransactionTable}
use Rattle.protocol.specs.Bytes.{same_id}
use Rattle.protocol.specs.Table.{is_free, lookup, is_for, replace, put, has_free_slot, free_transaction, empty_table, capacity}
use Rattle.protocol.specs.Agreement.{RegistrarHolds}
use Rattle.der.proofs.Auto.{and_right, and_left}
use Rattle.protocol.proofs.Tests.{id_eq, same_bytes_refl, some_some, none_some, true_false}
use Rattle.protocol.proofs.RegistrarStates.{in_use_lem}

-- no id stands twice among the transactions in use
abbrev pub Unique : List Transaction → Type 0
Unique [] = Unit {0}
Unique (r ∷ rs) = (is_free r.state ≡ false → lookup rs r.id ≡ none) × Unique rs

pub is_for-id : (i : TransactionId) (r : Transaction) → is_for i r ≡ true → r.id ≡ i
is_for-id i r e = id_eq r.id i (and_right (not (is_free r.state)) _ e)

pub not_true : (b : Bool) → not b ≡ true → b ≡ false
not_true true e = sym e
not_true false e = refl

pub is_for_live : (i : TransactionId) (r : Transaction) → is_for i r ≡ true → is_free r.state ≡ false
is_for_live i r e = not_true (is_free r.state) (and_left (not (is_free r.state)) (same_id r.id i) e)

pub is_for_make : (i : TransactionId) (r : Transaction) → is_free r.state ≡ false → r.id ≡ i → is_for i r ≡ true
is_for_make i r f e = rw (f, e) (same_bytes_refl i.bytes)

pub is_for_other : (i j : TransactionId) (r : Transaction) → r.id ≡ i → (i ≡ j → ⊥) → is_for j r ≡ false
is_for_other i j r e d = go (is_for j r) refl
  where
    go : (b : Bool) → is_for j r ≡ b → is_for j r ≡ false
    go true q = absurd (d (sym e ∙ is_for-id j r q))
    go false q = q

pub is_for-free : (j : TransactionId) (r : Transaction) → is_free r.state ≡ true → is_for j r ≡ false
is_for-free j r f = rw f

-- what is found has the id, and is in use
found_at : (i : TransactionId) (x : Transaction) (l : Option Transaction) (r : Transaction) → (l ≡ some r → is_for i r ≡ true) → (b : Bool) → is_for i x ≡ b → cond b (some x) l ≡ some r → is_for i r ≡ true
found_at i x l r ih true q p = rw (← some_some p) q
found_at i x l r ih false q p = ih p

pub found : (rs : List Transaction) (i : TransactionId) (r : Transaction) → lookup rs i ≡ some r → is_for i r ≡ true
unfolding lookup
found [] i r e = none_some e
found (x ∷ rs) i r e = found_at i x (lookup rs i) r (λ p. found rs i r p) (is_for i x) refl e

found-place-at : (i : TransactionId) (x : Transaction) (rs : List Transaction) (r : Transaction) → (lookup rs i ≡ some r → (p : ℕ) × (get_elem? rs p ≡ some r)) → (b : Bool) → cond b (some x) (lookup rs i) ≡ some r → (p : ℕ) × (get_elem? (x ∷ rs) p ≡ some r)
found-place-at i x rs r ih true e = (zero, e)
found-place-at i x rs r ih false e = let g : (p : ℕ) × (get_elem? rs p ≡ some r) = ih e in (suc g.0, g.1)

-- what is found stands in the table
pub found-place : (rs : List Transaction) (i : TransactionId) (r : Transaction) → lookup rs i ≡ some r → (p : ℕ) × (get_elem? rs p ≡ some r)
unfolding lookup
found-place [] i r e = none_some e
found-place (x ∷ rs) i r e = found-place-at i x rs r (λ q. found-place rs i r q) (is_for i x) e

-- a transaction in use that stands in the table is found, where no id stands twice
lookup-at : (i : TransactionId) (x : Transaction) (rs : List Transaction) (r : Transaction) → is_for i r ≡ true → (is_free x.state ≡ false → lookup rs x.id ≡ none) → lookup rs i ≡ some r → (b : Bool) → is_for i x ≡ b → cond b (some x) (lookup rs i) ≡ some r
lookup-at i x rs r f u e true q = none_some (sym (u (is_for_live i x q)) ∙ ap (lookup rs) (is_for-id i x q) ∙ e)
lookup-at i x rs r f u e false q = e

pub place_found : (rs : List Transaction) (i : TransactionId) (p : ℕ) (r : Transaction) → Unique rs → is_for i r ≡ true → get_elem? rs p ≡ some r → lookup rs i ≡ some r
unfolding lookup
place_found [] i p r u f e = none_some e
place_found (x ∷ rs) i zero r u f e = rw (some_some e, f)
place_found (x ∷ rs) i (suc p) r u f e = lookup-at i x rs r f u.0 (place_found rs i p r u.1 f e) (is_for i x) refl

-- replaced: another id
other_at : (i j : TransactionId) (x r : Transaction) (rs : List Transaction) → is_for j x ≡ false → (i ≡ j → ⊥) → lookup (replace rs i x) j ≡ lookup rs j → (b : Bool) → is_for i r ≡ b → lookup (cond b (x ∷ rs) (r ∷ replace rs i x)) j ≡ lookup (r ∷ rs) j
unfolding lookup
other_at i j x r rs f d ih true q = rw (f, is_for_other i j r (is_for-id i r q) d)
other_at i j x r rs f d ih false q = rw ih

pub replace_other : (rs : List Transaction) (i j : TransactionId) (x : Transaction) → is_for j x ≡ false → (i ≡ j → ⊥) → lookup (replace rs i x) j ≡ lookup rs j
unfolding lookup replace
replace_other [] i j x f d = refl
replace_other (r ∷ rs) i j x f d = other_at i j x r rs f d (replace_other rs i j x f d) (is_for i r) refl

-- replaced: the same id
same_at :
    (i : TransactionId) (x r : Transaction) (rs : List Transaction) (y : Transaction) → is_for i x ≡ true →
    (lookup rs i ≡ some y → lookup (replace rs i x) i ≡ some x) → (b : Bool) → is_for i r ≡ b → cond b (some r) (lookup rs i) ≡ some y →
    lookup (cond b (x ∷ rs) (r ∷ replace rs i x)) i ≡ some x
unfolding lookup
same_at i x r rs y f ih true q p = rw f
same_at i x r rs y f ih false q p = rw q (ih p)

pub replace-same : (rs : List Transaction) (i : TransactionId) (x y : Transaction) → is_for i x ≡ true → lookup rs i ≡ some y → lookup (replace rs i x) i ≡ some x
unfolding lookup replace
replace-same [] i x y f e = none_some e
replace-same (r ∷ rs) i x y f e = same_at i x r rs y f (λ p. replace-same rs i x y f p) (is_for i r) refl e

-- freed: the id is in the table no more
gone_at :
    (i : TransactionId) (x r : Transaction) (rs : List Transaction) → is_for i x ≡ false →
    (is_free r.state ≡ false → lookup rs r.id ≡ none) → lookup (replace rs i x) i ≡ none → (b : Bool) → is_for i r ≡ b →
    lookup (cond b (x ∷ rs) (r ∷ replace rs i x)) i ≡ none
unfolding lookup
gone_at i x r rs f u ih true q = rw (f, ← is_for-id i r q) (u (is_for_live i r q))
gone_at i x r rs f u ih false q = rw q ih

pub replace_gone : (rs : List Transaction) (i : TransactionId) (x : Transaction) → is_for i x ≡ false → Unique rs → lookup (replace rs i x) i ≡ none
unfolding lookup replace
replace_gone [] i x f u = refl
replace_gone (r ∷ rs) i x f u = gone_at i x r rs f u.0 (replace_gone rs i x f u.1) (is_for i r) refl

-- put: the id, and another
put_other_at : (j : TransactionId) (x r : Transaction) (rs : List Transaction) → is_for j x ≡ false → lookup (put rs x) j ≡ lookup rs j → (b : Bool) → is_free r.state ≡ b → lookup (cond b (x ∷ rs) (r ∷ put rs x)) j ≡ lookup (r ∷ rs) j
unfolding lookup
put_other_at j x r rs f ih true q = rw (f, is_for-free j r q)
put_other_at j x r rs f ih false q = rw ih

pub put_other : (rs : List Transaction) (j : TransactionId) (x : Transaction) → is_for j x ≡ false → lookup (put rs x) j ≡ lookup rs j
unfolding lookup put
put_other [] j x f = refl
put_other (r ∷ rs) j x f = put_other_at j x r rs f (put_other rs j x f) (is_free r.state) refl

put-same-at :
    (i : TransactionId) (x r : Transaction) (rs : List Transaction) → is_for i x ≡ true →
    (lookup rs i ≡ none → has_free_slot rs ≡ true → lookup (put rs x) i ≡ some x) → (b : Bool) → is_free r.state ≡ b → (c : Bool) →
    is_for i r ≡ c → cond c (some r) (lookup rs i) ≡ none → cond b true (has_free_slot rs) ≡ true →
    lookup (cond b (x ∷ rs) (r ∷ put rs x)) i ≡ some x
unfolding lookup
put-same-at i x r rs f ih true q c g n h = rw f
put-same-at i x r rs f ih false q true g n h = none_some (sym n)
put-same-at i x r rs f ih false q false g n h = rw g (ih n h)

pub put_same : (rs : List Transaction) (i : TransactionId) (x : Transaction) → is_for i x ≡ true → lookup rs i ≡ none → has_free_slot rs ≡ true → lookup (put rs x) i ≡ some x
unfolding lookup put has_free_slot
put_same [] i x f n h = true_false (sym h)
put_same (r ∷ rs) i x f n h = put-same-at i x r rs f (λ p q. put_same rs i x f p q) (is_free r.state) refl (is_for i r) refl n h

-- no id stands twice afterwards either
decided : (i : TransactionId) (r : Transaction) (rs : List Transaction) → (b : Bool) → is_for i r ≡ b → lookup (r ∷ rs) i ≡ none → lookup rs i ≡ none
unfolding lookup
decided i r rs true q e = none_some (sym (rw q at e))
decided i r rs false q e = rw q at e

pub none_tail : (i : TransactionId) (r : Transaction) (rs : List Transaction) → lookup (r ∷ rs) i ≡ none → lookup rs i ≡ none
none_tail i r rs e = decided i r rs (is_for i r) refl e

-- the new transaction is free, or has the id
abbrev Keeps : TransactionId → Transaction → Type 0
Keeps i x = is_free x.state ≡ false → x.id ≡ i

is_for_not : (i j : TransactionId) (x : Transaction) → Keeps i x → (i ≡ j → ⊥) → is_for j x ≡ false
is_for_not i j x k d = go (is_for j x) refl
  where
    go : (b : Bool) → is_for j x ≡ b → is_for j x ≡ false
    go true q = absurd (d (sym (k (is_for_live j x q)) ∙ is_for-id j x q))
    go false q = q

unique_replace_at : (i : TransactionId) (x r : Transaction) (rs : List Transaction) → Keeps i x → (is_free r.state ≡ false → lookup rs r.id ≡ none) → Unique rs → Unique (replace rs i x) → (b : Bool) → is_for i r ≡ b → Unique (cond b (x ∷ rs) (r ∷ replace rs i x))
unique_replace_at i x r rs k u v ih true q = (λ f. rw (k f ∙ sym (is_for-id i r q)) (u (is_for_live i r q)), v)
unique_replace_at i x r rs k u v ih false q = (
  λ f.
      let d : i ≡ r.id → ⊥ = λ e. true_false (sym (is_for_make i r f (sym e)) ∙ q) in
      replace_other rs i r.id x (is_for_not i r.id x k d) d ∙ u f,
  ih,
)

pub unique_replace : (rs : List Transaction) (i : TransactionId) (x : Transaction) → Keeps i x → Unique rs → Unique (replace rs i x)
unfolding replace
unique_replace [] i x k u = tt
unique_replace (r ∷ rs) i x k u = unique_replace_at i x r rs k u.0 u.1 (unique_replace rs i x k u.1) (is_for i r) refl

clash : (i : TransactionId) (r : Transaction) (rs : List Transaction) → is_for i r ≡ true → lookup (r ∷ rs) i ≡ none → ⊥
unfolding lookup
clash i r rs q e = none_some (sym (rw q at e))

unique_put_at : (x r : Transaction) (rs : List Transaction) → lookup (r ∷ rs) x.id ≡ none → (is_free r.state ≡ false → lookup rs r.id ≡ none) → Unique rs → Unique (put rs x) → (b : Bool) → is_free r.state ≡ b → Unique (cond b (x ∷ rs) (r ∷ put rs x))
unique_put_at x r rs n u v ih true q = (λ f. none_tail x.id r rs n, v)
unique_put_at x r rs n u v ih false q = (
  λ f.
      let d : x.id ≡ r.id → ⊥ = λ e. clash x.id r rs (is_for_make x.id r f (sym e)) n in
      put_other rs r.id x (is_for_other x.id r.id x refl d) ∙ u f,
  ih,
)

pub unique_put : (rs : List Transaction) (x : Transaction) → lookup rs x.id ≡ none → Unique rs → Unique (put rs x)
unfolding put
unique_put [] x n u = tt
unique_put (r ∷ rs) x n u = unique_put_at x r rs n u.0 u.1 (unique_put rs x (none_tail x.id r rs n) u.1) (is_free r.state) refl

-- the empty table
unique_free : (n : ℕ) → Unique (replicate n free_transaction)
unique_free zero = tt
unique_free (suc n) = (λ f. true_false f, unique_free n)

lookup-free : (n : ℕ) (i : TransactionId) → lookup (replicate n free_transaction) i ≡ none
unfolding lookup
lookup-free zero i = refl
lookup-free (suc n) i = lookup-free n i

pub unique_empty : Unique empty_table.transactions
unfolding empty_table
unique_empty = unique_free capacity

pub lookup-empty : (i : TransactionId) → lookup empty_table.transactions i ≡ none
unfolding empty_table
lookup-empty i = lookup-free capacity i

-- ## What the statement calls the registrar's transaction, and what is looked up

pub holds-found : (b : TransactionTable) (i : TransactionId) (r : Transaction) → Unique b.transactions → RegistrarHolds b i r → lookup b.transactions i ≡ some r
holds-found b i r u h = place_found b.transactions i h.0 r u (is_for_make i r (in_use_lem r.state h.2) h.3) h.1

pub found-holds : (b : TransactionTable) (i : TransactionId) (r : Transaction) → lookup b.transactions i ≡ some r → RegistrarHolds b i r
found-holds b i r e =
    let g : (p : ℕ) × (get_elem? b.transactions p ≡ some r) = found-place b.transactions i r e in
    let f : is_for i r ≡ true = found b.transactions i r e in
    (g.0, g.1, λ q. true_false (sym (ap is_free q) ∙ is_for_live i r f), is_for-id i r f)
