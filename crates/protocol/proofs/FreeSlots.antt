-- The lowest free slot: where a request's transaction is put.
use Prim.Native.Nat.{ℕ, zero, suc, ◌≤◌}
use mathlib.Core.List.{List, [], ◌∷◌}
use mathlib.Core.Bool.{Bool, true, false, cond}
use mathlib.Core.Option.{some}
use mathlib.Core.Path.{◌≡◌, refl, sym}
use native.Mathlib.Omega.{arith}
use lib.ListN.{get_elem?}
use Rattle.protocol.specs.declared.Transaction.{Transaction}
use Rattle.protocol.specs.declared.TransactionState.TheVariants as at_registrar
use Rattle.protocol.specs.Table.{has_free_slot, is_free, put, free_slot}
use Rattle.protocol.proofs.Tests.{true_false, none_some, some_some}
use Rattle.protocol.proofs.RegistrarStates.{is_free_lem}

room_at :
    (r : Transaction) (rs : List Transaction) →
    (has_free_slot rs ≡ true → (p : ℕ) × (x : Transaction) × (get_elem? rs p ≡ some x) × (x.state ≡ at_registrar.Free)) → (b : Bool) →
    is_free r.state ≡ b → cond b true (has_free_slot rs) ≡ true →
    (p : ℕ) × (x : Transaction) × (get_elem? (r ∷ rs) p ≡ some x) × (x.state ≡ at_registrar.Free)
room_at r rs ih true q e = (0, r, refl, is_free_lem r.state q)
room_at r rs ih false q e = let g : (p : ℕ) × (x : Transaction) × (get_elem? rs p ≡ some x) × (x.state ≡ at_registrar.Free) = ih e in (suc g.0, g.1, g.2, g.3)

-- where there is room, some slot is free
pub room-free : (rs : List Transaction) → has_free_slot rs ≡ true → (p : ℕ) × (x : Transaction) × (get_elem? rs p ≡ some x) × (x.state ≡ at_registrar.Free)
unfolding has_free_slot
room-free [] e = true_false (sym e)
room-free (r ∷ rs) e = room_at r rs (λ q. room-free rs q) (is_free r.state) refl e

free-room-at : (r : Transaction) (rs : List Transaction) → has_free_slot rs ≡ true → (b : Bool) → cond b true (has_free_slot rs) ≡ true
free-room-at r rs h true = refl
free-room-at r rs h false = h

pub free-room : (rs : List Transaction) (p : ℕ) (x : Transaction) → get_elem? rs p ≡ some x → x.state ≡ at_registrar.Free → has_free_slot rs ≡ true
unfolding has_free_slot
free-room [] p x e f = none_some e
free-room (r ∷ rs) zero x e f = rw (some_some e, f)
free-room (r ∷ rs) (suc p) x e f = free-room-at r rs (free-room rs p x e f) (is_free r.state)

put-at : (x r : Transaction) (rs : List Transaction) → (has_free_slot rs ≡ true → get_elem? (put rs x) (free_slot rs) ≡ some x) → (b : Bool) → cond b true (has_free_slot rs) ≡ true → get_elem? (cond b (x ∷ rs) (r ∷ put rs x)) (cond b 0 (suc (free_slot rs))) ≡ some x
put-at x r rs ih true h = refl
put-at x r rs ih false h = ih h

pub put_there : (rs : List Transaction) (x : Transaction) → has_free_slot rs ≡ true → get_elem? (put rs x) (free_slot rs) ≡ some x
unfolding has_free_slot put free_slot
put_there [] x h = true_false (sym h)
put_there (r ∷ rs) x h = put-at x r rs (λ q. put_there rs x q) (is_free r.state) h

was_free_at :
    (r : Transaction) (rs : List Transaction) →
    (has_free_slot rs ≡ true → (x : Transaction) × (get_elem? rs (free_slot rs) ≡ some x) × (x.state ≡ at_registrar.Free)) → (b : Bool) →
    is_free r.state ≡ b → cond b true (has_free_slot rs) ≡ true →
    (x : Transaction) × (get_elem? (r ∷ rs) (cond b 0 (suc (free_slot rs))) ≡ some x) × (x.state ≡ at_registrar.Free)
was_free_at r rs ih true q h = (r, refl, is_free_lem r.state q)
was_free_at r rs ih false q h = ih h

-- where there is room, the lowest free slot is one of the table, and free
pub was_free_lem : (rs : List Transaction) → has_free_slot rs ≡ true → (x : Transaction) × (get_elem? rs (free_slot rs) ≡ some x) × (x.state ≡ at_registrar.Free)
unfolding has_free_slot free_slot
was_free_lem [] h = true_false (sym h)
was_free_lem (r ∷ rs) h = was_free_at r rs (λ q. was_free_lem rs q) (is_free r.state) refl h

lowest-at : (r : Transaction) (rs : List Transaction) (p : ℕ) → free_slot rs ≤ p → (b : Bool) → cond b 0 (suc (free_slot rs)) ≤ suc p
lowest-at r rs p h true = omega arith
lowest-at r rs p h false = omega arith

pub lowest-free : (rs : List Transaction) (p : ℕ) (x : Transaction) → get_elem? rs p ≡ some x → x.state ≡ at_registrar.Free → free_slot rs ≤ p
unfolding free_slot
lowest-free [] p x e f = none_some e
lowest-free (r ∷ rs) zero x e f = rw (some_some e, f) (omega arith)
lowest-free (r ∷ rs) (suc p) x e f = lowest-at r rs p (lowest-free rs p x e f) (is_free r.state)
