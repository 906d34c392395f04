-- The table by slots, as the code has it: what an id names stands in its slot, and is stored there; so with the lowest free slot.
use Prim.Native.Nat.{ℕ, suc, ◌+◌, ◌<◌, ◌≤◌}
use mathlib.Core.List.{List, [], ◌∷◌}
use mathlib.Core.Bool.{Bool, true, false, cond, not, true≢false}
use mathlib.Core.Option.{none, some}
use mathlib.Core.Path.{◌≡◌, refl, ap}
use native.Mathlib.Omega.{arith}
use native.Mathlib.Nat.{le_of_suc-le-suc}
use lib.ListN.{length, get_or, set}
use Rattle.std.specs.Prelude.{Some, None}
use Rattle.std.specs.Prelude as code
use Rattle.std.specs.List.{position_or_len}
use lib.Dec.{ltb}
use borrow.Author.Tests.{ltb-true, ltb-false}
use Rattle.protocol.specs.declared.TransactionId.{TransactionId}
use Rattle.protocol.specs.declared.Transaction.{Transaction}
use Rattle.protocol.specs.Table.{is_free, is_for, lookup, slot_of, replace, has_free_slot, free_slot, put}
use Rattle.registrar.specs.Steps.{found_in, place_in}

-- ## The slot that an id names

-- std's `position` counts as the definitions do
place_at : (b : Bool) {m n : ℕ} → m ≡ n → cond (not b) (1 + m) 0 ≡ cond b 0 (suc n)
place_at true e = refl
place_at false e = omega arith

slot_of-is : (rs : List Transaction) (i : TransactionId) → position_or_len (is_for i) rs ≡ slot_of rs i
unfolding slot_of
slot_of-is [] i = refl
slot_of-is (r ∷ rs) i = place_at (is_for i r) (slot_of-is rs i)

some_at : (i : TransactionId) (r : Transaction) (rs : List Transaction) (d : Transaction) → (slot_of rs i < length rs → lookup rs i ≡ some (get_or rs (slot_of rs i) d)) → (b : Bool) → cond b 0 (suc (slot_of rs i)) < suc (length rs) → cond b (some r) (lookup rs i) ≡ some (get_or (r ∷ rs) (cond b 0 (suc (slot_of rs i))) d)
some_at i r rs d ih true p = refl
some_at i r rs d ih false p = ih (le_of_suc-le-suc p)

pub slot_some : (rs : List Transaction) (i : TransactionId) (d : Transaction) → slot_of rs i < length rs → lookup rs i ≡ some (get_or rs (slot_of rs i) d)
unfolding slot_of lookup
slot_some [] i d p = absurd (omega arith)
slot_some (r ∷ rs) i d p = some_at i r rs d (λ q. slot_some rs i d q) (is_for i r) p

none-at : (i : TransactionId) (r : Transaction) (rs : List Transaction) → (length rs ≤ slot_of rs i → lookup rs i ≡ none) → (b : Bool) → suc (length rs) ≤ cond b 0 (suc (slot_of rs i)) → cond b (some r) (lookup rs i) ≡ none
none-at i r rs ih true p = absurd (omega arith)
none-at i r rs ih false p = ih (le_of_suc-le-suc p)

pub slot-none : (rs : List Transaction) (i : TransactionId) → length rs ≤ slot_of rs i → lookup rs i ≡ none
unfolding slot_of lookup
slot-none [] i p = refl
slot-none (r ∷ rs) i p = none-at i r rs (λ q. slot-none rs i q) (is_for i r) p

replace-at : (r x : Transaction) (rs qs : List Transaction) (n : ℕ) → set rs n x ≡ qs → (b : Bool) → set (r ∷ rs) (cond b 0 (suc n)) x ≡ cond b (x ∷ rs) (r ∷ qs)
replace-at r x rs qs n ih true = refl
replace-at r x rs qs n ih false = ap (λ (l : List Transaction). r ∷ l) ih

pub slot-set : (rs : List Transaction) (i : TransactionId) (x : Transaction) → set rs (slot_of rs i) x ≡ replace rs i x
unfolding slot_of replace
slot-set [] i x = refl
slot-set (r ∷ rs) i x = replace-at r x rs (replace rs i x) (slot_of rs i) (slot-set rs i x) (is_for i r)

-- ## The lowest free slot

free_slot-is : (rs : List Transaction) → position_or_len (λ (t : Transaction). is_free t.state) rs ≡ free_slot rs
unfolding free_slot
free_slot-is [] = refl
free_slot-is (r ∷ rs) = place_at (is_free r.state) (free_slot-is rs)

pub free-set : (rs : List Transaction) (x : Transaction) → set rs (free_slot rs) x ≡ put rs x
unfolding free_slot put
free-set [] x = refl
free-set (r ∷ rs) x = replace-at r x rs (put rs x) (free_slot rs) (free-set rs x) (is_free r.state)

yes-at : (h : Bool) (n m : ℕ) → (n < m → h ≡ true) → (b : Bool) → cond b 0 (suc n) < suc m → cond b true h ≡ true
yes-at h n m ih true p = refl
yes-at h n m ih false p = ih (le_of_suc-le-suc p)

pub room-yes : (rs : List Transaction) → free_slot rs < length rs → has_free_slot rs ≡ true
unfolding free_slot has_free_slot
room-yes [] p = absurd (omega arith)
room-yes (r ∷ rs) p = yes-at (has_free_slot rs) (free_slot rs) (length rs) (λ q. room-yes rs q) (is_free r.state) p

no_at : (h : Bool) (n m : ℕ) → (m ≤ n → h ≡ false) → (b : Bool) → suc m ≤ cond b 0 (suc n) → cond b true h ≡ false
no_at h n m ih true p = absurd (omega arith)
no_at h n m ih false p = ih (le_of_suc-le-suc p)

pub room_no : (rs : List Transaction) → length rs ≤ free_slot rs → has_free_slot rs ≡ false
unfolding free_slot has_free_slot
room_no [] p = refl
room_no (r ∷ rs) p = no_at (has_free_slot rs) (free_slot rs) (length rs) (λ q. room_no rs q) (is_free r.state) p

-- no slot is free: their number stands for the lowest, and nothing is stored
full_at : (b : Bool) {h : Bool} {n m : ℕ} {qs rs : List Transaction} (r x : Transaction) → (h ≡ false → (n ≡ m) × (qs ≡ rs)) → cond b true h ≡ false → (cond b 0 (suc n) ≡ suc m) × (cond b (x ∷ rs) (r ∷ qs) ≡ r ∷ rs)
full_at true r x ih e = absurd (true≢false e)
full_at false r x ih e = (ap suc (ih e).0, ap (λ (l : List Transaction). r ∷ l) (ih e).1)

pub full : (rs : List Transaction) (x : Transaction) → has_free_slot rs ≡ false → (free_slot rs ≡ length rs) × (put rs x ≡ rs)
unfolding free_slot has_free_slot put
full [] x e = (refl, refl)
full (r ∷ rs) x e = full_at (is_free r.state) r x (full rs x) e

-- ## What the code makes of a place that `position` gives, and of none

abbrev Position : (Transaction → Bool) → List Transaction → code.Option ℕ → Type 0
Position t rs o = o ≡ cond (ltb (position_or_len t rs) (length rs)) (Some (position_or_len t rs)) None

module _ (rs : List Transaction) (i : TransactionId) (o : code.Option ℕ) (e : Position (is_for i) rs o) where
  by-slot : o ≡ cond (ltb (slot_of rs i) (length rs)) (Some (slot_of rs i)) None
  by-slot = rw slot_of-is at e

  pub finds : (o ≡ None → None ≡ found_in (lookup rs i) (slot_of rs i)) × ((k : ℕ) (d : Transaction) → o ≡ Some k → Some (record { 0 = k }, get_or rs k d) ≡ found_in (lookup rs i) (slot_of rs i))
  finds = by (ltb (slot_of rs i) (length rs)) refl
    where
      by : (b : Bool) → ltb (slot_of rs i) (length rs) ≡ b → (o ≡ None → None ≡ found_in (lookup rs i) (slot_of rs i)) × ((k : ℕ) (d : Transaction) → o ≡ Some k → Some (record { 0 = k }, get_or rs k d) ≡ found_in (lookup rs i) (slot_of rs i))
      by true t =
          let q : o ≡ Some (slot_of rs i) = rw t at by-slot in
          (λ n. cc, λ k d s. let p : k ≡ slot_of rs i = cc in rw (p, slot_some rs i d (ltb-true (slot_of rs i) (length rs) t)))
      by false t =
          let q : o ≡ None = rw t at by-slot in
          (λ n. rw (slot-none rs i (ltb-false (slot_of rs i) (length rs) t)), λ k d s. cc)

module _ (rs : List Transaction) (o : code.Option ℕ) (e : Position (λ (t : Transaction). is_free t.state) rs o) where
  by-free : o ≡ cond (ltb (free_slot rs) (length rs)) (Some (free_slot rs)) None
  by-free = rw free_slot-is at e

  pub frees : (o ≡ None → None ≡ place_in (has_free_slot rs) (free_slot rs)) × ((k : ℕ) → o ≡ Some k → Some (record { 0 = k }) ≡ place_in (has_free_slot rs) (free_slot rs))
  frees = by (ltb (free_slot rs) (length rs)) refl
    where
      by : (b : Bool) → ltb (free_slot rs) (length rs) ≡ b → (o ≡ None → None ≡ place_in (has_free_slot rs) (free_slot rs)) × ((k : ℕ) → o ≡ Some k → Some (record { 0 = k }) ≡ place_in (has_free_slot rs) (free_slot rs))
      by true t =
          let q : o ≡ Some (free_slot rs) = rw t at by-free in
          (λ n. cc, λ k s. let p : k ≡ free_slot rs = cc in rw (p, room-yes rs (ltb-true (free_slot rs) (length rs) t)))
      by false t =
          let q : o ≡ None = rw t at by-free in
          (λ n. rw (room_no rs (ltb-false (free_slot rs) (length rs) t)), λ k s. cc)
