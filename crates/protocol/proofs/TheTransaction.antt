-- What is looked up in a table that calls reach is the one transaction in use with the id; and two complete answers are one.
use Prim.Native.Nat.{ℕ, suc}
use mathlib.Core.List.{List, [], ◌∷◌}
use mathlib.Core.Option.{Option, none, some}
use mathlib.Core.Path.{◌≡◌, refl, sym, ◌∙◌, subst}
use native.Mathlib.Decide.{ℕ_discrete}
use native.Mathlib.Omega.{arith}
use lib.ListN.{get_elem?, replicate}
use Rattle.protocol.specs.declared.Board.{Board}
use Rattle.protocol.specs.declared.Nonce.{Nonce}
use Rattle.protocol.specs.declared.RegistrarInput.{RegistrarInput}
use Rattle.protocol.specs.declared.TransactionId.{TransactionId}
use Rattle.protocol.specs.declared.Transaction.{Transaction}
use Rattle.protocol.specs.declared.TransactionTable.{TransactionTable}
use Rattle.protocol.specs.declared.RegistrarAnswer.{RegistrarAnswer}
use Rattle.protocol.specs.declared.TransactionState.TheVariants.{Asked}
use Rattle.protocol.specs.Table.{lookup, slot_of}
use Rattle.protocol.specs.Run.{Call, run}
use Rattle.protocol.specs.Promises.{AtMostOne}
use Rattle.protocol.specs.Slots.{HoldsAt, OnlyAt, Becomes}
use Rattle.protocol.specs.TheTransaction.{NotHeld, TheTransaction}
use Rattle.protocol.specs.Confirmation.{RepeatedAnswer}
use Rattle.protocol.specs.Request.{Opened}
use Rattle.protocol.proofs.Tests.{none_some, some_some}
use Rattle.protocol.proofs.RegistrarStates.{in_use_lem}
use Rattle.protocol.proofs.Lookup.{is_for_make, place_found}
use Rattle.protocol.proofs.Changes.{one_unique}
use Rattle.protocol.proofs.Slots.{held_at}
use Rattle.protocol.proofs.Reachable.{reachable}

module _ (t : TransactionTable) (one : AtMostOne t) (i : TransactionId) where
  pub same-slot : (p q : ℕ) (r s : Transaction) → HoldsAt t p i r → HoldsAt t q i s → p ≡ q
  same-slot p q r s a b = one p q r s a.holds b.holds a.in_use b.in_use (a.id ∙ sym b.id)

  holds_looked : (p : ℕ) (r : Transaction) → HoldsAt t p i r → lookup t.transactions i ≡ some r
  holds_looked p r h = place_found t.transactions i p r (one_unique t.transactions one) (is_for_make i r (in_use_lem r.state h.in_use) h.id) h.holds

  absent-at : NotHeld t i → (f : Option Transaction) → lookup t.transactions i ≡ f → lookup t.transactions i ≡ none
  absent-at n none e = e
  absent-at n (some r) e = absurd (n (slot_of t.transactions i) r (held_at t i r e))

  pub one_transaction : TheTransaction t i
  one_transaction =
      record {
        found = λ r e. (slot_of t.transactions i, held_at t i r e, λ q s h. same-slot q (slot_of t.transactions i) s r h (held_at t i r e));
        held = λ r h. holds_looked h.0 r h.1;
        missing = λ e p r h. none_some (sym e ∙ holds_looked p r h);
        absent = λ n. absent-at n (lookup t.transactions i) refl;
      }

-- in every table that calls reach, with no premise
pub the_transaction : (calls : List Call) (i : TransactionId) → TheTransaction (run calls).table i
the_transaction calls i = one_transaction (run calls).table (reachable calls).one i

-- ## The answer is complete: what is said of it leaves no other

same_list : (xs ys : List Transaction) → ((q : ℕ) → get_elem? xs q ≡ get_elem? ys q) → xs ≡ ys
same_list [] [] h = refl
same_list [] (y ∷ ys) h = none_some (h 0)
same_list (x ∷ xs) [] h = none_some (sym (h 0))
same_list (x ∷ xs) (y ∷ ys) h =
    let e : x ≡ y = some_some (h 0) in
    let t : xs ≡ ys = same_list xs ys (λ q. h (suc q)) in
    cc

module _ (t : TransactionTable) (p : ℕ) (x : Transaction) (u v : TransactionTable) (a : OnlyAt t p x u) (b : OnlyAt t p x v) where
  same_at : (q : ℕ) → Dec (q ≡ p) → get_elem? u.transactions q ≡ get_elem? v.transactions q
  same_at q (yes e) = rw e (a.holds ∙ sym b.holds)
  same_at q (no d) = a.others q d ∙ sym (b.others q d)

  same-table : u.transactions ≡ v.transactions
  same-table = same_list u.transactions v.transactions (λ q. same_at q (ℕ_discrete q p))

-- two answers of which the same is said are the same, whatever the table
pub one_answer : (t : TransactionTable) (i : TransactionId) (r x : Transaction) (a b : RegistrarAnswer) → Becomes t i r x a → Becomes t i r x b → a.outgoing ≡ b.outgoing → a ≡ b
one_answer t i r x a b g h o =
    let m = g.held.first b.slot.0 r h.held.holds in
    let n = h.held.first a.slot.0 r g.held.holds in
    let p : a.slot.0 ≡ b.slot.0 = omega (arith, m, n) in
    let u : a.table.transactions ≡ b.table.transactions = same-table t a.slot.0 x a.table b.table g.only (subst (λ (q : ℕ). OnlyAt t q x b.table) (sym p) h.only) in
    λ j. record { outcome = (g.done ∙ sym h.done) j; fault = (g.fault ∙ sym h.fault) j; slot = record { 0 = p j }; outgoing = o j; table = record { transactions = u j } }

-- the same of "again"
pub one-repeat : (t : TransactionTable) (d : RegistrarInput) (r : Transaction) (i : TransactionId) (n : Nonce) (a b : RegistrarAnswer) → RepeatedAnswer t d r i n a → RepeatedAnswer t d r i n b → a ≡ b
one-repeat t d r i n a b g h =
    let u = g.held.first b.slot.0 r h.held.holds in
    let v = h.held.first a.slot.0 r g.held.holds in
    let p : a.slot.0 ≡ b.slot.0 = omega (arith, u, v) in
    λ j. record { outcome = (g.again ∙ sym h.again) j; fault = (g.fault ∙ sym h.fault) j; slot = record { 0 = p j }; outgoing = (g.sends ∙ sym h.sends) j; table = (g.table ∙ sym h.table) j }

-- and of an opening
pub one_opening : (t : TransactionTable) (kind : ℕ) (c : Board) (i : TransactionId) (n : Nonce) (a b : RegistrarAnswer) → Opened t kind c i n a → Opened t kind c i n b → a ≡ b
one_opening t kind c i n a b g h =
    let u = g.lowest b.slot.0 h.was_free.0 h.was_free.1 h.was_free.2 in
    let v = h.lowest a.slot.0 g.was_free.0 g.was_free.1 g.was_free.2 in
    let p : a.slot.0 ≡ b.slot.0 = omega (arith, u, v) in
    let x : Transaction = record { id = i; board = c; kind = kind; taken = n; sent = record { bytes = replicate 16 0 }; hash = record { bytes = replicate 32 0 }; state = Asked } in
    let s : a.table.transactions ≡ b.table.transactions = same-table t a.slot.0 x a.table b.table g.asked (subst (λ (q : ℕ). OnlyAt t q x b.table) (sym p) h.asked) in
    λ j. record { outcome = (g.done ∙ sym h.done) j; fault = (g.fault ∙ sym h.fault) j; slot = record { 0 = p j }; outgoing = (g.silently ∙ sym h.silently) j; table = record { transactions = s j } }
