-- "The record" of an id: what is looked up in the table is the one transaction in use with the id.
use Rattle.std.specs.Prelude.{ℕ, ◌≡◌}
use Rattle.std.proofs.Math.Option.{none, some}
use Rattle.protocol.specs.declared.TransactionId.{TransactionId}
use Rattle.protocol.specs.declared.Transaction.{Transaction}
use Rattle.protocol.specs.declared.TransactionTable.{TransactionTable}
use Rattle.protocol.specs.Table.{lookup}
use Rattle.protocol.specs.Slots.{HoldsAt}

-- r is the one: a slot holds it, in use with the id, and no other slot holds one
abbrev pub TheOne : TransactionTable → TransactionId → Transaction → Type 0
TheOne t i r = (p : ℕ) × HoldsAt t p i r × ((q : ℕ) (s : Transaction) → HoldsAt t q i s → q ≡ p)

-- no slot holds one
abbrev pub NotHeld : TransactionTable → TransactionId → Type 0
NotHeld t i = (p : ℕ) (r : Transaction) → HoldsAt t p i r → ⊥

-- "exactly when", for both answers of a lookup
pub record TheTransaction (t : TransactionTable) (i : TransactionId) : Type 0 where
  pub found : (r : Transaction) → lookup t.transactions i ≡ some r → TheOne t i r
  pub held : (r : Transaction) → TheOne t i r → lookup t.transactions i ≡ some r
  pub missing : lookup t.transactions i ≡ none → NotHeld t i
  pub absent : NotHeld t i → lookup t.transactions i ≡ none
