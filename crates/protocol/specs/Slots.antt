-- Where a transaction stands, what an answer changes (one slot of the table, and no other), and what it sends.
use Rattle.std.specs.Prelude.{ℕ, ◌≤◌, true, false, ◌≡◌, ◌≢◌, length, replicate, None, Some}
use Rattle.std.proofs.Math.Option.{some}
use Rattle.std.proofs.Math.ListN.{get_elem?}
use Rattle.protocol.specs.declared.TransactionId.{TransactionId}
use Rattle.protocol.specs.declared.Nonce.{Nonce}
use Rattle.protocol.specs.declared.FreshNonce.{FreshNonce}
use Rattle.protocol.specs.declared.Transaction.{Transaction}
use Rattle.protocol.specs.declared.TransactionTable.{TransactionTable}
use Rattle.protocol.specs.declared.OutgoingContents.{OutgoingContents}
use Rattle.protocol.specs.declared.Outgoing.{Outgoing}
use Rattle.protocol.specs.declared.RegistrarAnswer.{RegistrarAnswer}
use Rattle.protocol.specs.declared.Outcome.TheVariants as outcome
use Rattle.protocol.specs.declared.TransactionState.TheVariants.{Free}
use Rattle.protocol.specs.Refusals.{no_fault}
use Rattle.protocol.specs.Outgoing.{silent}

-- the slot p holds r, in use, with the id
pub record HoldsAt (t : TransactionTable) (p : ℕ) (i : TransactionId) (r : Transaction) : Type 0 where
  pub holds : get_elem? t.transactions p ≡ some r
  pub in_use : r.state ≢ Free
  pub id : r.id ≡ i

-- it is the first such slot
pub record FirstAt (t : TransactionTable) (p : ℕ) (i : TransactionId) (r : Transaction) : Type 0 where
  pub holds : HoldsAt t p i r
  pub first : (q : ℕ) (s : Transaction) → HoldsAt t q i s → p ≤ q

-- from t to u: the slot p holds x now, every other slot what it held, and no slot is lost or added
pub record OnlyAt (t : TransactionTable) (p : ℕ) (x : Transaction) (u : TransactionTable) : Type 0 where
  pub holds : get_elem? u.transactions p ≡ some x
  pub others : (q : ℕ) → q ≢ p → get_elem? u.transactions q ≡ get_elem? t.transactions q
  pub slots : length u.transactions ≡ length t.transactions

-- done: the answer's slot held the transaction r with the id, and holds x now
pub record Becomes (t : TransactionTable) (i : TransactionId) (r x : Transaction) (a : RegistrarAnswer) : Type 0 where
  pub done : a.outcome ≡ outcome.Done
  pub fault : a.fault ≡ no_fault
  pub held : FirstAt t a.slot.0 i r
  pub only : OnlyAt t a.slot.0 x a.table

-- the 16 bytes that the host drew, as a nonce that is sent and kept
abbrev pub ours : FreshNonce → Nonce
ours n = record { bytes = n.bytes }

-- a message that carries no status, no hash, no bit and no request number
abbrev pub bare : OutgoingContents
bare = record { has_status = false; status = 0; hash = record { bytes = replicate 32 0 }; failure = None; has_number = false; number = 0 }

-- this is sent
abbrev pub Sends : Outgoing → RegistrarAnswer → Type 0
Sends o a = a.outgoing ≡ Some o

-- nothing is sent
abbrev pub SendsNothing : RegistrarAnswer → Type 0
SendsNothing a = a.outgoing ≡ None
