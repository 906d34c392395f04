-- The host's steps by the slot, as the code has them: no slot, a state that does not allow it, and done.
use Prim.Native.Nat.{ℕ}
use mathlib.Core.List.{List}
use mathlib.Core.Bool.{Bool, true}
use mathlib.Core.Option.{Option, some}
use mathlib.Core.Path.{◌≡◌}
use lib.ListN.{set}
use Rattle.protocol.specs.declared.TransactionId.{TransactionId}
use Rattle.protocol.specs.declared.FreshNonce.{FreshNonce}
use Rattle.protocol.specs.declared.Hash.{Hash}
use Rattle.protocol.specs.declared.Transaction.{Transaction}
use Rattle.protocol.specs.declared.TransactionTable.{TransactionTable}
use Rattle.protocol.specs.declared.RegistrarAnswer.{RegistrarAnswer}
use Rattle.protocol.specs.declared.TransactionState.{TransactionState}
use Rattle.protocol.specs.Bytes.{nonce_from}
use Rattle.protocol.specs.Table.{slot_of}
use Rattle.protocol.specs.Registrar.{host_step, done_quietly, responded, respond, replaced}
use Rattle.registrar.specs.Steps.{response_answer}
use Rattle.registrar.proofs.SlotLaws.{slot-set}

module _ (t : TransactionTable) (i : TransactionId) where
  abbrev rs : List Transaction
  rs = t.transactions

  abbrev p : ℕ
  p = slot_of rs i

  -- what is done at the slot is done for the id
  pub quietly : {x y : Transaction} → x ≡ y → done_quietly p (set rs p x) ≡ replaced t i y
  quietly {x} e = rw (← e, slot-set rs i x)

  pub sending : (r : Transaction) (s : TransactionState) (status : ℕ) (n : FreshNonce) (h : Hash) → response_answer t p r i s status n h ≡ respond t i r s status n h
  sending r s status n h = rw (slot-set rs i (responded r s (nonce_from n) h))

-- the end of a step that is allowed
pub allowed : (t : TransactionTable) (f : Option Transaction) (ok : Transaction → Bool) (g : Transaction → RegistrarAnswer) {r : Transaction} {b : Bool} → f ≡ some r → b ≡ ok r → b ≡ true → g r ≡ host_step f t ok g
allowed t f ok g e o y = rw (e, ← o, y)
