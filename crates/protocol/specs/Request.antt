-- A request (01's opening) opens a transaction exactly when ..., and where: the lowest free slot.
use Rattle.std.specs.Prelude.{ℕ, ◌≤◌, List, ◌≡◌, ◌⊎◌, ◌≢◌, replicate, Ok, Some}
use Rattle.std.proofs.Math.Option.{none, some}
use Rattle.std.proofs.Math.ListN.{get_elem?}
use Rattle.message.specs.Read.{reading_of}
use Rattle.grammar.specs.declared.Message.{Message}
use Rattle.protocol.specs.declared.Board.{Board}
use Rattle.protocol.specs.declared.TransactionId.{TransactionId}
use Rattle.protocol.specs.declared.Nonce.{Nonce}
use Rattle.protocol.specs.declared.RegistrarInput.{RegistrarInput}
use Rattle.protocol.specs.declared.Transaction.{Transaction}
use Rattle.protocol.specs.declared.TransactionTable.{TransactionTable}
use Rattle.protocol.specs.declared.RegistrarAnswer.{RegistrarAnswer}
use Rattle.protocol.specs.declared.Outcome.TheVariants as outcome
use Rattle.protocol.specs.declared.TransactionState.TheVariants.{Free, Asked}
use Rattle.protocol.specs.Refusals.{no_fault}
use Rattle.protocol.specs.Table.{lookup}
use Rattle.protocol.specs.Registrar.{registrar_message}
use Rattle.protocol.specs.Slots.{OnlyAt, SendsNothing}
use Rattle.protocol.specs.Confirmation.{Sixteen}

-- ir, cr, p10cr, kur
abbrev pub IsRequest : ℕ → Type 0
IsRequest k = (k ≡ 0) ⊎ (k ≡ 2) ⊎ (k ≡ 4) ⊎ (k ≡ 7)

-- the request m, in these bytes, of the board b, can be taken
pub record Opening (t : TransactionTable) (d : RegistrarInput) (bytes : List ℕ) (m : Message) (b : Board) : Type 0 where
  pub reads : reading_of bytes ≡ Ok m
  pub version : (m.header.version ≡ 2) ⊎ (m.header.version ≡ 3)
  pub id : TransactionId
  pub has_id : Sixteen bytes m.header.transaction_id id.bytes
  pub nonce : Nonce
  pub sender_nonce : Sixteen bytes m.header.sender_nonce nonce.bytes
  pub protection : m.protection.start.0 ≢ 0
  pub algorithm : m.header.protection_alg.start.0 ≢ 0
  pub good : d.verdict ≡ Some b
  pub kind : IsRequest m.body.kind
  pub no_recip_nonce : m.header.recip_nonce.start.0 ≡ 0
  -- the id is not in the table, and a slot is free
  pub unknown : lookup t.transactions id ≡ none
  pub slot : ℕ
  pub held : Transaction
  pub holds : get_elem? t.transactions slot ≡ some held
  pub free : held.state ≡ Free
  -- one entry, of number 0: not in a p10cr (4)
  pub entries : m.body.kind ≢ 4 → m.body.entries ≡ 1
  pub request : m.body.kind ≢ 4 → m.body.entry.number ≡ 0

-- "Opening: lowest free place becomes Asked for the board the verdict names"; nothing is sent
pub record Opened (t : TransactionTable) (kind : ℕ) (b : Board) (i : TransactionId) (n : Nonce) (a : RegistrarAnswer) : Type 0 where
  pub done : a.outcome ≡ outcome.Done
  pub fault : a.fault ≡ no_fault
  pub silently : SendsNothing a
  pub asked : OnlyAt t a.slot.0 (record { id = i; board = b; kind = kind; taken = n; sent = record { bytes = replicate 16 0 }; hash = record { bytes = replicate 32 0 }; state = Asked }) a.table
  pub was_free : (r : Transaction) × (get_elem? t.transactions a.slot.0 ≡ some r) × (r.state ≡ Free)
  pub lowest : (p : ℕ) (r : Transaction) → get_elem? t.transactions p ≡ some r → r.state ≡ Free → a.slot.0 ≤ p

pub record RequestRule (t : TransactionTable) (d : RegistrarInput) (bytes : List ℕ) (m : Message) : Type 0 where
  pub opens : reading_of bytes ≡ Ok m → IsRequest m.body.kind → (registrar_message t d bytes).outcome ≡ outcome.Done → (b : Board) × Opening t d bytes m b
  pub opened : (b : Board) (c : Opening t d bytes m b) → Opened t m.body.kind b c.id c.nonce (registrar_message t d bytes)
