-- Demand 2: "A confirmation moves a record exactly when ...", in the user's words.
use Rattle.std.specs.Prelude.{ℕ, List, true, false, ◌≡◌, ◌⊎◌, ◌≢◌, length, take, drop, Ok, Some, None}
use Rattle.std.proofs.Math.Option.{some}
use Rattle.message.specs.Read.{reading_of}
use Rattle.grammar.specs.declared.Span.{Span}
use Rattle.grammar.specs.declared.Message.{Message}
use Rattle.protocol.specs.declared.TransactionId.{TransactionId}
use Rattle.protocol.specs.declared.Nonce.{Nonce}
use Rattle.protocol.specs.declared.RegistrarInput.{RegistrarInput}
use Rattle.protocol.specs.declared.TransactionState.{TransactionState}
use Rattle.protocol.specs.declared.Transaction.{Transaction}
use Rattle.protocol.specs.declared.TransactionTable.{TransactionTable}
use Rattle.protocol.specs.declared.Outgoing.{Outgoing}
use Rattle.protocol.specs.declared.Outcome.{Outcome}
use Rattle.protocol.specs.declared.RegistrarAnswer.{RegistrarAnswer}
use Rattle.protocol.specs.declared.Outcome.TheVariants as outcome
use Rattle.protocol.specs.declared.TransactionState.TheVariants.{Granted, Confirmed, Declined}
use Rattle.protocol.specs.Refusals.{no_fault}
use Rattle.protocol.specs.Table.{lookup}
use Rattle.protocol.specs.Registrar.{registrar_message}
use Rattle.protocol.specs.MessageRules.{IsRefused}
use Rattle.protocol.specs.Slots.{FirstAt, Becomes, Sends, ours, bare}
use Rattle.protocol.specs.RequestNumber.{NumberIs}

-- the 16 bytes of a part that is there
abbrev pub Sixteen : List ℕ → Span → List ℕ → Type 0
Sixteen bytes s x = (s.start.0 ≢ 0) × (take s.len (drop s.start.0 bytes) ≡ x) × (length x ≡ 16)

-- the confirmation m, in these bytes, matches the transaction r in all but the state
pub record Matches (t : TransactionTable) (d : RegistrarInput) (bytes : List ℕ) (m : Message) (r : Transaction) : Type 0 where
  -- "it reads cleanly with one entry,"
  pub reads : reading_of bytes ≡ Ok m
  pub kind : m.body.kind ≡ 24
  pub entries : m.body.entries ≡ 1
  -- "its protection is there with its algorithm named and was found good for that board,"
  pub protection : m.protection.start.0 ≢ 0
  pub algorithm : m.header.protection_alg.start.0 ≢ 0
  pub good : d.verdict ≡ Some r.board
  -- "and its version,": 2 or 3, and with a hashAlg 3
  pub version : (m.header.version ≡ 2) ⊎ (m.header.version ≡ 3)
  pub hash_alg : m.body.entry.hash_alg.start.0 ≢ 0 → m.header.version ≡ 3
  -- "transaction id,": of 16 bytes, and r is the transaction with it
  pub id : TransactionId
  pub has_id : Sixteen bytes m.header.transaction_id id.bytes
  pub holds : lookup t.transactions id ≡ some r
  -- "nonces,": a senderNonce of 16 bytes, and as recipNonce the nonce that the transaction's response sent
  pub nonce : Nonce
  pub sender_nonce : Sixteen bytes m.header.sender_nonce nonce.bytes
  pub recip_present : m.header.recip_nonce.start.0 ≢ 0
  pub recip_nonce : take m.header.recip_nonce.len (drop m.header.recip_nonce.start.0 bytes) ≡ r.sent.bytes
  -- "request number,": of the transaction's kind
  pub request : NumberIs r.kind m.body.entry.number
  -- "certificate hash,"
  pub hash : take m.body.entry.cert_hash.len (drop m.body.entry.cert_hash.start.0 bytes) ≡ r.hash.bytes
  -- "status [...] all match our rules": none, 0 or 2
  pub status : (s : ℕ) → m.body.entry.status ≡ Some s → (s ≡ 0) ⊎ (s ≡ 2)

-- "no status info or status 0 gives Confirmed, 2 gives Declined"
abbrev pub LeadsTo : Message → TransactionState → Type 0
LeadsTo m s =
    ((s ≡ Confirmed) × ((m.body.entry.status ≡ None) ⊎ (m.body.entry.status ≡ Some 0)))
    ⊎ ((s ≡ Declined) × (m.body.entry.status ≡ Some 2))

-- "and the record's state": it moves at Granted;
pub record Moving (t : TransactionTable) (d : RegistrarInput) (bytes : List ℕ) (m : Message) (r : Transaction) : Type 0 where
  pub match : Matches t d bytes m r
  pub granted : r.state ≡ Granted

-- "At Confirmed or Declined the same senderNonce, hash and status (absent counts as 0) give again"
pub record Repeating (t : TransactionTable) (d : RegistrarInput) (bytes : List ℕ) (m : Message) (r : Transaction) : Type 0 where
  pub match : Matches t d bytes m r
  pub nonce : match.nonce ≡ r.taken
  pub state : LeadsTo m r.state

-- a step with a confirmation that ended so
pub record Confirms (t : TransactionTable) (d : RegistrarInput) (bytes : List ℕ) (m : Message) (o : Outcome) : Type 0 where
  pub reads : reading_of bytes ≡ Ok m
  pub kind : m.body.kind ≡ 24
  pub ends : (registrar_message t d bytes).outcome ≡ o

-- pkiconf: the id, the fresh nonce, and as recipNonce the senderNonce of the message answered
abbrev pub acknowledgement : RegistrarInput → TransactionId → Nonce → Outgoing
acknowledgement d i n =
    record {
      kind = 19;
      id = i;
      sender_nonce = ours d.nonce;
      has_recip_nonce = true;
      recip_nonce = n;
      contents = bare;
    }

-- the complete answer: the transaction r of this id in its new state, "its senderNonce is kept; order pkiconf"
abbrev pub MovedAnswer : TransactionTable → RegistrarInput → Transaction → TransactionId → Nonce → TransactionState → RegistrarAnswer → Type 0
MovedAnswer t d r i n s a =
    Becomes t i r (record { id = r.id; board = r.board; kind = r.kind; taken = n; sent = r.sent; hash = r.hash; state = s }) a
    × Sends (acknowledgement d i n) a

-- the complete answer: "record unchanged, a new pkiconf order"; its slot is that of the transaction r of this id
pub record RepeatedAnswer (t : TransactionTable) (d : RegistrarInput) (r : Transaction) (i : TransactionId) (n : Nonce) (a : RegistrarAnswer) : Type 0 where
  pub again : a.outcome ≡ outcome.Again
  pub fault : a.fault ≡ no_fault
  pub held : FirstAt t a.slot.0 i r
  pub sends : Sends (acknowledgement d i n) a
  pub table : a.table ≡ t

-- "exactly when", with the complete answers; and where it neither moves one nor repeats, the table stays and it is refused
pub record ConfirmationRule (t : TransactionTable) (d : RegistrarInput) (bytes : List ℕ) (m : Message) : Type 0 where
  pub moves : Confirms t d bytes m outcome.Done → (r : Transaction) × Moving t d bytes m r
  pub moved : (r : Transaction) (c : Moving t d bytes m r) → (s : TransactionState) → LeadsTo m s → MovedAnswer t d r c.match.id c.match.nonce s (registrar_message t d bytes)
  pub repeats : Confirms t d bytes m outcome.Again → (r : Transaction) × Repeating t d bytes m r
  pub repeated : (r : Transaction) (c : Repeating t d bytes m r) → RepeatedAnswer t d r c.match.id c.match.nonce (registrar_message t d bytes)
  pub else :
      reading_of bytes ≡ Ok m
      → m.body.kind ≡ 24
      → ((r : Transaction) → Moving t d bytes m r → ⊥)
      → ((r : Transaction) → Repeating t d bytes m r → ⊥)
      → IsRefused (registrar_message t d bytes).outcome × ((registrar_message t d bytes).table ≡ t)
  -- whatever the message: what is not done leaves the table
  pub stays : ((registrar_message t d bytes).outcome ≡ outcome.Done → ⊥) → (registrar_message t d bytes).table ≡ t
