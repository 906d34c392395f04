-- Demand 2 over lent bytes: what a confirmation does to the table's bytes, and what the bytes then say.
use Rattle.std.specs.Prelude.{ℕ, List, true, ◌≡◌, ◌≢◌, length, Ok}
use Rattle.message.specs.Read.{reading_of}
use Rattle.grammar.specs.declared.Message.{Message}
use Rattle.protocol.specs.declared.RegistrarInput.{RegistrarInput}
use Rattle.protocol.specs.declared.TransactionState.{TransactionState}
use Rattle.protocol.specs.declared.Transaction.{Transaction}
use Rattle.protocol.specs.declared.TransactionTable.{TransactionTable}
use Rattle.protocol.specs.Confirmation.{LeadsTo, Moving, Repeating, MovedAnswer, RepeatedAnswer}
use Rattle.packed.specs.Bytes.{AllBytes}
use Rattle.packed.specs.Table.{table_bytes}
use Rattle.duskstall.specs.Boundary.{Crossing}
use Rattle.duskstall.specs.Calls.{registrar_input}
use Rattle.lent.specs.Calls.{RegistrarMessage}
use Rattle.lent.specs.Lent.{LentCall, AtRegistrar, LentWorld, crossing, is_made, lent_after, lent_beginning}
use Rattle.lent.specs.Reads.{registrar_read_back, table_in}

-- a confirmation m, in these bytes, on the table t that the bytes s stand for; the call ended in x
pub record BytesConfirmed (t : TransactionTable) (d : RegistrarInput) (bytes : List ℕ) (m : Message) (s : List ℕ) (x : Crossing) : Type 0 where
  -- it returns 0 exactly when it moves a transaction, and the bytes are then the complete answer
  pub moves : x.code ≡ 0 → (r : Transaction) × Moving t d bytes m r
  pub done : (r : Transaction) → Moving t d bytes m r → x.code ≡ 0
  pub moved : (r : Transaction) (c : Moving t d bytes m r) → (v : TransactionState) → LeadsTo m v → MovedAnswer t d r c.match.id c.match.nonce v (registrar_read_back x)
  -- 1 exactly when it repeats the one that did
  pub repeats : x.code ≡ 1 → (r : Transaction) × Repeating t d bytes m r
  pub again : (r : Transaction) → Repeating t d bytes m r → x.code ≡ 1
  pub repeated : (r : Transaction) (c : Repeating t d bytes m r) → RepeatedAnswer t d r c.match.id c.match.nonce (registrar_read_back x)
  -- unless it moves one, the table's bytes stay; where it neither moves one nor repeats, it returns 2: it is refused
  pub else : x.code ≢ 0 → x.state ≡ s
  pub refused : ((r : Transaction) → Moving t d bytes m r → ⊥) → ((r : Transaction) → Repeating t d bytes m r → ⊥) → x.code ≡ 2

-- of a call that is made, with bytes that read cleanly as a confirmation
abbrev pub ConfirmsBytes : LentWorld → Type 0
ConfirmsBytes w =
    (bytes : List ℕ) (good board : ℕ) (nonce answer : List ℕ)
    → is_made (crossing w (AtRegistrar (RegistrarMessage bytes good board nonce) answer)).code ≡ true
    → (m : Message)
    → reading_of bytes ≡ Ok m
    → m.body.kind ≡ 24
    → BytesConfirmed (table_in w) (registrar_input good board nonce) bytes m w.table (crossing w (AtRegistrar (RegistrarMessage bytes good board nonce) answer))

-- whatever is lent
abbrev pub LentConfirmation : Type 0
LentConfirmation = (w : LentWorld) → AllBytes w.table → ConfirmsBytes w

-- after any list of calls: nothing is supposed of the bytes
abbrev pub LentConfirmationAfter : Type 0
LentConfirmationAfter = (s : List ℕ) → length s ≡ table_bytes → (calls : List LentCall) → ConfirmsBytes (lent_after (lent_beginning s) calls)
