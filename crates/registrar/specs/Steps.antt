-- The registrar's steps once more, over the slot and the plain values that the code hands on.
use Rattle.std.specs.Prelude.{ℕ, List, Bool, true, false, cond, ◌≡◌, get_or, set, eqb, leb, Some, None}
use Rattle.std.specs.Prelude as code
use Rattle.std.proofs.Math.Option
use Rattle.std.proofs.Math.Option.{Option, none, some}
use Rattle.grammar.specs.declared.Message.{Message}
use Rattle.protocol.specs.declared.Board.{Board}
use Rattle.protocol.specs.declared.Slot.{Slot}
use Rattle.protocol.specs.declared.TransactionId.{TransactionId}
use Rattle.protocol.specs.declared.Nonce.{Nonce}
use Rattle.protocol.specs.declared.FreshNonce.{FreshNonce}
use Rattle.protocol.specs.declared.Hash.{Hash}
use Rattle.protocol.specs.declared.Outgoing.{Outgoing}
use Rattle.protocol.specs.declared.TransactionState.{TransactionState}
use Rattle.protocol.specs.declared.TransactionState.TheVariants.{Asked}
use Rattle.protocol.specs.declared.Transaction.{Transaction}
use Rattle.protocol.specs.declared.TransactionTable.{TransactionTable}
use Rattle.protocol.specs.declared.RegistrarInput.{RegistrarInput}
use Rattle.protocol.specs.declared.RegistrarAnswer.{RegistrarAnswer}
use Rattle.protocol.specs.declared.Outcome.TheVariants as outcome
use Rattle.protocol.specs.Bytes.{as_id, as_nonce, no_nonce, no_hash, nonce_from}
use Rattle.protocol.specs.Message.{Fields, fields_of, is_opening_kind, cert_conf}
use Rattle.protocol.specs.Outgoing.{silent, error_out, pki_conf_out, response_out}
use Rattle.protocol.specs.Table.{free_transaction, lookup, free_slot, put}
use Rattle.protocol.specs.States.{is_granted, settled_state}
use Rattle.protocol.specs.Refusals.{lowest_row, bit_of, no_fault}
use Rattle.protocol.specs.RegistrarRows.{later_rows}
use Rattle.protocol.specs.Registrar.{board_named, refused_quietly, done_quietly, done_sending, settled, responded, registrar_checked, host_step}

-- ## Slots

-- the transaction in a slot; past the last slot a free one
abbrev pub held_at : List Transaction → ℕ → Transaction
held_at rs p = get_or rs p free_transaction

-- the table with another transaction in a slot
abbrev pub with_at : TransactionTable → ℕ → Transaction → TransactionTable
with_at t p x = record { transactions = set t.transactions p x }

-- what the code hands on of a search: the transaction, if there is one, with its slot p
abbrev pub found_in : Option Transaction → (p : ℕ) → code.Option (Slot × Transaction)
found_in none p = None
found_in (some r) p = Some (record { 0 = p }, r)

-- the transaction of that
abbrev pub found_by : code.Option (Slot × Transaction) → Option Transaction
found_by None = none
found_by (Some x) = some x.1

-- the slot p, where there is one
abbrev pub place_in : Bool → (p : ℕ) → code.Option Slot
place_in true p = Some (record { 0 = p })
place_in false p = None

-- ## Answers

-- refused: from 6 up with an error message for the id i, which answers the nonce a
abbrev pub refusal_answer : (number : ℕ) → (confirmed : Bool) → TransactionTable → (fresh : FreshNonce) → (i : TransactionId) → (a : Nonce) → RegistrarAnswer
refusal_answer k c t n i a =
    record {
      outcome = outcome.Refused k (bit_of k c);
      fault = no_fault;
      slot = record { 0 = 0 };
      outgoing = cond (leb 6 k) (Some (error_out i n a (bit_of k c))) None;
      table = t;
    }

-- "again": the same acknowledgement, and no change
abbrev pub repeated : (p : ℕ) → TransactionTable → Outgoing → RegistrarAnswer
repeated p t o = record { outcome = outcome.Again; fault = no_fault; slot = record { 0 = p }; outgoing = Some o; table = t }

-- the transaction that a request opens
abbrev pub asked_transaction : TransactionId → Board → (kind : ℕ) → (taken : Nonce) → Transaction
asked_transaction i b k a = record { id = i; board = b; kind = k; taken = a; sent = no_nonce; hash = no_hash; state = Asked }

-- a confirmation of this status that is not refused, for the transaction r in the slot p: at Granted it moves, else it is "again"
abbrev pub confirmation : TransactionTable → (p : ℕ) → (r : Transaction) → (fresh : FreshNonce) → (i : TransactionId) → (a : Nonce) → (status : ℕ) → RegistrarAnswer
confirmation t p r n i a s =
    cond (is_granted r.state) (done_sending p (set t.transactions p (settled r (settled_state s) a)) (pki_conf_out i n a)) (repeated p t (pki_conf_out i n a))

-- the same for what was found; without a transaction none comes here (12)
abbrev pub confirmation_of : code.Option (Slot × Transaction) → TransactionTable → (fresh : FreshNonce) → (i : TransactionId) → (a : Nonce) → (status : ℕ) → RegistrarAnswer
confirmation_of None t n i a s = refused_quietly 12 t
confirmation_of (Some x) t n i a s = confirmation t x.0.0 x.1 n i a s

-- a message that no row refuses, by its kind k: for what was found, or for a new transaction. Of another kind none comes here (8)
abbrev pub taken_at : TransactionTable → code.Option (Slot × Transaction) → (k status : ℕ) → RegistrarInput → (i : TransactionId) → (a : Nonce) → RegistrarAnswer
taken_at t o k s d i a =
    cond (is_opening_kind k)
    (done_quietly (free_slot t.transactions) (put t.transactions (asked_transaction i (board_named d.verdict) k a)))
    (cond (eqb k cert_conf) (confirmation_of o t d.nonce i a s) (refused_quietly 8 t))

-- a response of this status for the transaction r in the slot p, which then is in the state s
abbrev pub response_answer : TransactionTable → (p : ℕ) → (r : Transaction) → TransactionId → TransactionState → (status : ℕ) → FreshNonce → Hash → RegistrarAnswer
response_answer t p r i s status n h = done_sending p (set t.transactions p (responded r s (nonce_from n) h)) (response_out r.kind i n r.taken status)

-- a message that the rows 3 to 7 do not refuse, by its id i: f is what the table has for it
abbrev pub headed : TransactionTable → RegistrarInput → (i : TransactionId) → Fields → RegistrarAnswer
headed t x i m =
    let f : Option Transaction = lookup t.transactions i in
    registrar_checked (lowest_row (later_rows t.transactions f x.verdict (Option.get_or f free_transaction) m)) f t x m

-- the id and the nonce that the code copies out of a message are the message's own
pub record Copied (bytes : List ℕ) (m : Message) (i : TransactionId) (a : Nonce) : Type 0 where
  pub id : i ≡ as_id (fields_of bytes m).id
  pub nonce : a ≡ as_nonce (fields_of bytes m).sender_nonce

-- ## The host's steps

-- the answer is the host's step for the id i, for any test and any end that the code's own, M and A, come to
abbrev pub StepsBy : (M : Transaction → Bool → Type 0) → (A : Transaction → RegistrarAnswer → Type 0) → TransactionTable → (i : TransactionId) → (answer : RegistrarAnswer) → Type 0
StepsBy M A t i answer =
    (ok : Transaction → Bool) (f : Transaction → RegistrarAnswer) →
    ((x : Transaction) (b : Bool) → M x b → b ≡ ok x) →
    ((x : Transaction) (y : RegistrarAnswer) → A x y → y ≡ f x) →
    answer ≡ host_step (lookup t.transactions i) t ok f
