-- "The desk's states": the registrar's calls. A message, and the host's issue, refuse, lapse and close.
use Rattle.std.specs.Prelude.{ℕ, List, Bool, true, false, cond, leb, Ok, Err, Some, None}
use Rattle.std.proofs.Math.Option.{Option, none, some}
use Rattle.message.specs.Read.{reading_of}
use Rattle.message.specs.declared.ReadFault.{ReadFault}
use Rattle.message.specs.Types.{Reading}
use Rattle.protocol.specs.declared.Board.{Board}
use Rattle.protocol.specs.declared.TransactionId.{TransactionId}
use Rattle.protocol.specs.declared.Nonce.{Nonce}
use Rattle.protocol.specs.declared.FreshNonce.{FreshNonce}
use Rattle.protocol.specs.declared.Hash.{Hash}
use Rattle.protocol.specs.Types.{Verdict}
use Rattle.protocol.specs.declared.RegistrarInput.{RegistrarInput}
use Rattle.protocol.specs.declared.TransactionState.{TransactionState}
use Rattle.protocol.specs.declared.Transaction.{Transaction}
use Rattle.protocol.specs.declared.TransactionTable.{TransactionTable}
use Rattle.protocol.specs.declared.Outgoing.{Outgoing}
use Rattle.protocol.specs.declared.RegistrarAnswer.{RegistrarAnswer}
use Rattle.protocol.specs.declared.TransactionState.TheVariants.{Asked, Granted, Refused, Lapsed}
use Rattle.protocol.specs.declared.Outcome.TheVariants as outcome
use Rattle.protocol.specs.Bytes.{as_id, as_nonce, no_nonce, no_hash, nonce_from}
use Rattle.protocol.specs.Message.{Fields, status_or0, fields_of}
use Rattle.protocol.specs.Outgoing.{silent, error_out, pki_conf_out, response_out}
use Rattle.protocol.specs.Table.{free_slot, put, slot_of, replace, lookup, free_transaction}
use Rattle.protocol.specs.States.{is_confirmed, is_granted, settled_state, may_issue, may_refuse, may_lapse, may_close}
use Rattle.protocol.specs.Refusals.{bit_of, LowestRow, stop, pass, lowest_row, read_refusal, no_fault}
use Rattle.protocol.specs.RegistrarRows.{opens, confirms, registrar_rows}

-- ## Answers

-- a refusal with nothing to send: the table as it was
abbrev pub refused_quietly : ℕ → TransactionTable → RegistrarAnswer
refused_quietly k t = record { outcome = outcome.Refused k (bit_of k false); fault = no_fault; slot = record { 0 = 0 }; outgoing = None; table = t }

-- the bytes do not read: the reader's refusal, with its fault
abbrev pub refused_reading : ReadFault → TransactionTable → RegistrarAnswer
refused_reading f t = record { outcome = outcome.Refused (read_refusal f) (bit_of (read_refusal f) false); fault = f; slot = record { 0 = 0 }; outgoing = None; table = t }

-- done at this slot, with nothing to send
abbrev pub done_quietly : ℕ → List Transaction → RegistrarAnswer
done_quietly p rs = record { outcome = outcome.Done; fault = no_fault; slot = record { 0 = p }; outgoing = None; table = record { transactions = rs } }

-- done at this slot, with this to send
abbrev pub done_sending : ℕ → List Transaction → Outgoing → RegistrarAnswer
done_sending p rs o = record { outcome = outcome.Done; fault = no_fault; slot = record { 0 = p }; outgoing = Some o; table = record { transactions = rs } }

-- ## A message

abbrev pub board_named : Verdict → Board
board_named None = record { 0 = 0 }
board_named (Some b) = b

abbrev pub confirmed_at : Option Transaction → Bool
confirmed_at none = false
confirmed_at (some r) = is_confirmed r.state

-- a refused message: the table as it was; "for numbers 6 up in message steps the desk also issues an error order"
abbrev pub refused_message : ℕ → Option Transaction → TransactionTable → FreshNonce → Fields → RegistrarAnswer
refused_message k f t n m =
    record {
      outcome = outcome.Refused k (bit_of k (confirmed_at f));
      fault = no_fault;
      slot = record { 0 = 0 };
      outgoing = cond (leb 6 k) (Some (error_out (as_id m.id) n (as_nonce m.sender_nonce) (bit_of k (confirmed_at f)))) None;
      table = t;
    }

-- "Opening: lowest free place becomes Asked for the board the verdict names"
abbrev pub opened_transaction : Verdict → Fields → Transaction
opened_transaction v m =
    record { id = as_id m.id; board = board_named v; kind = m.kind; taken = as_nonce m.sender_nonce; sent = no_nonce; hash = no_hash; state = Asked }

abbrev pub opened : TransactionTable → Verdict → Fields → RegistrarAnswer
opened t v m = done_quietly (free_slot t.transactions) (put t.transactions (opened_transaction v m))

-- the transaction in another state, with another nonce taken
abbrev pub settled : Transaction → TransactionState → Nonce → Transaction
settled r s n = record { id = r.id; board = r.board; kind = r.kind; taken = n; sent = r.sent; hash = r.hash; state = s }

-- "certConf at Granted: ... its senderNonce is kept; order pkiconf"; elsewhere "again: record unchanged, a new pkiconf order"
abbrev pub confirmed : TransactionTable → Transaction → FreshNonce → Fields → RegistrarAnswer
confirmed t r n m =
    let i : TransactionId = as_id m.id in
    let a : Nonce = as_nonce m.sender_nonce in
    cond (is_granted r.state)
    (done_sending (slot_of t.transactions i) (replace t.transactions i (settled r (settled_state (status_or0 m.status)) a)) (pki_conf_out i n a))
    (record { outcome = outcome.Again; fault = no_fault; slot = record { 0 = slot_of t.transactions i }; outgoing = Some (pki_conf_out i n a); table = t })

-- a certConf that no row refuses, of the transaction with its id; without one none comes here (12)
abbrev pub confirmed_found : Option Transaction → TransactionTable → FreshNonce → Fields → RegistrarAnswer
confirmed_found none t n m = refused_quietly 12 t
confirmed_found (some r) t n m = confirmed t r n m

-- a message that no row refuses, by its kind: f is the transaction with its id; of another kind none comes here (8)
abbrev pub registrar_taken : Option Transaction → TransactionTable → RegistrarInput → Fields → RegistrarAnswer
registrar_taken f t d m =
    cond (opens m)
    (opened t d.verdict m)
    (cond (confirms m) (confirmed_found f t d.nonce m) (refused_quietly 8 t))

unfoldable pub registrar_checked : LowestRow → Option Transaction → TransactionTable → RegistrarInput → Fields → RegistrarAnswer
registrar_checked (stop k) f t d m = refused_message k f t d.nonce m
registrar_checked pass f t d m = registrar_taken f t d m

unfoldable pub registrar_fields : TransactionTable → RegistrarInput → Fields → RegistrarAnswer
registrar_fields t d m =
    let f : Option Transaction = lookup t.transactions (as_id m.id) in
    registrar_checked (lowest_row (registrar_rows t.transactions f d.verdict m)) f t d m

-- "The reading is taken apart; a refusal ends the step at once"
unfoldable pub registrar_read : Reading → TransactionTable → RegistrarInput → List ℕ → RegistrarAnswer
registrar_read (Err f) t d bytes = refused_reading f t
registrar_read (Ok m) t d bytes = registrar_fields t d (fields_of bytes m)

-- A message at the registrar.
unfoldable pub registrar_message : TransactionTable → RegistrarInput → (bytes : List ℕ) → RegistrarAnswer
registrar_message t d bytes = registrar_read (reading_of bytes) t d bytes

-- ## The host's steps

-- 30: "host step, id not in the book"; 31: "host step, state doesn't allow it"
abbrev pub host_step : Option Transaction → TransactionTable → (Transaction → Bool) → (Transaction → RegistrarAnswer) → RegistrarAnswer
host_step none t ok f = refused_quietly 30 t
host_step (some r) t ok f = cond (ok r) (f r) (refused_quietly 31 t)

-- the transaction in another state, with a response nonce sent and a hash
abbrev pub responded : Transaction → TransactionState → Nonce → Hash → Transaction
responded r s n h = record { id = r.id; board = r.board; kind = r.kind; taken = r.taken; sent = n; hash = h; state = s }

-- "order ip, cp or kup": the response to the transaction's request
abbrev pub respond : TransactionTable → TransactionId → Transaction → TransactionState → (status : ℕ) → FreshNonce → Hash → RegistrarAnswer
respond t i r s status n h =
    done_sending (slot_of t.transactions i) (replace t.transactions i (responded r s (nonce_from n) h)) (response_out r.kind i n r.taken status)

-- "issue, Asked to Granted, with hash and nonce, ... with status 0"
unfoldable pub registrar_issue : TransactionTable → TransactionId → FreshNonce → Hash → RegistrarAnswer
registrar_issue t i n h = host_step (lookup t.transactions i) t may_issue (λ r. respond t i r Granted 0 n h)

-- "refuse, Asked to Refused, with nonce, the same order with status 2"
unfoldable pub registrar_refuse : TransactionTable → TransactionId → FreshNonce → RegistrarAnswer
registrar_refuse t i n = host_step (lookup t.transactions i) t may_refuse (λ r. respond t i r Refused 2 n r.hash)

abbrev pub replaced : TransactionTable → TransactionId → Transaction → RegistrarAnswer
replaced t i x = done_quietly (slot_of t.transactions i) (replace t.transactions i x)

-- "lapse, Granted to Lapsed"
unfoldable pub registrar_lapse : TransactionTable → TransactionId → RegistrarAnswer
registrar_lapse t i = host_step (lookup t.transactions i) t may_lapse (λ r. replaced t i (settled r Lapsed r.taken))

-- "close, from Confirmed, Declined, Refused or Lapsed to free, as in the empty book"
unfoldable pub registrar_close : TransactionTable → TransactionId → RegistrarAnswer
registrar_close t i = host_step (lookup t.transactions i) t may_close (λ r. replaced t i free_transaction)
