-- The registrar's host steps, each with its complete answer: 01's sentences once more, in words of their own.
use Rattle.std.specs.Prelude.{ℕ, true, false, ◌≡◌, ◌⊎◌, replicate, None}
use Rattle.std.proofs.Math.Option.{none, some}
use Rattle.protocol.specs.declared.TransactionId.{TransactionId}
use Rattle.protocol.specs.declared.Nonce.{Nonce}
use Rattle.protocol.specs.declared.FreshNonce.{FreshNonce}
use Rattle.protocol.specs.declared.Hash.{Hash}
use Rattle.protocol.specs.declared.TransactionState.{TransactionState}
use Rattle.protocol.specs.declared.Transaction.{Transaction}
use Rattle.protocol.specs.declared.TransactionTable.{TransactionTable}
use Rattle.protocol.specs.declared.Outgoing.{Outgoing}
use Rattle.protocol.specs.declared.RegistrarAnswer.{RegistrarAnswer}
use Rattle.protocol.specs.declared.Outcome.TheVariants as outcome
use Rattle.protocol.specs.declared.TransactionState.TheVariants.{Free, Asked, Granted, Confirmed, Declined, Refused, Lapsed}
use Rattle.protocol.specs.Message.{response_to}
use Rattle.protocol.specs.Refusals.{no_fault}
use Rattle.protocol.specs.Outgoing.{silent}
use Rattle.protocol.specs.Table.{lookup}
use Rattle.protocol.specs.Slots.{Becomes, Sends, SendsNothing, ours}
use Rattle.protocol.specs.RequestNumber.{NumberIs}
use Rattle.protocol.specs.Registrar.{registrar_issue, registrar_refuse, registrar_lapse, registrar_close}

-- refused by this number, with no bit and nothing to send, and the table as it was
abbrev pub host_refusal : ℕ → TransactionTable → RegistrarAnswer
host_refusal n t = record { outcome = outcome.Refused n None; fault = no_fault; slot = record { 0 = 0 }; outgoing = None; table = t }

-- a host step for the id: 30 "id not in the book", 31 "state doesn't allow it", else this
pub record HostRule (t : TransactionTable) (i : TransactionId) (Allowed : TransactionState → Type 0) (Next : Transaction → RegistrarAnswer → Type 0) (a : RegistrarAnswer) : Type 0 where
  pub unknown : lookup t.transactions i ≡ none → a ≡ host_refusal 30 t
  pub done : (r : Transaction) → lookup t.transactions i ≡ some r → Allowed r.state → Next r a
  pub else : (r : Transaction) → lookup t.transactions i ≡ some r → (Allowed r.state → ⊥) → a ≡ host_refusal 31 t

-- ip, cp or kup: the id, the fresh nonce, as recipNonce the last board nonce taken, the status and the request number
abbrev pub response_sent : ℕ → TransactionId → FreshNonce → Nonce → (status : ℕ) → (number : ℕ) → Outgoing
response_sent k i n a s q =
    record {
      kind = k;
      id = i;
      sender_nonce = ours n;
      has_recip_nonce = true;
      recip_nonce = a;
      contents = record { has_status = true; status = s; hash = record { bytes = replicate 32 0 }; failure = None; has_number = true; number = q };
    }

-- the complete answer: the transaction r of this id becomes x, and this is sent with the request number of its kind
abbrev pub Answering : TransactionTable → TransactionId → Transaction → Transaction → (ℕ → Outgoing) → RegistrarAnswer → Type 0
Answering t i r x o a = Becomes t i r x a × ((q : ℕ) × NumberIs r.kind q × Sends (o q) a)

-- the complete answer: the transaction r of this id becomes x, and nothing is sent
abbrev pub Quietly : TransactionTable → TransactionId → Transaction → Transaction → RegistrarAnswer → Type 0
Quietly t i r x a = Becomes t i r x a × SendsNothing a

-- a transaction of all zeros
abbrev pub nothing : Transaction
nothing =
    record {
      id = record { bytes = replicate 16 0 };
      board = record { 0 = 0 };
      kind = 0;
      taken = record { bytes = replicate 16 0 };
      sent = record { bytes = replicate 16 0 };
      hash = record { bytes = replicate 32 0 };
      state = Free;
    }

pub record HostRules (t : TransactionTable) (i : TransactionId) : Type 0 where
  -- "issue, Asked to Granted, with hash and nonce, order ip, cp or kup [...] with status 0;"
  pub issue : (n : FreshNonce) (h : Hash) → HostRule t i (λ s. s ≡ Asked) (λ r. Answering t i r (record { id = r.id; board = r.board; kind = r.kind; taken = r.taken; sent = ours n; hash = h; state = Granted }) (response_sent (response_to r.kind) i n r.taken 0)) (registrar_issue t i n h)
  -- "refuse, Asked to Refused, with nonce, the same order with status 2;"
  pub refuse : (n : FreshNonce) → HostRule t i (λ s. s ≡ Asked) (λ r. Answering t i r (record { id = r.id; board = r.board; kind = r.kind; taken = r.taken; sent = ours n; hash = r.hash; state = Refused }) (response_sent (response_to r.kind) i n r.taken 2)) (registrar_refuse t i n)
  -- "lapse, Granted to Lapsed;"
  pub lapse : HostRule t i (λ s. s ≡ Granted) (λ r. Quietly t i r (record { id = r.id; board = r.board; kind = r.kind; taken = r.taken; sent = r.sent; hash = r.hash; state = Lapsed })) (registrar_lapse t i)
  -- "close, from Confirmed, Declined, Refused or Lapsed to free, as in the empty book."
  pub close : HostRule t i (λ s. (s ≡ Confirmed) ⊎ (s ≡ Declined) ⊎ (s ≡ Refused) ⊎ (s ≡ Lapsed)) (λ r. Quietly t i r nothing) (registrar_close t i)
