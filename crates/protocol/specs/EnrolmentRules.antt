-- A message at an end entity is taken exactly when ..., and what it then does to the enrolment.
use Rattle.std.specs.Prelude.{ℕ, List, true, false, ◌≡◌, ◌⊎◌, ◌≢◌, replicate, take, drop, Ok, None, Some}
use Rattle.message.specs.Read.{reading_of}
use Rattle.grammar.specs.declared.Message.{Message}
use Rattle.protocol.specs.declared.TransactionId.{TransactionId}
use Rattle.protocol.specs.declared.Nonce.{Nonce}
use Rattle.protocol.specs.declared.FreshNonce.{FreshNonce}
use Rattle.protocol.specs.declared.EndEntityInput.{EndEntityInput}
use Rattle.protocol.specs.declared.EnrolmentState.{EnrolmentState}
use Rattle.protocol.specs.declared.Enrolment.{Enrolment}
use Rattle.protocol.specs.declared.EndEntityAnswer.{EndEntityAnswer}
use Rattle.protocol.specs.declared.EnrolmentState.TheVariants.{Asked, Confirming, Declining, Sure, Declined, Failed, Unsettled}
use Rattle.protocol.specs.declared.Outcome.TheVariants as outcome
use Rattle.protocol.specs.Message.{response_to}
use Rattle.protocol.specs.Refusals.{no_fault}
use Rattle.protocol.specs.Outgoing.{silent}
use Rattle.protocol.specs.EndEntity.{end_entity_message, end_entity_time_out, end_entity_start}
use Rattle.protocol.specs.Slots.{ours, bare}
use Rattle.protocol.specs.RequestNumber.{NumberIs}
use Rattle.protocol.specs.Confirmation.{Sixteen}
use Rattle.protocol.specs.Request.{IsRequest}

-- 3 to 7, 12 and 14: what every message must have
pub record Heard (x : Enrolment) (d : EndEntityInput) (bytes : List ℕ) (m : Message) : Type 0 where
  pub reads : reading_of bytes ≡ Ok m
  pub version : (m.header.version ≡ 2) ⊎ (m.header.version ≡ 3)
  pub has_id : Sixteen bytes m.header.transaction_id x.id.bytes
  pub nonce : Nonce
  pub sender_nonce : Sixteen bytes m.header.sender_nonce nonce.bytes
  pub protection : m.protection.start.0 ≢ 0
  pub algorithm : m.header.protection_alg.start.0 ≢ 0
  pub good : d.good ≡ true
  pub recip_present : m.header.recip_nonce.start.0 ≢ 0
  pub recip_nonce : take m.header.recip_nonce.len (drop m.header.recip_nonce.start.0 bytes) ≡ x.last.bytes

-- the status in the message; one that is left out counts as 0
abbrev pub StatusIs : Message → ℕ → Type 0
StatusIs m s = (m.body.entry.status ≡ Some s) ⊎ ((m.body.entry.status ≡ None) × (s ≡ 0))

-- pkiconf, where it is awaited
pub record Acknowledges (x : Enrolment) (m : Message) : Type 0 where
  pub kind : m.body.kind ≡ 19
  pub state : (x.state ≡ Confirming) ⊎ (x.state ≡ Declining)

-- error with status 2, at Asked, Confirming or Declining
pub record Reports (x : Enrolment) (m : Message) : Type 0 where
  pub kind : m.body.kind ≡ 23
  pub status : StatusIs m 2
  pub state : (x.state ≡ Asked) ⊎ (x.state ≡ Confirming) ⊎ (x.state ≡ Declining)

-- the response to its request, at Asked: one entry of the number of its kind, status 0, 1 or 2, and a plain certificate unless it is 2
pub record Responds (x : Enrolment) (m : Message) (s : ℕ) : Type 0 where
  pub kind : m.body.kind ≡ response_to x.kind
  pub entries : m.body.entries ≡ 1
  pub request : NumberIs x.kind m.body.entry.number
  pub status : StatusIs m s
  pub known : (s ≡ 0) ⊎ (s ≡ 1) ⊎ (s ≡ 2)
  pub state : x.state ≡ Asked
  pub certificate : s ≢ 2 → m.body.entry.certificate.start.0 ≢ 0

-- done, with nothing to send, and only the state changed
abbrev pub becomes : Enrolment → EnrolmentState → EndEntityAnswer
becomes x s = record { outcome = outcome.Done; fault = no_fault; outgoing = None; enrolment = record { id = x.id; kind = x.kind; last = x.last; taken = x.taken; hash = x.hash; state = s } }

-- done, with a certConf of this status for the host's hash, which answers the response's nonce n and has its request number q
abbrev pub certifies : Enrolment → EndEntityInput → Nonce → (number : ℕ) → EnrolmentState → (status : ℕ) → EndEntityAnswer
certifies x d n q s status =
    record {
      outcome = outcome.Done;
      fault = no_fault;
      outgoing =
          Some (record {
            kind = 24;
            id = x.id;
            sender_nonce = ours d.nonce;
            has_recip_nonce = true;
            recip_nonce = n;
            contents = record { has_status = true; status = status; hash = d.hash; failure = None; has_number = true; number = q };
          });
      enrolment = record { id = x.id; kind = x.kind; last = ours d.nonce; taken = n; hash = d.hash; state = s };
    }

pub record EnrolmentRule (x : Enrolment) (d : EndEntityInput) (bytes : List ℕ) (m : Message) : Type 0 where
  -- a message is taken only if
  pub takes : reading_of bytes ≡ Ok m → (end_entity_message x d bytes).outcome ≡ outcome.Done → Heard x d bytes m × (Acknowledges x m ⊎ Reports x m ⊎ ((s : ℕ) × Responds x m s))
  -- "pkiconf: Confirming to Sure, Declining to Declined."
  pub sure : (c : Heard x d bytes m) → Acknowledges x m → x.state ≡ Confirming → end_entity_message x d bytes ≡ becomes x Sure
  pub declined : (c : Heard x d bytes m) → Acknowledges x m → x.state ≡ Declining → end_entity_message x d bytes ≡ becomes x Declined
  -- "Error with status 2: Asked to Failed, Confirming or Declining to Unsettled."
  pub failed : (c : Heard x d bytes m) → Reports x m → x.state ≡ Asked → end_entity_message x d bytes ≡ becomes x Failed
  pub unsettled : (c : Heard x d bytes m) → Reports x m → (x.state ≡ Confirming) ⊎ (x.state ≡ Declining) → end_entity_message x d bytes ≡ becomes x Unsettled
  -- "Asked with a response: status 2 gives Failed; 0 or 1 gives, by the host's decision, Confirming or Declining"
  pub refused : (c : Heard x d bytes m) → Responds x m 2 → end_entity_message x d bytes ≡ becomes x Failed
  pub accepted : (c : Heard x d bytes m) (s : ℕ) → Responds x m s → s ≢ 2 → d.accept ≡ true → end_entity_message x d bytes ≡ certifies x d c.nonce m.body.entry.number Confirming 0
  pub rejected : (c : Heard x d bytes m) (s : ℕ) → Responds x m s → s ≢ 2 → d.accept ≡ false → end_entity_message x d bytes ≡ certifies x d c.nonce m.body.entry.number Declining 2

-- "Time out: the same. The rest is [...] 31."
pub record TimeOutRule (x : Enrolment) : Type 0 where
  pub failed : x.state ≡ Asked → end_entity_time_out x ≡ becomes x Failed
  pub unsettled : (x.state ≡ Confirming) ⊎ (x.state ≡ Declining) → end_entity_time_out x ≡ becomes x Unsettled
  pub else : (x.state ≡ Sure) ⊎ (x.state ≡ Declined) ⊎ (x.state ≡ Failed) ⊎ (x.state ≡ Unsettled) → end_entity_time_out x ≡ record { outcome = outcome.Refused 31 None; fault = no_fault; outgoing = None; enrolment = x }

-- "Start gives Asked", with the request as the message to be sent; 32: "kind not 0, 2, 4 or 7"
pub record StartRule (k : ℕ) (i : TransactionId) (n : FreshNonce) : Type 0 where
  pub asked : IsRequest k → (end_entity_start k i n).enrolment ≡ record { id = i; kind = k; last = ours n; taken = record { bytes = replicate 16 0 }; hash = record { bytes = replicate 32 0 }; state = Asked }
  pub sent : IsRequest k → (end_entity_start k i n).outgoing ≡ Some (record { kind = k; id = i; sender_nonce = ours n; has_recip_nonce = false; recip_nonce = record { bytes = replicate 16 0 }; contents = bare })
  pub done : IsRequest k → (end_entity_start k i n).outcome ≡ outcome.Done
  pub else : (IsRequest k → ⊥) → ((end_entity_start k i n).outcome ≡ outcome.Refused 32 None) × ((end_entity_start k i n).outgoing ≡ None)
