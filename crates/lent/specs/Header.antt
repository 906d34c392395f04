-- Demand 3 as the C header says it: premises and claim at its places in the lent bytes, nothing unpacked, and the calls by what they returned.
use Rattle.std.specs.Prelude.{ℕ, ◌<◌, List, [], ◌∷◌, true, false, ◌≡◌, ◌⊎◌, ◌≢◌, ◌↔◌, length, ltb, Ok, Err, Some, None}
use Rattle.std.proofs.Math.Option.{some}
use Rattle.std.proofs.Math.ListN.{get_elem?}
use Rattle.grammar.specs.declared.Message.{Message}
use Rattle.message.specs.Read.{reading_of}
use Rattle.message.specs.Types.{Reading}
use Rattle.protocol.specs.Table.{capacity}
use Rattle.protocol.specs.Run.{End, TheRegistrar, OneBoard}
use Rattle.protocol.specs.Agreement.{PartIs, HasPart, Fair}
use Rattle.packed.specs.Table.{table_bytes}
use Rattle.lent.specs.Calls.{RegistrarCall, RegistrarMessage, RegistrarIssue, RegistrarRefuse, RegistrarLapse, RegistrarClose, EndEntityCall, EndEntityMessage, EndEntityTimeOut, closing}
use Rattle.lent.specs.Lent.{LentCall, AtRegistrar, AtEndEntity, EndEntityStart, LentEnrolment, LentEvent, LentWorld, is_made, lent_after, lent_beginning, world_of}
use Rattle.lent.specs.Places.{transaction_id, transaction_board, transaction_sent, transaction_hash, transaction_state, enrolment_id, enrolment_hash, enrolment_state}
use Rattle.lent.specs.Places.{outgoing_kind, outgoing_id, outgoing_sender_nonce, outgoing_has_recip_nonce, outgoing_recip_nonce, outgoing_has_status, outgoing_status, outgoing_hash, outgoing_in, sends_in}

-- ## What was done

-- a call that was made is such
abbrev pub SomeMade : (LentEvent → Type 0) → List LentEvent → Type 0
SomeMade P [] = ⊥
SomeMade P (e ∷ past) = ((is_made e.code ≡ true) × P e) ⊎ SomeMade P past

-- at this end a call gave a message to be sent whose bytes are such
abbrev pub Sent : End → (List ℕ → Type 0) → List LentEvent → Type 0
Sent p P = SomeMade (λ e. (e.end ≡ p) × (sends_in e ≡ 1) × P (outgoing_in e))

-- a start with this id, a close for this id
abbrev pub IsStart : List ℕ → LentCall → Type 0
IsStart i (AtRegistrar c a) = ⊥
IsStart i (AtEndEntity k c a) = ⊥
IsStart i (EndEntityStart b s k j n a) = j ≡ i

abbrev pub IsClose : List ℕ → LentCall → Type 0
IsClose i (AtRegistrar c a) = closing c ≡ some i
IsClose i (AtEndEntity k c a) = ⊥
IsClose i (EndEntityStart b s k j n a) = ⊥

-- it was made and not refused: the number returned is below 2
abbrev pub Taken : LentEvent → Type 0
Taken e = ltb e.code 2 ≡ true

-- ## The premises

-- the message m, in these bytes, is what the bytes o say is to be sent
pub record CarriesBytes (bytes : List ℕ) (m : Message) (o : List ℕ) : Type 0 where
  -- "the same kind, id and nonces,": a recipNonce where the order has one
  pub kind : m.body.kind ≡ outgoing_kind o
  pub id : HasPart bytes m.header.transaction_id (outgoing_id o)
  pub sender_nonce : HasPart bytes m.header.sender_nonce (outgoing_sender_nonce o)
  pub recip_nonce : outgoing_has_recip_nonce o ≡ 1 → HasPart bytes m.header.recip_nonce (outgoing_recip_nonce o)
  -- "the same status where the order has one (in a certConf none counts as 0),"
  pub status :
      outgoing_has_status o ≡ 1
      → (m.body.kind ≡ 23) ⊎ (m.body.entries ≡ 1)
      → (m.body.entry.status ≡ Some (outgoing_status o))
      ⊎ ((m.body.kind ≡ 24) × (m.body.entry.status ≡ None) × (outgoing_status o ≡ 0))
  -- "and in a certConf the same hash."
  pub hash : m.body.kind ≡ 24 → m.body.entries ≡ 1 → PartIs bytes m.body.entry.cert_hash (outgoing_hash o)

-- nothing is asked of bytes that do not read
abbrev pub IssuedBytes : End → List ℕ → Reading → List LentEvent → Type 0
IssuedBytes p bytes (Err f) past = Unit {0}
IssuedBytes p bytes (Ok m) past = Sent p (CarriesBytes bytes m) past

-- "a good verdict is given only for messages the named sender issued": good is 1
abbrev pub GoodAtRegistrar : RegistrarCall → List LentEvent → Type 0
GoodAtRegistrar (RegistrarMessage bytes g b n) past = g ≡ 1 → IssuedBytes (OneBoard (record { 0 = b })) bytes (reading_of bytes) past
GoodAtRegistrar (RegistrarIssue i n h) past = Unit {0}
GoodAtRegistrar (RegistrarRefuse i n) past = Unit {0}
GoodAtRegistrar (RegistrarLapse i) past = Unit {0}
GoodAtRegistrar (RegistrarClose i) past = Unit {0}

abbrev pub GoodAtEndEntity : EndEntityCall → List LentEvent → Type 0
GoodAtEndEntity (EndEntityMessage bytes g a h n) past = g ≡ 1 → IssuedBytes TheRegistrar bytes (reading_of bytes) past
GoodAtEndEntity EndEntityTimeOut past = Unit {0}

abbrev pub GoodIssued : LentCall → List LentEvent → Type 0
GoodIssued (AtRegistrar c a) past = GoodAtRegistrar c past
GoodIssued (AtEndEntity k c a) past = GoodAtEndEntity c past
GoodIssued (EndEntityStart b s k i n a) past = Unit {0}

-- of one call that was made, after those of the list
pub record FairBytesEvent (e : LentEvent) (past : List LentEvent) : Type 0 where
  pub verdict : GoodIssued e.call past
  -- "no id or nonce is drawn twice": an id is drawn when a start takes it, a nonce when it is sent as senderNonce
  pub id : (i : List ℕ) → Taken e × IsStart i e.call → SomeMade (λ f. Taken f × IsStart i f.call) past → ⊥
  pub nonce : sends_in e ≡ 1 → (p : End) → Sent p (λ o. outgoing_sender_nonce (outgoing_in e) ≡ outgoing_sender_nonce o) past → ⊥

abbrev pub FairBytes : List LentEvent → Type 0
FairBytes [] = Unit {0}
FairBytes (e ∷ past) = (is_made e.code ≡ true → FairBytesEvent e past) × FairBytes past

-- ## The claim

-- a slot of the table has the enrolment's id, this response nonce, this state and the same hash
abbrev pub InSlot : (table enrolment nonce : List ℕ) → (state : ℕ) → Type 0
InSlot t s n k =
    (p : ℕ)
    × (p < capacity)
    × (transaction_id p t ≡ enrolment_id s)
    × (transaction_sent p t ≡ n)
    × (transaction_state p t ≡ k)
    × (transaction_hash p t ≡ enrolment_hash s)

-- "closed by the first close for the id, not refused, after the call that sent this nonce"
abbrev pub ClosedBytes : (id nonce : List ℕ) → List LentEvent → Type 0
ClosedBytes i n [] = ⊥
ClosedBytes i n (e ∷ past) = (Taken e × IsClose i e.call × Sent TheRegistrar (λ o. outgoing_sender_nonce o ≡ n) past) ⊎ ClosedBytes i n past

-- the bytes u and o say that the same is to be sent
pub record SameOutgoing (u o : List ℕ) : Type 0 where
  pub kind : outgoing_kind u ≡ outgoing_kind o
  pub id : outgoing_id u ≡ outgoing_id o
  pub sender_nonce : outgoing_sender_nonce u ≡ outgoing_sender_nonce o
  pub recip_nonce : outgoing_recip_nonce u ≡ outgoing_recip_nonce o
  pub status : outgoing_status u ≡ outgoing_status o
  pub hash : outgoing_hash u ≡ outgoing_hash o

-- "the board's certConf", for its enrolment: the board sent o
abbrev pub IsCertConf : LentEnrolment → (outgoing : List ℕ) → Type 0
IsCertConf e o = (outgoing_kind o ≡ 24) × (outgoing_id o ≡ enrolment_id e.bytes)

abbrev pub SentCertConf : LentWorld → LentEnrolment → (outgoing : List ℕ) → Type 0
SentCertConf w e o = Sent (OneBoard e.board) (λ u. (u ≡ o) × IsCertConf e u) w.past

-- it sent one; "the one whose response nonce the board's certConf carried as recipNonce" is closed, or in this state with the enrolment's hash
abbrev pub FoundBytes : LentWorld → LentEnrolment → (state : ℕ) → Type 0
FoundBytes w e k =
    (o : List ℕ)
    × SentCertConf w e o
    × ((u : List ℕ) → SentCertConf w e u → SameOutgoing u o)
    × (ClosedBytes (enrolment_id e.bytes) (outgoing_recip_nonce o) w.past ⊎ InSlot w.table e.bytes (outgoing_recip_nonce o) k)

-- at no point a slot with the id was Confirmed
abbrev pub NeverConfirmed : List ℕ → List LentEvent → Type 0
NeverConfirmed i [] = Unit {0}
NeverConfirmed i (e ∷ past) =
    (is_made e.code ≡ true → (p : ℕ) → p < capacity → transaction_id p e.table ≡ i → transaction_state p e.table ≡ 3 → ⊥)
    × NeverConfirmed i past

-- the enrolment of the transaction in this slot: of its board, the only one with its id
pub record EnrolmentOf (w : LentWorld) (p : ℕ) : Type 0 where
  pub place : ℕ
  pub held : LentEnrolment
  pub holds : get_elem? w.enrolments place ≡ some held
  pub board : held.board.0 ≡ transaction_board p w.table
  pub id : enrolment_id held.bytes ≡ transaction_id p w.table
  pub only : (k : ℕ) (e : LentEnrolment) → get_elem? w.enrolments k ≡ some e → enrolment_id e.bytes ≡ transaction_id p w.table → k ≡ place
  pub hash : enrolment_hash held.bytes ≡ transaction_hash p w.table
  pub says : (enrolment_state held.bytes ≡ 3) ⊎ (enrolment_state held.bytes ≡ 1) ⊎ (enrolment_state held.bytes ≡ 6)

-- "an end entity that is Sure has its transaction Confirmed with the same hash, one that is Declined has it Declined, until it is closed; where
-- a transaction is Confirmed, its end entity holds the same hash and is Sure, Confirming or Unsettled; one that Failed never had it so"
pub record HeaderAgreement (w : LentWorld) : Type 0 where
  -- the seven states of an enrolment: the rest is Confirming, Declining or Unsettled
  pub states : (k : ℕ) (e : LentEnrolment) → get_elem? w.enrolments k ≡ some e → enrolment_state e.bytes < 7
  pub sure : (k : ℕ) (e : LentEnrolment) → get_elem? w.enrolments k ≡ some e → enrolment_state e.bytes ≡ 3 → FoundBytes w e 3
  pub declined : (k : ℕ) (e : LentEnrolment) → get_elem? w.enrolments k ≡ some e → enrolment_state e.bytes ≡ 4 → FoundBytes w e 4
  pub confirmed : (p : ℕ) → p < capacity → transaction_state p w.table ≡ 3 → EnrolmentOf w p
  pub failed : (k : ℕ) (e : LentEnrolment) → get_elem? w.enrolments k ≡ some e → enrolment_state e.bytes ≡ 5 → NeverConfirmed (enrolment_id e.bytes) w.past
  -- "Asked or Failed with neither of these two at the desk"
  pub neither :
      (k : ℕ) (e : LentEnrolment) → get_elem? w.enrolments k ≡ some e
      → (enrolment_state e.bytes ≡ 0) ⊎ (enrolment_state e.bytes ≡ 5)
      → (p : ℕ) → p < capacity → transaction_id p w.table ≡ enrolment_id e.bytes
      → (transaction_state p w.table ≢ 3) × (transaction_state p w.table ≢ 4)

-- the table's bytes were handed to duskstall_registrar_empty; then any list of calls
abbrev pub HeaderDemand3 : Type 0
HeaderDemand3 =
    (s : List ℕ) → length s ≡ table_bytes → (calls : List LentCall)
    → FairBytes (lent_after (lent_beginning s) calls).past
    → HeaderAgreement (lent_after (lent_beginning s) calls)

-- what is supposed of the bytes is what demand 3 supposes of the calls that they stand for, no more and no less
abbrev pub SamePremise : Type 0
SamePremise = (s : List ℕ) (calls : List LentCall) → FairBytes (lent_after (lent_beginning s) calls).past ↔ Fair (world_of (lent_after (lent_beginning s) calls)).past
