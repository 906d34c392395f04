-- Demand 3: what is supposed of a list of calls, and what then holds after it. Nothing here uses a test of the steps.
use Rattle.std.specs.Prelude.{ℕ, List, [], ◌∷◌, Bool, true, false, ◌≡◌, ◌⊎◌, ◌≢◌, take, drop, Ok, Err, Some, None}
use Rattle.std.proofs.Math.Option.{some}
use Rattle.std.proofs.Math.ListN.{get_elem?}
use Rattle.message.specs.Read.{reading_of}
use Rattle.grammar.specs.declared.Span.{Span}
use Rattle.grammar.specs.declared.Message.{Message}
use Rattle.message.specs.Types.{Reading}
use Rattle.protocol.specs.declared.TransactionId.{TransactionId}
use Rattle.protocol.specs.declared.Nonce.{Nonce}
use Rattle.protocol.specs.Types.{Verdict}
use Rattle.protocol.specs.declared.TransactionState.{TransactionState}
use Rattle.protocol.specs.declared.Transaction.{Transaction}
use Rattle.protocol.specs.declared.TransactionTable.{TransactionTable}
use Rattle.protocol.specs.declared.EnrolmentState.{EnrolmentState}
use Rattle.protocol.specs.declared.Outgoing.{Outgoing}
use Rattle.protocol.specs.declared.TransactionState.TheVariants as at_registrar
use Rattle.protocol.specs.declared.EnrolmentState.TheVariants.{Asked, Confirming, Declining, Sure, Declined, Failed, Unsettled}
use Rattle.protocol.specs.Run.{Event, End, Issue, Refuse, OneBoard, TheRegistrar, Call, Start, ToRegistrar, ToEndEntity, Lapse, Close, TimeOut, World, BoardEnrolment, run}

-- some event of the list is such
abbrev pub SomeEvent : (Event → Type 0) → List Event → Type 0
SomeEvent P [] = ⊥
SomeEvent P (e ∷ past) = P e ⊎ SomeEvent P past

-- ## "A message is issued when a call earlier in the list, at the end named, gave an order with"

abbrev pub Gave : End → Outgoing → Event → Type 0
Gave p o e = (e.end ≡ p) × (e.sent ≡ some o)

-- a call at this end gave this message to be sent
abbrev pub Issued : End → Outgoing → List Event → Type 0
Issued p o = SomeEvent (Gave p o)

-- the part has these bytes
abbrev pub PartIs : List ℕ → Span → List ℕ → Type 0
PartIs bytes s x = take s.len (drop s.start.0 bytes) ≡ x

-- the part is there, with these bytes
abbrev pub HasPart : List ℕ → Span → List ℕ → Type 0
HasPart bytes s x = (s.start.0 ≢ 0) × PartIs bytes s x

pub record Carries (bytes : List ℕ) (m : Message) (o : Outgoing) : Type 0 where
  -- "the same kind, id and nonces,": a recipNonce where the order has one
  pub kind : m.body.kind ≡ o.kind
  pub id : HasPart bytes m.header.transaction_id o.id.bytes
  pub sender_nonce : HasPart bytes m.header.sender_nonce o.sender_nonce.bytes
  pub recip_nonce : o.has_recip_nonce ≡ true → HasPart bytes m.header.recip_nonce o.recip_nonce.bytes
  -- "the same status where the order has one (in a certConf none counts as 0),": a message that is no error (23) has a status
  -- only where it has one entry
  pub status : o.contents.has_status ≡ true → (m.body.kind ≡ 23) ⊎ (m.body.entries ≡ 1) → (m.body.entry.status ≡ Some o.contents.status) ⊎ ((m.body.kind ≡ 24) × (m.body.entry.status ≡ None) × (o.contents.status ≡ 0))
  -- "and in a certConf the same hash."
  pub hash : m.body.kind ≡ 24 → m.body.entries ≡ 1 → PartIs bytes m.body.entry.cert_hash o.contents.hash.bytes

-- the bytes, as they read, are a message issued at the end; nothing is asked of bytes that do not read
abbrev pub IssuedReading : End → List ℕ → Reading → List Event → Type 0
IssuedReading p bytes (Err f) past = Unit {0}
IssuedReading p bytes (Ok m) past = (o : Outgoing) × Issued p o past × Carries bytes m o

abbrev pub IssuedMessage : End → List ℕ → List Event → Type 0
IssuedMessage p bytes past = IssuedReading p bytes (reading_of bytes) past

-- ## The premises: "Suppose a good verdict is given only for messages the named sender issued, and no id or nonce is drawn twice."

-- "a good verdict names the board whose key checked"
abbrev pub ByVerdict : Verdict → List ℕ → List Event → Type 0
ByVerdict None bytes past = Unit {0}
ByVerdict (Some b) bytes past = IssuedMessage (OneBoard b) bytes past

-- "A good verdict at a board names the desk."
abbrev pub ByGood : Bool → List ℕ → List Event → Type 0
ByGood false bytes past = Unit {0}
ByGood true bytes past = IssuedMessage TheRegistrar bytes past

abbrev pub SenderIssued : Call → List Event → Type 0
SenderIssued (Start b k i n) past = Unit {0}
SenderIssued (ToRegistrar bytes d) past = ByVerdict d.verdict bytes past
SenderIssued (ToEndEntity k bytes d) past = ByGood d.good bytes past
SenderIssued (Issue i h n) past = Unit {0}
SenderIssued (Refuse i n) past = Unit {0}
SenderIssued (Lapse i) past = Unit {0}
SenderIssued (Close i) past = Unit {0}
SenderIssued (TimeOut k) past = Unit {0}

-- of one event, after those of the list
pub record FairEvent (e : Event) (past : List Event) : Type 0 where
  pub verdict : SenderIssued e.call past
  -- "an id is drawn when a start takes it,"
  pub id : (i : TransactionId) → e.drawn ≡ some i → SomeEvent (λ f. f.drawn ≡ some i) past → ⊥
  -- "a nonce when an order carries it as senderNonce."
  pub nonce : (o : Outgoing) → e.sent ≡ some o → (p : End) (u : Outgoing) → Issued p u past → o.sender_nonce ≡ u.sender_nonce → ⊥

abbrev pub Fair : List Event → Type 0
Fair [] = Unit {0}
Fair (e ∷ past) = FairEvent e past × Fair past

-- ## What the claim speaks of

-- the enrolment at this place
abbrev pub Holds : World → ℕ → BoardEnrolment → Type 0
Holds w k x = get_elem? w.enrolments k ≡ some x

-- "A board record's record at the desk is the one with the same id": in some slot the registrar holds r, in use, with the id
abbrev pub RegistrarHolds : TransactionTable → TransactionId → Transaction → Type 0
RegistrarHolds t i r = (p : ℕ) × (get_elem? t.transactions p ≡ some r) × (r.state ≢ at_registrar.Free) × (r.id ≡ i)

abbrev pub SaysConfirmed : TransactionTable → TransactionId → Type 0
SaysConfirmed t i = (r : Transaction) × RegistrarHolds t i r × (r.state ≡ at_registrar.Confirmed)

-- "closed by the first close for the id, not refused, after the call that sent this nonce"
abbrev pub ClosedSince : TransactionId → Nonce → List Event → Type 0
ClosedSince i n [] = ⊥
ClosedSince i n (e ∷ past) = ((e.closed ≡ some i) × (o : Outgoing) × Issued TheRegistrar o past × (o.sender_nonce ≡ n)) ⊎ ClosedSince i n past

-- "the board's certConf" for its enrolment
pub record Confirmation (w : World) (x : BoardEnrolment) (o : Outgoing) : Type 0 where
  pub issued : Issued (OneBoard x.board) o w.past
  pub kind : o.kind ≡ 24
  pub id : o.id ≡ x.enrolment.id

-- "Sure and Declined speak of the one whose response nonce the board's certConf carried as recipNonce": the board sent one
-- certConf for its enrolment; the transaction it spoke of is closed, or it is there, in this state, with the enrolment's hash
abbrev pub FoundUntilClosed : World → BoardEnrolment → TransactionState → Type 0
FoundUntilClosed w x s =
    (o : Outgoing)
    × Confirmation w x o
    × ((u : Outgoing) → Confirmation w x u → u ≡ o)
    × (ClosedSince x.enrolment.id o.recip_nonce w.past
    ⊎ ((r : Transaction) × RegistrarHolds w.table x.enrolment.id r × (r.sent ≡ o.recip_nonce) × (r.state ≡ s) × (r.hash ≡ x.enrolment.hash)))

-- "Sure, Confirming or Unsettled"
abbrev pub MayBeSure : EnrolmentState → Type 0
MayBeSure s = (s ≡ Sure) ⊎ (s ≡ Confirming) ⊎ (s ≡ Unsettled)

-- "Asked or Failed with neither of these two at the desk"
abbrev pub Neither : World → BoardEnrolment → Type 0
Neither w x = (r : Transaction) → RegistrarHolds w.table x.enrolment.id r → (r.state ≢ at_registrar.Confirmed) × (r.state ≢ at_registrar.Declined)

-- "The ends agree when Sure stands with Confirmed, Declined with Declined, and Asked or Failed with neither"; the rest is between
abbrev pub AgreesOrBetween : World → BoardEnrolment → EnrolmentState → Type 0
AgreesOrBetween w x Asked = Neither w x
AgreesOrBetween w x Failed = Neither w x
AgreesOrBetween w x Sure = FoundUntilClosed w x at_registrar.Confirmed
AgreesOrBetween w x Declined = FoundUntilClosed w x at_registrar.Declined
AgreesOrBetween w x Confirming = Unit {0}
AgreesOrBetween w x Declining = Unit {0}
AgreesOrBetween w x Unsettled = Unit {0}

-- "that board": the board that the transaction's opening named has one enrolment with the id, no other board has one, and it
-- holds the same hash and says Sure, Confirming or Unsettled
pub record BoardOf (w : World) (i : TransactionId) (r : Transaction) : Type 0 where
  pub place : ℕ
  pub held : BoardEnrolment
  pub holds : Holds w place held
  pub board : held.board ≡ r.board
  pub id : held.enrolment.id ≡ i
  pub only : (k : ℕ) (y : BoardEnrolment) → Holds w k y → y.enrolment.id ≡ i → k ≡ place
  pub hash : held.enrolment.hash ≡ r.hash
  pub says : MayBeSure held.enrolment.state

-- ## The claim: "Then this holds after every such list."

pub record Agreement (w : World) : Type 0 where
  -- "A board that says Sure finds its record at the desk Confirmed with the same hash, [...] until the desk closes that record."
  pub sure : (k : ℕ) (x : BoardEnrolment) → Holds w k x → x.enrolment.state ≡ Sure → FoundUntilClosed w x at_registrar.Confirmed
  -- "and one that says Declined finds it Declined, until the desk closes that record."
  pub declined : (k : ℕ) (x : BoardEnrolment) → Holds w k x → x.enrolment.state ≡ Declined → FoundUntilClosed w x at_registrar.Declined
  -- "Whenever the desk says Confirmed, that board holds the same hash and says Sure, Confirming or Unsettled."
  pub confirmed : (i : TransactionId) (r : Transaction) → RegistrarHolds w.table i r → r.state ≡ at_registrar.Confirmed → BoardOf w i r
  -- "For a board that says Failed, the desk said Confirmed at no point of the list."
  pub failed : (k : ℕ) (x : BoardEnrolment) → Holds w k x → x.enrolment.state ≡ Failed → SomeEvent (λ e. SaysConfirmed e.table x.enrolment.id) w.past → ⊥
  -- "So until that closing the ends agree, or the board says Confirming, Declining or Unsettled."
  pub agree : (k : ℕ) (x : BoardEnrolment) → Holds w k x → AgreesOrBetween w x x.enrolment.state

-- "Take one desk with an empty book, and its boards with no record yet. Take any list of calls on them"
abbrev pub Demand3 : Type 0
Demand3 = (calls : List Call) → Fair (run calls).past → Agreement (run calls)
