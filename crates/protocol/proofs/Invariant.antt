-- The invariant of a list of fair calls, and what each call has to show of itself for the invariant to hold on.
use Prim.Native.Nat.{ℕ}
use mathlib.Core.List.{List}
use mathlib.Core.Bool.{true}
use mathlib.Core.Option.{Option, some}
use mathlib.Core.Path.{◌≡◌}
use mathlib.Core.Logic.{◌⊎◌}
use lib.ListN.{length, get_elem?}
use Rattle.protocol.specs.declared.Board.{Board}
use Rattle.protocol.specs.declared.TransactionId.{TransactionId}
use Rattle.protocol.specs.declared.Nonce.{Nonce}
use Rattle.protocol.specs.declared.Transaction.{Transaction}
use Rattle.protocol.specs.declared.TransactionTable.{TransactionTable}
use Rattle.protocol.specs.declared.Outgoing.{Outgoing}
use Rattle.protocol.specs.Message.{cert_conf, pki_conf}
use Rattle.protocol.specs.Table.{lookup}
use Rattle.protocol.specs.States.{settled_by, has_sent}
use Rattle.protocol.specs.Run.{BoardEnrolment, Event, OneBoard, TheRegistrar, World}
use Rattle.protocol.specs.Agreement.{Issued, ClosedSince, SomeEvent, SaysConfirmed}
use Rattle.protocol.proofs.EnrolmentStates.{stands_for, has_confirmed, is_answered}
use Rattle.protocol.proofs.Lookup.{Unique}

-- ## The facts that the clauses speak of

abbrev pub At : List BoardEnrolment → ℕ → BoardEnrolment → Type 0
At l k x = get_elem? l k ≡ some x

-- an enrolment that the certConf o of the board b came from
pub record Stands (l : List BoardEnrolment) (b : Board) (o : Outgoing) : Type 0 where
  pub place : ℕ
  pub held : BoardEnrolment
  pub holds : At l place held
  pub board : held.board ≡ b
  pub id : held.enrolment.id ≡ o.id
  pub last : held.enrolment.last ≡ o.sender_nonce
  pub hash : held.enrolment.hash ≡ o.contents.hash
  pub state : stands_for held.enrolment.state o.contents.status ≡ true
  pub rated : o.contents.has_status ≡ true
  pub answers : o.has_recip_nonce ≡ true

-- the certConf of status s that the enrolment sent
pub record Sent (past : List Event) (x : BoardEnrolment) (s : ℕ) : Type 0 where
  pub message : Outgoing
  pub issued : Issued (OneBoard x.board) message past
  pub kind : message.kind ≡ cert_conf
  pub id : message.id ≡ x.enrolment.id
  pub sender : message.sender_nonce ≡ x.enrolment.last
  pub hash : message.contents.hash ≡ x.enrolment.hash
  pub status : message.contents.status ≡ s

-- the pkiconf that the enrolment had
pub record Answered (past : List Event) (x : BoardEnrolment) : Type 0 where
  pub message : Outgoing
  pub issued : Issued TheRegistrar message past
  pub kind : message.kind ≡ pki_conf
  pub id : message.id ≡ x.enrolment.id
  pub recip : message.recip_nonce ≡ x.enrolment.last

-- the record at the registrar that the certConf o settled
pub record Settled (b : TransactionTable) (o : Outgoing) : Type 0 where
  pub found : Transaction
  pub holds : lookup b.transactions o.id ≡ some found
  pub sent : found.sent ≡ o.recip_nonce
  pub hash : found.hash ≡ o.contents.hash
  pub state : settled_by found.state o.contents.status ≡ true

-- the certConf that the pkiconf p answered
pub record Acknowledged (past : List Event) (p : Outgoing) : Type 0 where
  pub board : Board
  pub message : Outgoing
  pub issued : Issued (OneBoard board) message past
  pub kind : message.kind ≡ cert_conf
  pub sender : message.sender_nonce ≡ p.recip_nonce
  pub id : message.id ≡ p.id
  pub answers : p.has_recip_nonce ≡ true

-- the registrar sent this nonce
pub record SentNonce (past : List Event) (n : Nonce) : Type 0 where
  pub message : Outgoing
  pub issued : Issued TheRegistrar message past
  pub sender : message.sender_nonce ≡ n

-- the certConf of status s that settled the record
pub record SettledBy (past : List Event) (i : TransactionId) (r : Transaction) (s : ℕ) : Type 0 where
  pub message : Outgoing
  pub issued : Issued (OneBoard r.board) message past
  pub kind : message.kind ≡ cert_conf
  pub id : message.id ≡ i
  pub hash : message.contents.hash ≡ r.hash
  pub status : message.contents.status ≡ s

-- some board sent a certConf of status 0 for the id
pub record Accepted (past : List Event) (i : TransactionId) : Type 0 where
  pub board : Board
  pub message : Outgoing
  pub issued : Issued (OneBoard board) message past
  pub kind : message.kind ≡ cert_conf
  pub id : message.id ≡ i
  pub status : message.contents.status ≡ 0

-- ## The invariant

pub record Inv (w : World) : Type 0 where
  -- a certConf that a board issued stands in one of its records, with its id, nonce and hash, in a state that it led to
  pub stands : (b : Board) (o : Outgoing) → Issued (OneBoard b) o w.past → o.kind ≡ cert_conf → Stands w.enrolments b o
  -- an enrolment that says Confirming, Declining, Sure or Declined sent the certConf that belongs to it
  pub sent : (k : ℕ) (x : BoardEnrolment) (s : ℕ) → At w.enrolments k x → has_confirmed x.enrolment.state s ≡ true → Sent w.past x s
  -- an enrolment that says Sure or Declined had a pkiconf that the registrar issued for its last nonce
  pub answered : (k : ℕ) (x : BoardEnrolment) → At w.enrolments k x → is_answered x.enrolment.state ≡ true → Answered w.past x
  -- a pkiconf that the registrar issued answered a certConf that a board issued, whose transaction stands settled by it or is closed
  pub acknowledges : (p : Outgoing) → Issued TheRegistrar p w.past → p.kind ≡ pki_conf → (n : Acknowledged w.past p) × (ClosedSince n.message.id n.message.recip_nonce w.past ⊎ Settled w.table n.message)
  -- a transaction that sent its response sent it by an message
  pub responded : (i : TransactionId) (r : Transaction) → lookup w.table.transactions i ≡ some r → has_sent r.state ≡ true → SentNonce w.past r.sent
  -- a transaction that says Confirmed or Declined was settled by a certConf that its board issued
  pub settled : (i : TransactionId) (r : Transaction) (s : ℕ) → lookup w.table.transactions i ≡ some r → settled_by r.state s ≡ true → SettledBy w.past i r s
  -- where the registrar ever said Confirmed, a board had issued a certConf of status 0
  pub said : (i : TransactionId) → SomeEvent (λ e. SaysConfirmed e.table i) w.past → Accepted w.past i
  -- the id of an enrolment was drawn
  pub drawn : (k : ℕ) (x : BoardEnrolment) → At w.enrolments k x → SomeEvent (λ e. e.drawn ≡ some x.enrolment.id) w.past
  -- two enrolments have two ids
  pub distinct : (j k : ℕ) (x y : BoardEnrolment) → At w.enrolments j x → At w.enrolments k y → x.enrolment.id ≡ y.enrolment.id → j ≡ k
  -- no id stands twice in the table
  pub unique : Unique w.table.transactions

-- ## What a call shows

-- a call at the registrar: from the table b to b', with the message o, closing the id c
pub record RegistrarStep (past : List Event) (b b' : TransactionTable) (o : Option Outgoing) (c : Option TransactionId) : Type 0 where
  -- a settled record stays, or is closed
  pub stays : (i : TransactionId) (r : Transaction) (s : ℕ) → lookup b.transactions i ≡ some r → settled_by r.state s ≡ true → (lookup b'.transactions i ≡ some r) ⊎ (c ≡ some i)
  -- a pkiconf answers a certConf that its sender issued, and that settled the record
  pub acknowledges : (p : Outgoing) → o ≡ some p → p.kind ≡ pki_conf → (n : Acknowledged past p) × Settled b' n.message
  -- a response sent now, or before
  pub responded : (i : TransactionId) (r : Transaction) → lookup b'.transactions i ≡ some r → has_sent r.state ≡ true → ((q : Outgoing) × (o ≡ some q) × (q.sender_nonce ≡ r.sent)) ⊎ SentNonce past r.sent
  -- settled now, or before
  pub settled : (i : TransactionId) (r : Transaction) (s : ℕ) → lookup b'.transactions i ≡ some r → settled_by r.state s ≡ true → SettledBy past i r s
  pub unique : Unique b'.transactions

-- what an enrolment may not lose
pub record Kept (x y : BoardEnrolment) : Type 0 where
  pub board : y.board ≡ x.board
  pub id : y.enrolment.id ≡ x.enrolment.id
  pub stands : (s : ℕ) → stands_for x.enrolment.state s ≡ true → (y.enrolment.last ≡ x.enrolment.last) × (y.enrolment.hash ≡ x.enrolment.hash) × (stands_for y.enrolment.state s ≡ true)

-- a call at the board b: from the records l to l', with the message o, drawing the id d
pub record EndEntityStep (past : List Event) (l l' : List BoardEnrolment) (b : Board) (o : Option Outgoing) (d : Option TransactionId) : Type 0 where
  -- a record stays at its place
  pub stays : (k : ℕ) (x : BoardEnrolment) → At l k x → (y : BoardEnrolment) × At l' k y × Kept x y
  -- a certConf sent now stands in a record
  pub stands : (p : Outgoing) → o ≡ some p → p.kind ≡ cert_conf → Stands l' b p
  -- a certConf sent now, or before
  pub sent :
      (k : ℕ) (y : BoardEnrolment) (s : ℕ) → At l' k y → has_confirmed y.enrolment.state s ≡ true →
      ((y.board ≡ b) × (p : Outgoing) × (o ≡ some p) × (p.kind ≡ cert_conf) × (p.id ≡ y.enrolment.id) × (p.sender_nonce ≡ y.enrolment.last) × (p.contents.hash ≡ y.enrolment.hash) × (p.contents.status ≡ s)) ⊎ Sent past y s
  -- a pkiconf that the registrar issued
  pub answered : (k : ℕ) (y : BoardEnrolment) → At l' k y → is_answered y.enrolment.state ≡ true → Answered past y
  -- a record was there, or is the last one and has the id drawn
  pub comes : (k : ℕ) (y : BoardEnrolment) → At l' k y → ((x : BoardEnrolment) × At l k x × (x.enrolment.id ≡ y.enrolment.id)) ⊎ ((d ≡ some y.enrolment.id) × (k ≡ length l))
