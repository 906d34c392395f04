-- A list of exported calls over lent bytes, from the bytes of an empty table on; and what the bytes say.
use Rattle.std.specs.Prelude.{ℕ, List, [], ◌∷◌, ◌++◌, Bool, true, cond, ◌≡◌, length, drop, set, ltb, is_some}
use Rattle.std.proofs.Math.Option.{Option, none, some}
use Rattle.std.proofs.Math.ListN.{get_elem?}
use Rattle.protocol.specs.declared.Board.{Board}
use Rattle.protocol.specs.declared.TransactionId.{TransactionId}
use Rattle.protocol.specs.declared.Outcome.{Outcome}
use Rattle.protocol.specs.declared.Outgoing.{Outgoing}
use Rattle.protocol.specs.Table.{empty_table}
use Rattle.protocol.specs.Run.{Call, Start, End, TheRegistrar, OneBoard, NoEnd, Event, World, BoardEnrolment, unless_refused, run}
use Rattle.protocol.specs.Agreement.{Fair, Agreement}
use Rattle.packed.specs.Bytes.{flag_at}
use Rattle.packed.specs.Outgoing.{outgoing_of}
use Rattle.packed.specs.Answer.{outcome_of}
use Rattle.packed.specs.Table.{table_bytes, unpack_table, table_held, pack_table_in}
use Rattle.packed.specs.Enrolment.{unpack_enrolment, enrolment_held}
use Rattle.duskstall.specs.Boundary.{Crossing}
use Rattle.duskstall.specs.Calls.{id_of, fresh_of, end_entity_start_crossing}
use Rattle.lent.specs.HeaderPlaces.{registrar_sends_place, registrar_outgoing_place, end_entity_sends_place, end_entity_outgoing_place}
use Rattle.lent.specs.Calls.{RegistrarCall, EndEntityCall, registrar_crosses, end_entity_crosses, registrar_step, end_entity_step, closing}

-- ## Calls

-- with any bytes for the answer. The table, and the enrolment at a place in the order of the starts, are lent as the last call left them; a start
-- names its board and is lent bytes of its own
pub data LentCall : Type 0 where
  AtRegistrar : RegistrarCall → (answer : List ℕ) → LentCall
  AtEndEntity : (place : ℕ) → EndEntityCall → (answer : List ℕ) → LentCall
  EndEntityStart : Board → (enrolment : List ℕ) → (kind : ℕ) → (id nonce answer : List ℕ) → LentCall

-- the call on values that it stands for
abbrev pub call_of : LentCall → Call
call_of (AtRegistrar c a) = registrar_step c
call_of (AtEndEntity k c a) = end_entity_step k c
call_of (EndEntityStart b s k i n a) = Start b k (id_of i) (fresh_of n)

-- ## The world of bytes

pub record LentEnrolment : Type 0 where
  pub board : Board
  pub bytes : List ℕ

-- the call, its end, what it returned, the answer's bytes and the table's bytes after it
pub record LentEvent : Type 0 where
  pub call : LentCall
  pub end : End
  pub code : ℕ
  pub answer : List ℕ
  pub table : List ℕ

pub record LentWorld : Type 0 where
  pub table : List ℕ
  pub enrolments : List LentEnrolment
  pub past : List LentEvent

-- these bytes were handed to duskstall_registrar_empty
abbrev pub lent_beginning : List ℕ → LentWorld
lent_beginning s = record { table = pack_table_in empty_table s; enrolments = []; past = [] }

-- where no start made an enrolment, no bytes are lent
abbrev pub held_bytes : Option LentEnrolment → List ℕ
held_bytes none = []
held_bytes (some e) = e.bytes

-- what the call returns and leaves in the lent bytes
abbrev pub crossing : LentWorld → LentCall → Crossing
crossing w (AtRegistrar c a) = registrar_crosses c w.table a
crossing w (AtEndEntity k c a) = end_entity_crosses c (held_bytes (get_elem? w.enrolments k)) a
crossing w (EndEntityStart b s k i n a) = end_entity_start_crossing k i n s a

abbrev pub registrar_lent : LentWorld → LentCall → Crossing → LentWorld
registrar_lent w c x =
    record { table = x.state; enrolments = w.enrolments; past = record { call = c; end = TheRegistrar; code = x.code; answer = x.answer; table = x.state } ∷ w.past }

abbrev pub board_lent : LentWorld → LentCall → End → List LentEnrolment → Crossing → LentWorld
board_lent w c p es x = record { table = w.table; enrolments = es; past = record { call = c; end = p; code = x.code; answer = x.answer; table = w.table } ∷ w.past }

-- a start that is not refused adds its bytes
abbrev pub start_lent : LentWorld → LentCall → Board → Crossing → LentWorld
start_lent w c b x = board_lent w c (OneBoard b) (cond (ltb x.code 2) (w.enrolments ++ (record { board = b; bytes = x.state } ∷ [])) w.enrolments) x

abbrev pub enrolment_lent : LentWorld → LentCall → ℕ → Option LentEnrolment → Crossing → LentWorld
enrolment_lent w c k none x = board_lent w c NoEnd w.enrolments x
enrolment_lent w c k (some e) x = board_lent w c (OneBoard e.board) (set w.enrolments k (record { board = e.board; bytes = x.state })) x

unfoldable pub lent_step : LentWorld → LentCall → LentWorld
lent_step w (AtRegistrar c a) = registrar_lent w (AtRegistrar c a) (crossing w (AtRegistrar c a))
lent_step w (AtEndEntity k c a) = enrolment_lent w (AtEndEntity k c a) k (get_elem? w.enrolments k) (crossing w (AtEndEntity k c a))
lent_step w (EndEntityStart b s k i n a) = start_lent w (EndEntityStart b s k i n a) b (crossing w (EndEntityStart b s k i n a))

unfoldable pub lent_after : LentWorld → List LentCall → LentWorld
lent_after w [] = w
lent_after w (c ∷ cs) = lent_after (lent_step w c) cs

-- the calls on values of the list: those that were not answered 251, 252 or 253
abbrev pub is_made : ℕ → Bool
is_made code = ltb code 251

unfoldable pub made : LentWorld → List LentCall → List Call
made w [] = []
made w (c ∷ cs) = cond (is_made (crossing w c).code) (call_of c ∷ made (lent_step w c) cs) (made (lent_step w c) cs)

-- ## What the bytes say

-- what is to be sent: duskstall_registrar_outgoing, duskstall_end_entity_outgoing
unfoldable pub registrar_sent : List ℕ → Option Outgoing
registrar_sent s = cond (flag_at registrar_sends_place s) (some (outgoing_of (drop registrar_outgoing_place s))) none

unfoldable pub end_entity_sent : List ℕ → Option Outgoing
end_entity_sent s = cond (flag_at end_entity_sends_place s) (some (outgoing_of (drop end_entity_outgoing_place s))) none

abbrev pub sent_of : LentCall → List ℕ → Option Outgoing
sent_of (AtRegistrar c a) x = registrar_sent x
sent_of (AtEndEntity k c a) x = end_entity_sent x
sent_of (EndEntityStart b s k i n a) x = end_entity_sent x

-- the id that a start took, that a close freed
abbrev pub drawn_of : LentCall → List ℕ → Option TransactionId
drawn_of (AtRegistrar c a) x = none
drawn_of (AtEndEntity k c a) x = none
drawn_of (EndEntityStart b s k i n a) x = unless_refused (outcome_of x) (id_of i)

abbrev pub closed_by : Option (List ℕ) → Outcome → Option TransactionId
closed_by none o = none
closed_by (some i) o = unless_refused o (id_of i)

abbrev pub closed_of : LentCall → List ℕ → Option TransactionId
closed_of (AtRegistrar c a) x = closed_by (closing c) (outcome_of x)
closed_of (AtEndEntity k c a) x = none
closed_of (EndEntityStart b s k i n a) x = none

abbrev pub event_of : LentEvent → Event
event_of e =
    record {
      call = call_of e.call;
      end = e.end;
      sent = sent_of e.call e.answer;
      drawn = drawn_of e.call e.answer;
      closed = closed_of e.call e.answer;
      table = table_held e.table;
    }

unfoldable pub events_of : List LentEvent → List Event
events_of [] = []
events_of (e ∷ es) = cond (is_made e.code) (event_of e ∷ events_of es) (events_of es)

unfoldable pub enrolments_of : List LentEnrolment → List BoardEnrolment
enrolments_of [] = []
enrolments_of (e ∷ es) = record { board = e.board; enrolment = enrolment_held e.bytes } ∷ enrolments_of es

-- the table, the enrolments and the answers, read at their places
abbrev pub world_of : LentWorld → World
world_of w = record { table = table_held w.table; enrolments = enrolments_of w.enrolments; past = events_of w.past }

-- every enrolment's bytes are an enrolment
abbrev pub EnrolmentsOk : List LentEnrolment → Type 0
EnrolmentsOk [] = Unit {0}
EnrolmentsOk (e ∷ es) = (is_some (unpack_enrolment e.bytes) ≡ true) × EnrolmentsOk es

-- so are the table's after every call
abbrev pub TablesOk : List LentEvent → Type 0
TablesOk [] = Unit {0}
TablesOk (e ∷ es) = (is_some (unpack_table e.table) ≡ true) × TablesOk es

-- ## The theorems

-- a list of calls over lent bytes does what the calls among them that were made do on values
pub record StandsFor (s : List ℕ) (calls : List LentCall) : Type 0 where
  pub table : is_some (unpack_table (lent_after (lent_beginning s) calls).table) ≡ true
  pub enrolments : EnrolmentsOk (lent_after (lent_beginning s) calls).enrolments
  pub tables : TablesOk (lent_after (lent_beginning s) calls).past
  pub same : world_of (lent_after (lent_beginning s) calls) ≡ run (made (lent_beginning s) calls)

abbrev pub LentRuns : Type 0
LentRuns = (s : List ℕ) → length s ≡ table_bytes → (calls : List LentCall) → StandsFor s calls

-- demand 3, said of the lent bytes: premises and claim speak of what is read out of them
abbrev pub LentDemand3 : Type 0
LentDemand3 = (s : List ℕ) → length s ≡ table_bytes → (calls : List LentCall) → Fair (world_of (lent_after (lent_beginning s) calls)).past → Agreement (world_of (lent_after (lent_beginning s) calls))
