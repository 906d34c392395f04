-- A list of calls on one registrar and its boards, from the beginning on, and what each call did.
use Rattle.std.specs.Prelude.{ℕ, List, [], ◌∷◌, ◌++◌, Bool, true, false, set, Some, None}
use Rattle.std.proofs.Math.Option.{Option, none, some}
use Rattle.std.proofs.Math.ListN.{get_elem?}
use Rattle.protocol.specs.Types.{ToSend}
use Rattle.protocol.specs.declared.Board.{Board}
use Rattle.protocol.specs.declared.TransactionId.{TransactionId}
use Rattle.protocol.specs.declared.FreshNonce.{FreshNonce}
use Rattle.protocol.specs.declared.Hash.{Hash}
use Rattle.protocol.specs.declared.RegistrarInput.{RegistrarInput}
use Rattle.protocol.specs.declared.EndEntityInput.{EndEntityInput}
use Rattle.protocol.specs.declared.TransactionTable.{TransactionTable}
use Rattle.protocol.specs.declared.Enrolment.{Enrolment}
use Rattle.protocol.specs.declared.Outgoing.{Outgoing}
use Rattle.protocol.specs.declared.Outcome.{Outcome}
use Rattle.protocol.specs.declared.RegistrarAnswer.{RegistrarAnswer}
use Rattle.protocol.specs.declared.EndEntityAnswer.{EndEntityAnswer}
use Rattle.protocol.specs.declared.Outcome.TheVariants.{Done, Again, Refused}
use Rattle.protocol.specs.Table.{empty_table}
use Rattle.protocol.specs.Registrar.{registrar_message, registrar_issue, registrar_refuse, registrar_lapse, registrar_close}
use Rattle.protocol.specs.EndEntity.{end_entity_start, end_entity_message, end_entity_time_out}

-- "In the list stand, in any order and number: board starts, each naming its board; message steps of desk and boards, with
-- any bytes, any verdict and whatever else the host hands in; the desk's host steps (issue, refuse, lapse, close); the boards'
-- time outs; refused ones as well." A call on an enrolment names it by its place in the order of the starts.
pub data Call : Type 0 where
  Start : Board → (kind : ℕ) → TransactionId → FreshNonce → Call
  ToRegistrar : (bytes : List ℕ) → RegistrarInput → Call
  ToEndEntity : (place : ℕ) → (bytes : List ℕ) → EndEntityInput → Call
  Issue : TransactionId → Hash → FreshNonce → Call
  Refuse : TransactionId → FreshNonce → Call
  Lapse : TransactionId → Call
  Close : TransactionId → Call
  TimeOut : (place : ℕ) → Call

-- the end that a call is made at: none, where it names an enrolment that there is not
pub data End : Type 0 where
  TheRegistrar : End
  OneBoard : Board → End
  NoEnd : End

-- an enrolment, and the board whose start began it
pub record BoardEnrolment : Type 0 where
  pub board : Board
  pub enrolment : Enrolment

-- what a call did: the call; its end; the message it gave to be sent; the id that a start took; the id that a close freed;
-- and the table after it
pub record Event : Type 0 where
  pub call : Call
  pub end : End
  pub sent : Option Outgoing
  pub drawn : Option TransactionId
  pub closed : Option TransactionId
  pub table : TransactionTable

-- the table, the enrolments in the order of their starts, and what was done, the last first
pub record World : Type 0 where
  pub table : TransactionTable
  pub enrolments : List BoardEnrolment
  pub past : List Event

-- "At first the book is the empty one and there are no board records."
abbrev pub beginning : World
beginning = record { table = empty_table; enrolments = []; past = [] }

abbrev pub sent_by : ToSend → Option Outgoing
sent_by (Some o) = some o
sent_by None = none

abbrev pub unless_refused : Outcome → TransactionId → Option TransactionId
unless_refused Done i = some i
unless_refused Again i = some i
unless_refused (Refused k b) i = none

-- the registrar answered
abbrev pub registrar_did : World → Call → Option TransactionId → RegistrarAnswer → World
registrar_did w c closed a =
    record {
      table = a.table;
      enrolments = w.enrolments;
      past = record { call = c; end = TheRegistrar; sent = sent_by a.outgoing; drawn = none; closed = closed; table = a.table } ∷ w.past;
    }

-- a board answered: these are the enrolments now, and a start took this id
abbrev pub board_did : World → Call → Board → Option TransactionId → List BoardEnrolment → EndEntityAnswer → World
board_did w c b drawn enrolments a =
    record {
      table = w.table;
      enrolments = enrolments;
      past = record { call = c; end = OneBoard b; sent = sent_by a.outgoing; drawn = drawn; closed = none; table = w.table } ∷ w.past;
    }

-- "A start that isn't refused adds a record of its board, with the id it was given."
abbrev pub start_did : World → Call → Board → EndEntityAnswer → Option TransactionId → World
start_did w c b a none = board_did w c b none w.enrolments a
start_did w c b a (some i) = board_did w c b (some i) (w.enrolments ++ (record { board = b; enrolment = a.enrolment } ∷ [])) a

-- "Every other call gets the book, or the board record it names, as the last call on it returned it." Where no enrolment
-- has the place, nothing is done, at no end.
abbrev pub enrolment_did : World → Call → ℕ → Option BoardEnrolment → (Enrolment → EndEntityAnswer) → World
enrolment_did w c k none f =
    record {
      table = w.table;
      enrolments = w.enrolments;
      past = record { call = c; end = NoEnd; sent = none; drawn = none; closed = none; table = w.table } ∷ w.past;
    }
enrolment_did w c k (some x) f =
    board_did w c x.board none (set w.enrolments k (record { board = x.board; enrolment = (f x.enrolment).enrolment })) (f x.enrolment)

unfoldable pub step : World → Call → World
step w (Start b k i n) = let a : EndEntityAnswer = end_entity_start k i n in start_did w (Start b k i n) b a (unless_refused a.outcome i)
step w (ToRegistrar bytes d) = registrar_did w (ToRegistrar bytes d) none (registrar_message w.table d bytes)
step w (ToEndEntity k bytes d) = enrolment_did w (ToEndEntity k bytes d) k (get_elem? w.enrolments k) (λ x. end_entity_message x d bytes)
step w (Issue i h n) = registrar_did w (Issue i h n) none (registrar_issue w.table i n h)
step w (Refuse i n) = registrar_did w (Refuse i n) none (registrar_refuse w.table i n)
step w (Lapse i) = registrar_did w (Lapse i) none (registrar_lapse w.table i)
step w (Close i) = let a : RegistrarAnswer = registrar_close w.table i in registrar_did w (Close i) (unless_refused a.outcome i) a
step w (TimeOut k) = enrolment_did w (TimeOut k) k (get_elem? w.enrolments k) end_entity_time_out

-- the calls of a list, one after the other
unfoldable pub after : World → List Call → World
after w [] = w
after w (c ∷ cs) = after (step w c) cs

abbrev pub run : List Call → World
run cs = after beginning cs
