-- A start over lent bytes.
use Prim.Native.Nat.{ℕ}
use mathlib.Core.List.{List}
use mathlib.Core.Bool.{Bool, true, false, cond}
use mathlib.Core.Path.{◌≡◌, refl}
use lib.ListN.{length}
use lib.Dec.{eqb, leb}
use Rattle.protocol.specs.declared.Board.{Board}
use Rattle.protocol.specs.Types.{FailureInfo, ToSend}
use Rattle.protocol.specs.declared.EndEntityAnswer.{EndEntityAnswer}
use Rattle.message.specs.declared.ReadFault.{ReadFault}
use Rattle.protocol.specs.declared.Outgoing.{Outgoing}
use Rattle.protocol.specs.declared.Enrolment.{Enrolment}
use Rattle.protocol.specs.declared.Outcome.{Outcome}
use Rattle.protocol.specs.declared.Outcome.TheVariants.{Done, Refused}
use Rattle.protocol.specs.Message.{is_starting_kind}
use Rattle.protocol.specs.EndEntity.{end_entity_start}
use Rattle.protocol.specs.Run.{World, start_did, unless_refused}
use Rattle.protocol.proofs.Tests.{cases}
use Rattle.packed.specs.Answer.{end_entity_answer_bytes}
use Rattle.packed.specs.Enrolment.{enrolment_bytes, pack_enrolment_in}
use Rattle.packed.proofs.AnswerInverse.{end_entity_outcome_back}
use Rattle.duskstall.specs.Boundary.{Crossing, boundary_fault, unless_faulty, start_written, start_crossing}
use Rattle.duskstall.specs.Calls.{id_of, fresh_of}
use Rattle.lent.specs.Lent.{LentCall, EndEntityStart, call_of, LentWorld, start_lent, is_made, events_of}
use Rattle.lent.proofs.Sizes.{sixteen_in}
use Rattle.lent.proofs.EndEntitySizes.{EndEntitySized, start_sized}
use Rattle.lent.proofs.Stand.{Stands, stand_add, read_table, table_ok, end_entity_sent_back}

module _ (l : LentWorld) (w : World) (st : Stands l w) (d : Board) (s : List ℕ) (k : ℕ) (i n b : List ℕ) where
  abbrev c : LentCall
  c = EndEntityStart d s k i n b

  abbrev After : EndEntityAnswer → Crossing → Type 0
  After a x = Stands (start_lent l c d x) (cond (is_made x.code) (start_did w (call_of c) d a (unless_refused a.outcome (id_of i))) w)

  -- an answer whose outcome is not a variable
  abbrev with : Outcome → ReadFault → ToSend → Enrolment → EndEntityAnswer
  with o f g y = record { outcome = o; fault = f; outgoing = g; enrolment = y }

  module _ (f : ReadFault) (g : ToSend) (y : Enrolment) where
    done : EndEntitySized (with Done f g y) → eqb (length s) enrolment_bytes ≡ true → leb end_entity_answer_bytes (length b) ≡ true
        → After (with Done f g y) (start_written (with Done f g y) s b)
    unfolding events_of pack_enrolment_in
    done z o r =
        record {
          table = st.table;
          sized = st.sized;
          enrolments = stand_add l.enrolments w.enrolments st.enrolments _ _ (record { board = refl; bytes = rw o; sized = z.enrolment });
          past = rw (end_entity_sent_back (with Done f g y) b z.outgoing r, end_entity_outcome_back (with Done f g y) b z.outgoing r z.outcome, read_table st, st.past);
          tables = (table_ok st, st.tables);
        }

    refused : (m : ℕ) (q : FailureInfo) → EndEntitySized (with (Refused m q) f g y) → leb end_entity_answer_bytes (length b) ≡ true
        → After (with (Refused m q) f g y) (start_written (with (Refused m q) f g y) s b)
    unfolding events_of
    refused m q z r =
        record {
          table = st.table;
          sized = st.sized;
          enrolments = st.enrolments;
          past = rw (end_entity_sent_back (with (Refused m q) f g y) b z.outgoing r, end_entity_outcome_back (with (Refused m q) f g y) b z.outgoing r z.outcome, read_table st, st.past);
          tables = (table_ok st, st.tables);
        }

  module _ (a : EndEntityAnswer) where
    at : (o p r : Bool) → (o ≡ true → r ≡ true → After a (start_written a s b)) → After a (unless_faulty (boundary_fault o p r) s b (start_written a s b))
    unfolding events_of
    at false p r h = record { table = st.table; sized = st.sized; enrolments = st.enrolments; past = st.past; tables = (table_ok st, st.tables) }
    at true false r h = record { table = st.table; sized = st.sized; enrolments = st.enrolments; past = st.past; tables = (table_ok st, st.tables) }
    at true true false h = record { table = st.table; sized = st.sized; enrolments = st.enrolments; past = st.past; tables = (table_ok st, st.tables) }
    at true true true h = h refl refl

  crossed : (a : EndEntityAnswer) → EndEntitySized a → (p : Bool)
      → (eqb (length s) enrolment_bytes ≡ true → leb end_entity_answer_bytes (length b) ≡ true → After a (start_written a s b))
      → After a (start_crossing p a s b)
  unfolding start_crossing
  crossed a z p h = at a (eqb (length s) enrolment_bytes) p (leb end_entity_answer_bytes (length b)) h

  pub start-step : (p : Bool) → After (end_entity_start k (id_of i) (fresh_of n)) (start_crossing p (end_entity_start k (id_of i) (fresh_of n)) s b)
  unfolding end_entity_start
  start-step p =
      cases (λ (a : EndEntityAnswer). EndEntitySized a → After a (start_crossing p a s b)) (is_starting_kind k) _ _
      (λ _ z. crossed _ z p (done _ _ _ z))
      (λ _ z. crossed _ z p (λ _. refused _ _ _ _ _ z))
      (start_sized k (id_of i) (fresh_of n) (sixteen_in i) (sixteen_in n))
