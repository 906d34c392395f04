-- A call over lent bytes: where it is made, the bytes after it stand for the world after the call on values; else nothing is done.
use Rattle.std.specs.Prelude.{Some, is_some, unwrap_or}
use Prim.Native.Nat.{ℕ}
use mathlib.Core.List.{List}
use mathlib.Core.Bool.{Bool, true, false, cond}
use mathlib.Core.Option.{Option, none, some}
use mathlib.Core.Path.{◌≡◌, refl, sym, ap, subst}
use lib.ListN.{length, get_elem?}
use lib.Dec.{leb}
use Rattle.protocol.specs.declared.TransactionId.{TransactionId}
use Rattle.protocol.specs.declared.TransactionTable.{TransactionTable}
use Rattle.protocol.specs.declared.Enrolment.{Enrolment}
use Rattle.protocol.specs.declared.Outcome.{Outcome}
use Rattle.protocol.specs.declared.RegistrarAnswer.{RegistrarAnswer}
use Rattle.protocol.specs.declared.EndEntityAnswer.{EndEntityAnswer}
use Rattle.protocol.specs.Table.{empty_table}
use Rattle.protocol.specs.EndEntity.{no_enrolment}
use Rattle.protocol.specs.Run.{World, BoardEnrolment, registrar_did, enrolment_did}
use Rattle.packed.specs.Answer.{registrar_answer_bytes, end_entity_answer_bytes, outcome_of}
use Rattle.packed.specs.Enrolment.{unpack_enrolment, EnrolmentSized}
use Rattle.packed.proofs.AnswerInverse.{registrar_outcome_back}
use Rattle.duskstall.specs.Boundary.{Crossing, boundary_fault, unless_faulty, registrar_written, registrar_answered, registrar_crossing, end_entity_written, end_entity_answered, end_entity_crossing}
use Rattle.lent.specs.Lent.{LentCall, call_of, LentEnrolment, LentWorld, held_bytes, registrar_lent, enrolment_lent, is_made, sent_of, drawn_of, closed_of, events_of, registrar_sent, end_entity_sent}
use Rattle.lent.proofs.RegistrarSizes.{RegistrarSized}
use Rattle.lent.proofs.EndEntitySizes.{EndEntitySized}
use Rattle.lent.proofs.Stand.{is_table, is_enrolment, Stand, Stands, BothStand, stand_set, set_same, table_read, table_in_lem, enrolment_read, enrolment_in_lem, read_table, table_ok, was_made, registrar_sent_back, end_entity_sent_back}

module _ (l : LentWorld) (w : World) (st : Stands l w) where
  -- ## The registrar

  module _ (c : LentCall) (sent : (s : List ℕ) → sent_of c s ≡ registrar_sent s) (drawn : (s : List ℕ) → drawn_of c s ≡ none) (cl : Outcome → Option TransactionId) (closed : (s : List ℕ) → closed_of c s ≡ cl (outcome_of s)) where
    -- after the crossing x, where the registrar answered a
    abbrev After : RegistrarAnswer → Crossing → Type 0
    After a x = Stands (registrar_lent l c x) (cond (is_made x.code) (registrar_did w (call_of c) (cl a.outcome) a) w)

    module _ (a : RegistrarAnswer) (b : List ℕ) (z : RegistrarSized a) where
      written : leb registrar_answer_bytes (length b) ≡ true → After a (registrar_written a l.table b)
      unfolding events_of
      written r =
          rw (was_made a.outcome)
          (record {
            table = table_in_lem l.table a.table (table_ok st);
            sized = z.table;
            enrolments = st.enrolments;
            past = rw (was_made a.outcome, sent, drawn, closed, registrar_sent_back a b z.outgoing r, registrar_outcome_back a b z.outgoing r z.outcome, table_read a.table z.table (table_in_lem l.table a.table (table_ok st)), st.past);
            tables = (is_table _ (table_read a.table z.table (table_in_lem l.table a.table (table_ok st))), st.tables);
          })

      at : (p r : Bool) → leb registrar_answer_bytes (length b) ≡ r → After a (unless_faulty (boundary_fault true p r) l.table b (registrar_written a l.table b))
      unfolding events_of
      at false r h = record { table = st.table; sized = st.sized; enrolments = st.enrolments; past = st.past; tables = (table_ok st, st.tables) }
      at true false h = record { table = st.table; sized = st.sized; enrolments = st.enrolments; past = st.past; tables = (table_ok st, st.tables) }
      at true true h = written h

      answered : (p : Bool) → After a (registrar_answered true p a l.table b)
      unfolding registrar_answered
      answered p = at p (leb registrar_answer_bytes (length b)) refl

    pub registrar_step_lem : (p : Bool) (f : TransactionTable → RegistrarAnswer) (b : List ℕ) → RegistrarSized (f w.table)
        → After (f w.table) (registrar_crossing p f l.table b)
    registrar_step_lem p f b z =
        subst (After (f w.table)) (ap (λ u. registrar_answered (is_some u) p (f (unwrap_or u empty_table)) l.table b) (sym (read_table st))) (answered (f w.table) b z p)

  -- ## An end entity

  module _ (c : LentCall) (sent : (s : List ℕ) → sent_of c s ≡ end_entity_sent s) (drawn : (s : List ℕ) → drawn_of c s ≡ none) (closed : (s : List ℕ) → closed_of c s ≡ none) (k : ℕ) (f : Enrolment → EndEntityAnswer) where
    abbrev AfterBoard : Option LentEnrolment → Option BoardEnrolment → Crossing → Type 0
    AfterBoard e x y = Stands (enrolment_lent l c k e y) (cond (is_made y.code) (enrolment_did w (call_of c) k x f) w)

    module _ (e : LentEnrolment) (x : BoardEnrolment) (s : Stand e x) (h : get_elem? l.enrolments k ≡ some e) (b : List ℕ) (z : EndEntitySized (f x.enrolment)) where
      abbrev a : EndEntityAnswer
      a = f x.enrolment

      read_it : unpack_enrolment e.bytes ≡ Some x.enrolment
      read_it = enrolment_read x.enrolment s.sized s.bytes

      ok_it : is_some (unpack_enrolment e.bytes) ≡ true
      ok_it = is_enrolment _ read_it

      board-written : leb end_entity_answer_bytes (length b) ≡ true → AfterBoard (some e) (some x) (end_entity_written a e.bytes b)
      unfolding events_of
      board-written r =
          rw (was_made a.outcome)
          (record {
            table = st.table;
            sized = st.sized;
            enrolments = stand_set l.enrolments w.enrolments st.enrolments k _ _ (record { board = s.board; bytes = enrolment_in_lem e.bytes a.enrolment ok_it; sized = z.enrolment });
            past = rw (was_made a.outcome, sent, drawn, closed, end_entity_sent_back a b z.outgoing r, read_table st, s.board, st.past);
            tables = (table_ok st, st.tables);
          })

      -- nothing is done
      board-left : (n : ℕ) → is_made n ≡ false → AfterBoard (some e) (some x) (record { code = n; state = e.bytes; answer = b })
      unfolding events_of
      board-left n q = rw (q, set_same l.enrolments k e h) (record { table = st.table; sized = st.sized; enrolments = st.enrolments; past = rw q st.past; tables = (table_ok st, st.tables) })

      board-at : (p r : Bool) → leb end_entity_answer_bytes (length b) ≡ r
          → AfterBoard (some e) (some x) (unless_faulty (boundary_fault true p r) e.bytes b (end_entity_written a e.bytes b))
      board-at false r h = board-left 252 refl
      board-at true false h = board-left 253 refl
      board-at true true h = board-written h

      board-answered : (p : Bool) → AfterBoard (some e) (some x) (end_entity_answered true p a e.bytes b)
      unfolding end_entity_answered
      board-answered p = board-at p (leb end_entity_answer_bytes (length b)) refl

      board_crossed : (p : Bool) → AfterBoard (some e) (some x) (end_entity_crossing p f e.bytes b)
      board_crossed p = subst (AfterBoard (some e) (some x)) (ap (λ u. end_entity_answered (is_some u) p (f (unwrap_or u no_enrolment)) e.bytes b) (sym read_it)) (board-answered p)

    pub enrolment-step : (e : Option LentEnrolment) (x : Option BoardEnrolment) → get_elem? l.enrolments k ≡ e → BothStand e x
        → ((y : Enrolment) → EnrolmentSized y → EndEntitySized (f y)) → (p : Bool) (b : List ℕ) → AfterBoard e x (end_entity_crossing p f (held_bytes e) b)
    unfolding events_of end_entity_answered unpack_enrolment
    enrolment-step none none h s z p b = record { table = st.table; sized = st.sized; enrolments = st.enrolments; past = st.past; tables = (table_ok st, st.tables) }
    enrolment-step none (some x) h s z p b = absurd s
    enrolment-step (some e) none h s z p b = absurd s
    enrolment-step (some e) (some x) h s z p b = board_crossed e x s h b (z x.enrolment s.sized) p
