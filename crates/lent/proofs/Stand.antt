-- Bytes that stand for a run's world: what they are, and what is read out of them.
use Rattle.std.specs.Prelude.{Some, is_some, None}
use Prim.Native.Nat.{ℕ, zero, suc}
use mathlib.Core.List.{List, [], ◌∷◌, ◌++◌}
use mathlib.Core.Bool.{Bool, true, false, cond}
use mathlib.Core.Option.{Option, none, some}
use mathlib.Core.Path.{◌≡◌, refl, sym, ◌∙◌, ap}
use borrow.Author.Tests.{eq-eqb}
use lib.ListN.{length, get_elem?, set}
use lib.Dec.{leb}
use Rattle.protocol.specs.Types.{ToSend}
use Rattle.protocol.specs.declared.TransactionTable.{TransactionTable}
use Rattle.protocol.specs.declared.Enrolment.{Enrolment}
use Rattle.protocol.specs.declared.Outcome.{Outcome}
use Rattle.protocol.specs.declared.Outcome.TheVariants.{Done, Again, Refused}
use Rattle.protocol.specs.declared.RegistrarAnswer.{RegistrarAnswer}
use Rattle.protocol.specs.declared.EndEntityAnswer.{EndEntityAnswer}
use Rattle.protocol.specs.Run.{World, BoardEnrolment, sent_by}
use Rattle.protocol.proofs.Tests.{true_false, some_some}
use Rattle.packed.specs.Bytes.{pack_at}
use Rattle.packed.specs.Outgoing.{OutgoingSized}
use Rattle.packed.specs.Answer.{sent_or_silent, outcome_number, registrar_answer_bytes, pack_registrar_answer, end_entity_answer_bytes, pack_end_entity_answer}
use Rattle.packed.specs.Table.{table_bytes, pack_table, unpack_table, table_held, pack_table_in, TableSized}
use Rattle.packed.specs.Enrolment.{enrolment_bytes, pack_enrolment, unpack_enrolment, enrolment_held, pack_enrolment_in, EnrolmentSized}
use Rattle.packed.proofs.AnswerInverse.{registrar_sends_back, registrar_outgoing_back, end_entity_sends_back, end_entity_outgoing_back}
use Rattle.packed.proofs.TableInverse as table_inverse
use Rattle.packed.proofs.EnrolmentInverse as enrolment_inverse
use Rattle.duskstall.specs.Boundary.{Crossing, boundary_fault, unless_faulty}
use Rattle.lent.specs.Lent.{LentEnrolment, LentWorld, is_made, registrar_sent, end_entity_sent, enrolments_of, EnrolmentsOk, TablesOk, events_of, world_of}

pub record Stand (e : LentEnrolment) (x : BoardEnrolment) : Type 0 where
  pub board : e.board ≡ x.board
  pub bytes : e.bytes ≡ pack_enrolment x.enrolment
  pub sized : EnrolmentSized x.enrolment

abbrev pub AllStand : List LentEnrolment → List BoardEnrolment → Type 0
AllStand [] [] = Unit {0}
AllStand [] (x ∷ xs) = ⊥
AllStand (e ∷ es) [] = ⊥
AllStand (e ∷ es) (x ∷ xs) = Stand e x × AllStand es xs

pub record Stands (l : LentWorld) (w : World) : Type 0 where
  pub table : l.table ≡ pack_table w.table
  pub sized : TableSized w.table
  pub enrolments : AllStand l.enrolments w.enrolments
  pub past : events_of l.past ≡ w.past
  pub tables : TablesOk l.past

-- ## One of the enrolments

abbrev pub BothStand : Option LentEnrolment → Option BoardEnrolment → Type 0
BothStand none none = Unit {0}
BothStand none (some x) = ⊥
BothStand (some e) none = ⊥
BothStand (some e) (some x) = Stand e x

pub stand_at : (es : List LentEnrolment) (xs : List BoardEnrolment) → AllStand es xs → (k : ℕ) → BothStand (get_elem? es k) (get_elem? xs k)
stand_at [] [] h k = tt
stand_at [] (x ∷ xs) h k = absurd h
stand_at (e ∷ es) [] h k = absurd h
stand_at (e ∷ es) (x ∷ xs) h zero = h.0
stand_at (e ∷ es) (x ∷ xs) h (suc k) = stand_at es xs h.1 k

pub stand_set : (es : List LentEnrolment) (xs : List BoardEnrolment) → AllStand es xs → (k : ℕ) (e : LentEnrolment) (x : BoardEnrolment) → Stand e x
    → AllStand (set es k e) (set xs k x)
stand_set [] [] h k e x s = tt
stand_set [] (y ∷ xs) h k e x s = absurd h
stand_set (d ∷ es) [] h k e x s = absurd h
stand_set (d ∷ es) (y ∷ xs) h zero e x s = (s, h.1)
stand_set (d ∷ es) (y ∷ xs) h (suc k) e x s = (h.0, stand_set es xs h.1 k e x s)

pub stand_add : (es : List LentEnrolment) (xs : List BoardEnrolment) → AllStand es xs → (e : LentEnrolment) (x : BoardEnrolment) → Stand e x
    → AllStand (es ++ (e ∷ [])) (xs ++ (x ∷ []))
stand_add [] [] h e x s = (s, tt)
stand_add [] (y ∷ xs) h e x s = absurd h
stand_add (d ∷ es) [] h e x s = absurd h
stand_add (d ∷ es) (y ∷ xs) h e x s = (h.0, stand_add es xs h.1 e x s)

-- bytes that a call left as they were
pub set_same : {A : Type 0} (es : List A) (k : ℕ) (e : A) → get_elem? es k ≡ some e → set es k e ≡ es
set_same [] k e h = refl
set_same (d ∷ es) zero e h = ap (λ a. a ∷ es) (sym (some_some h))
set_same (d ∷ es) (suc k) e h = ap (λ l. d ∷ l) (set_same es k e h)

-- ## A table, an enrolment, in bytes

pub is_table : (s : List ℕ) {t : TransactionTable} → unpack_table s ≡ Some t → is_some (unpack_table s) ≡ true
is_table s e = rw e refl

pub held_table : (s : List ℕ) {t : TransactionTable} → unpack_table s ≡ Some t → table_held s ≡ t
held_table s e = rw e refl

pub is_enrolment : (s : List ℕ) {x : Enrolment} → unpack_enrolment s ≡ Some x → is_some (unpack_enrolment s) ≡ true
is_enrolment s e = rw e refl

pub held_enrolment : (s : List ℕ) {x : Enrolment} → unpack_enrolment s ≡ Some x → enrolment_held s ≡ x
held_enrolment s e = rw e refl

pub table_read : {s : List ℕ} (t : TransactionTable) → TableSized t → s ≡ pack_table t → unpack_table s ≡ Some t
table_read t z e = ap unpack_table e ∙ table_inverse.unpack_packed t z

pub table_in_lem : (s : List ℕ) (t : TransactionTable) → is_some (unpack_table s) ≡ true → pack_table_in t s ≡ pack_table t
unfolding pack_table_in
table_in_lem s t h = rw (eq-eqb (length s) table_bytes (table_inverse.table_size s h))

pub enrolment_read : {s : List ℕ} (x : Enrolment) → EnrolmentSized x → s ≡ pack_enrolment x → unpack_enrolment s ≡ Some x
enrolment_read x z e = ap unpack_enrolment e ∙ enrolment_inverse.unpack_packed x z

pub enrolment_in_lem : (s : List ℕ) (x : Enrolment) → is_some (unpack_enrolment s) ≡ true → pack_enrolment_in x s ≡ pack_enrolment x
unfolding pack_enrolment_in
enrolment_in_lem s x h = rw (eq-eqb (length s) enrolment_bytes (enrolment_inverse.enrolment_size s h))

-- ## What is read out of the bytes

enrolments_ok : (es : List LentEnrolment) (xs : List BoardEnrolment) → AllStand es xs → EnrolmentsOk es
enrolments_ok [] [] h = tt
enrolments_ok [] (x ∷ xs) h = absurd h
enrolments_ok (e ∷ es) [] h = absurd h
enrolments_ok (e ∷ es) (x ∷ xs) h = (is_enrolment _ (enrolment_read x.enrolment h.0.sized h.0.bytes), enrolments_ok es xs h.1)

enrolments-back : (es : List LentEnrolment) (xs : List BoardEnrolment) → AllStand es xs → enrolments_of es ≡ xs
unfolding enrolments_of
enrolments-back [] [] h = refl
enrolments-back [] (x ∷ xs) h = absurd h
enrolments-back (e ∷ es) [] h = absurd h
enrolments-back (e ∷ es) (x ∷ xs) h = rw (h.0.board, enrolment_read x.enrolment h.0.sized h.0.bytes, enrolments-back es xs h.1)

module _ {l : LentWorld} {w : World} (s : Stands l w) where
  pub read_table : unpack_table l.table ≡ Some w.table
  read_table = table_read w.table s.sized s.table

  pub table_ok : is_some (unpack_table l.table) ≡ true
  table_ok = is_table _ read_table

  pub all_ok : EnrolmentsOk l.enrolments
  all_ok = enrolments_ok l.enrolments w.enrolments s.enrolments

  pub world_back : world_of l ≡ w
  world_back = rw (read_table, enrolments-back l.enrolments w.enrolments s.enrolments, s.past)

-- what holds of a call that is made, if it holds where nothing is at fault
pub made_of : (P : Crossing → Type 0) (o p r : Bool) (s b : List ℕ) (x : Crossing)
    → (o ≡ true → p ≡ true → r ≡ true → P x) → is_made (unless_faulty (boundary_fault o p r) s b x).code ≡ true → P (unless_faulty (boundary_fault o p r) s b x)
made_of P true true true s b x h m = h refl refl refl
made_of P true true false s b x h m = true_false (sym m)
made_of P true false r s b x h m = true_false (sym m)
made_of P false p r s b x h m = true_false (sym m)

-- a call that is done, repeated or refused was made
pub was_made : (o : Outcome) → is_made (outcome_number o) ≡ true
was_made Done = refl
was_made Again = refl
was_made (Refused n f) = refl

-- ## What is to be sent

sent_there : (o : ToSend) → cond (is_some o) (some (sent_or_silent o)) none ≡ sent_by o
sent_there (Some o) = refl
sent_there None = refl

pub registrar_sent_back : (a : RegistrarAnswer) (b : List ℕ) → OutgoingSized (sent_or_silent a.outgoing) → leb registrar_answer_bytes (length b) ≡ true
    → registrar_sent (pack_at 0 registrar_answer_bytes (pack_registrar_answer a) b) ≡ sent_by a.outgoing
unfolding registrar_sent
registrar_sent_back a b z r = rw (registrar_sends_back a b z r, registrar_outgoing_back a b z r, sent_there a.outgoing)

pub end_entity_sent_back : (a : EndEntityAnswer) (b : List ℕ) → OutgoingSized (sent_or_silent a.outgoing) → leb end_entity_answer_bytes (length b) ≡ true
    → end_entity_sent (pack_at 0 end_entity_answer_bytes (pack_end_entity_answer a) b) ≡ sent_by a.outgoing
unfolding end_entity_sent
end_entity_sent_back a b z r = rw (end_entity_sends_back a b z r, end_entity_outgoing_back a b z r, sent_there a.outgoing)
