-- What a call that was made returned stands in its answer's first byte, and the ids that it was handed have their length.
use Rattle.std.specs.Prelude.{is_some}
use Prim.Native.Nat.{ℕ}
use mathlib.Core.List.{List, [], ◌∷◌}
use mathlib.Core.Bool.{Bool, true, ◌&&◌}
use mathlib.Core.Option.{Option, none, some}
use mathlib.Core.Path.{◌≡◌, refl, sym, ◌∙◌, ap, subst}
use lib.ListN.{length, get_or, get_elem?}
use lib.Dec.{eqb, leb}
use Rattle.der.proofs.Auto.{and_left}
use Rattle.protocol.specs.declared.TransactionTable.{TransactionTable}
use Rattle.protocol.specs.declared.Enrolment.{Enrolment}
use Rattle.protocol.specs.declared.RegistrarAnswer.{RegistrarAnswer}
use Rattle.protocol.specs.declared.EndEntityAnswer.{EndEntityAnswer}
use Rattle.protocol.specs.EndEntity.{end_entity_start}
use Rattle.packed.specs.Arrays.{unpack}
use Rattle.packed.specs.Places.{answer_code_at}
use Rattle.packed.specs.Answer.{registrar_answer_bytes, end_entity_answer_bytes}
use Rattle.packed.specs.Table.{unpack_table, table_held, TableSized}
use Rattle.packed.specs.Enrolment.{enrolment_bytes, unpack_enrolment, enrolment_held, EnrolmentSized}
use Rattle.packed.proofs.AnswerInverse.{registrar_code_at, end_entity_code_at}
use Rattle.packed.proofs.TableInverse.{table_sized}
use Rattle.packed.proofs.EnrolmentInverse.{enrolment_sized}
use Rattle.duskstall.specs.Boundary.{Crossing, registrar_written, registrar_answered, registrar_crossing, end_entity_written, end_entity_answered, end_entity_crossing, start_written, start_crossing}
use Rattle.duskstall.specs.Calls.{id_of, fresh_of}
use Rattle.lent.specs.Calls.{registrar_crosses, registrar_answers, closing, end_entity_crosses, end_entity_answers}
use Rattle.lent.specs.Lent.{LentCall, AtRegistrar, AtEndEntity, EndEntityStart, LentEnrolment, LentEvent, LentWorld, held_bytes, crossing, is_made, lent_step, lent_after, enrolment_lent}
use Rattle.lent.proofs.Sizes.{sixteen_in}
use Rattle.lent.proofs.RegistrarSizes.{RegistrarSized}
use Rattle.lent.proofs.EndEntitySizes.{EndEntitySized, start_sized}
use Rattle.lent.proofs.Forms.{length_16, RegistrarForm, registrar_form, EndEntityForm, end_entity_form}
use Rattle.lent.proofs.Stand.{made_of}

-- ## A crossing that was made, where p says that what was handed in has its lengths

record Plain (p : Bool) (x : Crossing) : Type 0 where
  code : get_or x.answer answer_code_at 0 ≡ x.code
  args : p ≡ true

registrar_plain : (p : Bool) (f : TransactionTable → RegistrarAnswer) (s b : List ℕ) → ((t : TransactionTable) → TableSized t → RegistrarSized (f t))
    → is_made (registrar_crossing p f s b).code ≡ true → Plain p (registrar_crossing p f s b)
unfolding registrar_answered
registrar_plain p f s b sized =
    let a : RegistrarAnswer = f (table_held s) in
    made_of (Plain p) (is_some (unpack_table s)) p (leb registrar_answer_bytes (length b)) s b (registrar_written a s b) (λ o q r. record { code = registrar_code_at a b (sized (table_held s) (table_sized s o)).outgoing r; args = q })

board-plain : (p : Bool) (f : Enrolment → EndEntityAnswer) (s b : List ℕ) → ((x : Enrolment) → EnrolmentSized x → EndEntitySized (f x))
    → is_made (end_entity_crossing p f s b).code ≡ true → Plain p (end_entity_crossing p f s b)
unfolding end_entity_answered
board-plain p f s b sized =
    let a : EndEntityAnswer = f (enrolment_held s) in
    made_of (Plain p) (is_some (unpack_enrolment s)) p (leb end_entity_answer_bytes (length b)) s b (end_entity_written a s b) (λ o q r. record { code = end_entity_code_at a b (sized (enrolment_held s) (enrolment_sized s o)).outgoing r; args = q })

start_plain : (p : Bool) (a : EndEntityAnswer) (s b : List ℕ) → EndEntitySized a → is_made (start_crossing p a s b).code ≡ true → Plain p (start_crossing p a s b)
unfolding start_crossing
start_plain p a s b z = made_of (Plain p) (eqb (length s) enrolment_bytes) p (leb end_entity_answer_bytes (length b)) s b (start_written a s b) (λ _ q r. record { code = end_entity_code_at a b z.outgoing r; args = q })

-- ## Every call

-- the id of a start or of a close
abbrev pub IdSized : LentCall → Type 0
IdSized (AtRegistrar c a) = (i : List ℕ) → closing c ≡ some i → length i ≡ 16
IdSized (AtEndEntity k c a) = Unit {0}
IdSized (EndEntityStart b s k i n a) = length i ≡ 16

pub record PlainEvent (e : LentEvent) : Type 0 where
  pub code : get_or e.answer answer_code_at 0 ≡ e.code
  pub id : IdSized e.call

plain : (w : LentWorld) (c : LentCall) → is_made (crossing w c).code ≡ true → (get_or (crossing w c).answer answer_code_at 0 ≡ (crossing w c).code) × IdSized c
plain w (AtRegistrar c b) m =
    let f : RegistrarForm c = registrar_form c in
    let e : registrar_crosses c w.table b ≡ registrar_crossing f.args (registrar_answers c) w.table b = f.crosses w.table b in
    let h : Plain f.args (registrar_crosses c w.table b) = subst (Plain f.args) (sym e) (registrar_plain f.args (registrar_answers c) w.table b f.sized (subst (λ (x : Crossing). is_made x.code ≡ true) e m)) in
    (h.code, λ i q. f.closes i q h.args)
plain w (AtEndEntity k c b) m =
    let f : EndEntityForm c = end_entity_form c in
    let s : List ℕ = held_bytes (get_elem? w.enrolments k) in
    let e : end_entity_crosses c s b ≡ end_entity_crossing f.args (end_entity_answers c) s b = f.crosses s b in
    let h : Plain f.args (end_entity_crosses c s b) = subst (Plain f.args) (sym e) (board-plain f.args (end_entity_answers c) s b f.sized (subst (λ (x : Crossing). is_made x.code ≡ true) e m)) in
    (h.code, tt)
plain w (EndEntityStart d s k i n b) m =
    let h : Plain (is_some (unpack 16 i) && is_some (unpack 16 n)) (crossing w (EndEntityStart d s k i n b)) = start_plain (is_some (unpack 16 i) && is_some (unpack 16 n)) (end_entity_start k (id_of i) (fresh_of n)) s b (start_sized k (id_of i) (fresh_of n) (sixteen_in i) (sixteen_in n)) m in
    (h.code, length_16 i (and_left (is_some (unpack 16 i)) (is_some (unpack 16 n)) h.args))

-- ## A call adds its event

pub record Adds (w : LentWorld) (c : LentCall) (x : Crossing) (past : List LentEvent) : Type 0 where
  pub event : LentEvent
  pub adds : past ≡ event ∷ w.past
  pub call : event.call ≡ c
  pub code : event.code ≡ x.code
  pub answer : event.answer ≡ x.answer

enrolment_adds : (w : LentWorld) (c : LentCall) (k : ℕ) (e : Option LentEnrolment) (x : Crossing) → Adds w c x (enrolment_lent w c k e x).past
enrolment_adds w c k none x = record { event = _; adds = refl; call = refl; code = refl; answer = refl }
enrolment_adds w c k (some e) x = record { event = _; adds = refl; call = refl; code = refl; answer = refl }

pub call_adds : (w : LentWorld) (c : LentCall) → Adds w c (crossing w c) (lent_step w c).past
unfolding lent_step
call_adds w (AtRegistrar c b) = record { event = _; adds = refl; call = refl; code = refl; answer = refl }
call_adds w (AtEndEntity k c b) = enrolment_adds w _ k (get_elem? w.enrolments k) (crossing w (AtEndEntity k c b))
call_adds w (EndEntityStart d s k i n b) = record { event = _; adds = refl; call = refl; code = refl; answer = refl }

abbrev pub AllPlain : List LentEvent → Type 0
AllPlain [] = Unit {0}
AllPlain (e ∷ es) = (is_made e.code ≡ true → PlainEvent e) × AllPlain es

plain_step : (w : LentWorld) (c : LentCall) → AllPlain w.past → AllPlain (lent_step w c).past
plain_step w c h =
    let a : Adds w c (crossing w c) (lent_step w c).past = call_adds w c in
    subst AllPlain (sym a.adds) ((λ m. let q : (get_or (crossing w c).answer answer_code_at 0 ≡ (crossing w c).code) × IdSized c = plain w c (subst (λ (n : ℕ). is_made n ≡ true) a.code m) in record { code = ap (λ (l : List ℕ). get_or l 0 0) a.answer ∙ q.0 ∙ sym a.code; id = subst IdSized (sym a.call) q.1 }), h)

pub all_plain : (cs : List LentCall) (w : LentWorld) → AllPlain w.past → AllPlain (lent_after w cs).past
unfolding lent_after
all_plain [] w h = h
all_plain (c ∷ cs) w h = all_plain cs (lent_step w c) (plain_step w c h)
