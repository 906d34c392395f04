-- The bytes after a call read as the call's answer; and what holds after any list of calls.
use Rattle.std.specs.Prelude.{is_some}
use Prim.Native.Nat.{ℕ}
use mathlib.Core.List.{List}
use mathlib.Core.Bool.{Bool, true, cond, ◌&&◌}
use mathlib.Core.Path.{◌≡◌, refl, sym, ◌∙◌, ap, subst}
use borrow.Author.Tests.{eq-eqb}
use lib.ListN.{length, get_elem?}
use lib.Dec.{eqb, leb}
use Rattle.protocol.specs.declared.TransactionTable.{TransactionTable}
use Rattle.protocol.specs.declared.Enrolment.{Enrolment}
use Rattle.protocol.specs.declared.RegistrarAnswer.{RegistrarAnswer}
use Rattle.protocol.specs.declared.EndEntityAnswer.{EndEntityAnswer}
use Rattle.protocol.specs.EndEntity.{end_entity_start}
use Rattle.protocol.specs.Run.{World, run}
use Rattle.protocol.proofs.Reachable.{Sound, reachable}
use Rattle.packed.specs.Arrays.{unpack}
use Rattle.packed.specs.Outgoing.{outgoing_of}
use Rattle.packed.specs.Answer.{outcome_number, registrar_answer_bytes, end_entity_answer_bytes}
use Rattle.packed.specs.Table.{pack_table, unpack_table, table_held, TableSized}
use Rattle.packed.specs.Enrolment.{enrolment_bytes, pack_enrolment, pack_enrolment_in, unpack_enrolment, enrolment_held, EnrolmentSized}
use Rattle.packed.proofs.AnswerInverse.{registrar_back, registrar_outgoing_back, end_entity_back, end_entity_outcome_back, end_entity_fault_back, end_entity_sends_back, end_entity_outgoing_back}
use Rattle.duskstall.specs.Boundary.{Crossing, registrar_written, registrar_answered, registrar_crossing, end_entity_written, end_entity_answered, end_entity_crossing, start_written, start_crossing}
use Rattle.duskstall.specs.Calls.{id_of, fresh_of}
use Rattle.lent.specs.Calls.{registrar_crosses, registrar_answers, end_entity_crosses, end_entity_answers}
use Rattle.lent.specs.Lent.{AtRegistrar, AtEndEntity, EndEntityStart, LentWorld, held_bytes, is_made, lent_after, lent_beginning, made}
use Rattle.lent.specs.Reads.{RegistrarReads, EndEntityReads, StartReads, table_in, enrolment_in, LentReads, LentSound, AllOutgoingInPlace}
use Rattle.lent.proofs.Sizes.{sixteen_in}
use Rattle.lent.proofs.Forms.{RegistrarForm, registrar_form, EndEntityForm, end_entity_form}
use Rattle.lent.proofs.RegistrarSizes.{RegistrarSized}
use Rattle.lent.proofs.EndEntitySizes.{EndEntitySized, start_sized}
use Rattle.lent.proofs.Stand.{held_table, held_enrolment, Stands, made_of, table_read, table_in_lem, enrolment_read, enrolment_in_lem, read_table}
use Rattle.packed.proofs.TableInverse.{table_sized}
use Rattle.packed.proofs.EnrolmentInverse.{enrolment_sized}
use Rattle.lent.proofs.Kept.{promised}
use Rattle.lent.proofs.Theorem.{stands}

registrar_reads : (p : Bool) (f : TransactionTable → RegistrarAnswer) (s b : List ℕ) → ((t : TransactionTable) → TableSized t → RegistrarSized (f t))
    → is_made (registrar_crossing p f s b).code ≡ true → RegistrarReads (registrar_crossing p f s b) (f (table_held s))
unfolding registrar_answered
registrar_reads p f s b sized m =
    let a : RegistrarAnswer = f (table_held s) in
    made_of (λ x. RegistrarReads x a) (is_some (unpack_table s)) p (leb registrar_answer_bytes (length b)) s b (registrar_written a s b)
    (λ o _ r.
    let z : RegistrarSized a = sized (table_held s) (table_sized s o) in
    record {
      code = refl;
      answer = registrar_back a b z.outgoing r z.outcome z.slot _ (held_table _ (table_read a.table z.table (table_in_lem s a.table o)));
      outgoing = registrar_outgoing_back a b z.outgoing r;
    })
    m

board-reads : (p : Bool) (f : Enrolment → EndEntityAnswer) (s b : List ℕ) → ((x : Enrolment) → EnrolmentSized x → EndEntitySized (f x))
    → is_made (end_entity_crossing p f s b).code ≡ true → EndEntityReads (end_entity_crossing p f s b) (f (enrolment_held s))
unfolding end_entity_answered
board-reads p f s b sized m =
    let a : EndEntityAnswer = f (enrolment_held s) in
    made_of (λ x. EndEntityReads x a) (is_some (unpack_enrolment s)) p (leb end_entity_answer_bytes (length b)) s b (end_entity_written a s b)
    (λ o _ r.
    let z : EndEntitySized a = sized (enrolment_held s) (enrolment_sized s o) in
    record {
      code = refl;
      answer = end_entity_back a b z.outgoing r z.outcome _ (held_enrolment _ (enrolment_read a.enrolment z.enrolment (enrolment_in_lem s a.enrolment o)));
      outgoing = end_entity_outgoing_back a b z.outgoing r;
    })
    m

start-state : (a : EndEntityAnswer) (s : List ℕ) → eqb (length s) enrolment_bytes ≡ true → outcome_number a.outcome ≡ 0
    → cond (eqb (outcome_number a.outcome) 0) (pack_enrolment_in a.enrolment s) s ≡ pack_enrolment a.enrolment
unfolding pack_enrolment_in
start-state a s o e = rw (eq-eqb _ _ e, o)

start-reads : (p : Bool) (a : EndEntityAnswer) (s b : List ℕ) → EndEntitySized a → is_made (start_crossing p a s b).code ≡ true → StartReads (start_crossing p a s b) a
unfolding start_crossing
start-reads p a s b z =
    made_of (λ x. StartReads x a) (eqb (length s) enrolment_bytes) p (leb end_entity_answer_bytes (length b)) s b (start_written a s b)
    (λ o _ r.
    record {
      code = refl;
      outcome = end_entity_outcome_back a b z.outgoing r z.outcome;
      fault = end_entity_fault_back a b z.outgoing r;
      sends = end_entity_sends_back a b z.outgoing r;
      outgoing = end_entity_outgoing_back a b z.outgoing r;
      enrolment = λ e. held_enrolment _ (enrolment_read a.enrolment z.enrolment (start-state a s o e));
    })

pub lent_reads : LentReads
lent_reads w (AtRegistrar c b) m =
    let f : RegistrarForm c = registrar_form c in
    let e : registrar_crosses c w.table b ≡ registrar_crossing f.args (registrar_answers c) w.table b = f.crosses w.table b in
    subst (λ (x : Crossing). RegistrarReads x (registrar_answers c (table_in w))) (sym e) (registrar_reads f.args (registrar_answers c) w.table b f.sized (subst (λ (x : Crossing). is_made x.code ≡ true) e m))
lent_reads w (AtEndEntity k c b) m =
    let f : EndEntityForm c = end_entity_form c in
    let s : List ℕ = held_bytes (get_elem? w.enrolments k) in
    let e : end_entity_crosses c s b ≡ end_entity_crossing f.args (end_entity_answers c) s b = f.crosses s b in
    subst (λ (x : Crossing). EndEntityReads x (end_entity_answers c (enrolment_in w k))) (sym e) (board-reads f.args (end_entity_answers c) s b f.sized (subst (λ (x : Crossing). is_made x.code ≡ true) e m))
lent_reads w (EndEntityStart d s k i n b) m = start-reads (is_some (unpack 16 i) && is_some (unpack 16 n)) (end_entity_start k (id_of i) (fresh_of n)) s b (start_sized k (id_of i) (fresh_of n) (sixteen_in i) (sixteen_in n)) m

-- ## After any list of calls: nothing is supposed of the bytes

pub lent_sound : LentSound
lent_sound s e calls =
    let l : LentWorld = lent_after (lent_beginning s) calls in
    let w : World = run (made (lent_beginning s) calls) in
    let st : Stands l w = stands s e calls in
    let t : table_in l ≡ w.table = held_table _ (read_table st) in
    let q : Sound (table_in l) = subst Sound (sym t) (reachable (made (lent_beginning s) calls)) in
    record { one = q.one; unset = q.unset; promise = promised l (λ _. ap pack_table t ∙ sym st.table) }

pub outgoing_in_place : AllOutgoingInPlace
unfolding outgoing_of
outgoing_in_place o =
    record {
      kind = refl;
      id = refl;
      sender_nonce = refl;
      has_recip_nonce = refl;
      recip_nonce = refl;
      has_status = refl;
      status = refl;
      hash = refl;
      failure = refl;
      has_cert_req_id = refl;
      cert_req_id = refl;
    }
