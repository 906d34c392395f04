-- Demand 1 of every exported call, on any bytes.
use Rattle.std.specs.Prelude.{is_some}
use Prim.Native.Nat.{ℕ, ◌<◌}
use mathlib.Core.List.{List, [], ◌∷◌}
use mathlib.Core.Bool.{Bool, true, false, cond}
use mathlib.Core.Path.{◌≡◌, refl, sym, ◌∙◌, ap, subst}
use mathlib.Core.Logic.{inl, inr, ◌≢◌}
use native.Mathlib.Omega.{arith}
use lib.ListN.{length, get_or, get_elem?}
use lib.Dec.{eqb, leb}
use Rattle.protocol.specs.declared.TransactionTable.{TransactionTable}
use Rattle.protocol.specs.declared.Enrolment.{Enrolment}
use Rattle.protocol.specs.declared.Board.{Board}
use Rattle.protocol.specs.Types.{FailureInfo}
use Rattle.protocol.specs.declared.Outcome.{Outcome}
use Rattle.protocol.specs.declared.Outcome.TheVariants.{Done, Again, Refused}
use Rattle.protocol.specs.declared.RegistrarAnswer.{RegistrarAnswer}
use Rattle.protocol.specs.declared.EndEntityAnswer.{EndEntityAnswer}
use Rattle.protocol.specs.EndEntity.{end_entity_start}
use Rattle.protocol.specs.Promises.{OneOf, RegistrarPromise, EndEntityPromise}
use Rattle.protocol.proofs.Tests.{true_false}
use Rattle.protocol.proofs.EndEntityPromises.{start-promise, start-never}
use Rattle.packed.specs.Places.{answer_refusal_at}
use Rattle.packed.specs.Answer.{outcome_number, registrar_answer_bytes, end_entity_answer_bytes}
use Rattle.packed.specs.Table.{pack_table, unpack_table, table_held, pack_table_in, TableSized}
use Rattle.packed.specs.Enrolment.{enrolment_bytes, unpack_enrolment, enrolment_held, pack_enrolment_in, EnrolmentSized}
use Rattle.packed.proofs.TableInverse as table_inverse
use Rattle.packed.proofs.EnrolmentInverse as enrolment_inverse
use Rattle.packed.proofs.AnswerInverse.{registrar_refusal_at, end_entity_refusal_at}
use Rattle.duskstall.specs.Boundary.{Crossing, boundary_fault, unless_faulty, registrar_written, registrar_answered, registrar_crossing, end_entity_written, end_entity_answered, end_entity_crossing, start_written, start_crossing}
use Rattle.duskstall.specs.Calls.{id_of, fresh_of}
use Rattle.lent.specs.Calls.{registrar_answers, registrar_refusals, EndEntityCall, end_entity_answers, end_entity_refusals}
use Rattle.lent.specs.Lent.{LentCall, AtRegistrar, AtEndEntity, EndEntityStart, LentWorld, held_bytes, crossing, is_made}
use Rattle.lent.specs.Kept.{state_lent, answer_lent, refusals_of, MayRepeat, Kept, LentPromise, LentDemand1, KeptByContract}
use Rattle.lent.proofs.Sizes.{sixteen_in}
use Rattle.lent.proofs.Forms.{RegistrarForm, registrar_form, EndEntityForm, end_entity_form}
use Rattle.lent.proofs.RegistrarSizes.{RegistrarSized}
use Rattle.lent.proofs.EndEntitySizes.{EndEntitySized, start_sized}
use Rattle.packed.proofs.TableInverse.{table_sized}
use Rattle.packed.proofs.EnrolmentInverse.{enrolment_sized}
use Rattle.lent.proofs.Stand.{table_in_lem, enrolment_in_lem}

-- ## A crossing, of the state's bytes s and the answer's bytes b

abbrev codes : List ℕ
codes = 0 ∷ 1 ∷ 2 ∷ 251 ∷ 252 ∷ 253 ∷ []

-- R: it may answer "again"
record Keeps (R : Type 0) (ns s b : List ℕ) (x : Crossing) : Type 0 where
  code : OneOf x.code codes
  unchanged : x.code ≢ 0 → x.state ≡ s
  untouched : is_made x.code ≡ false → x.answer ≡ b
  number : x.code ≡ 2 → OneOf (get_or x.answer answer_refusal_at 0) ns
  again : x.code ≡ 1 → R

-- bytes at fault
at-fault : (R : Type 0) (ns s b : List ℕ) (k : ℕ) → OneOf k codes → 2 < k → Keeps R ns s b (record { code = k; state = s; answer = b })
at-fault R ns s b k c d = record { code = c; unchanged = λ _. refl; untouched = λ _. refl; number = λ e. absurd (omega arith); again = λ e. absurd (omega arith) }

unless_faulty_lem : (R : Type 0) (ns s b : List ℕ) (x : Crossing) (o p r : Bool) → (o ≡ true → r ≡ true → Keeps R ns s b x) → Keeps R ns s b (unless_faulty (boundary_fault o p r) s b x)
unless_faulty_lem R ns s b x false p r h = at-fault R ns s b 251 (inr (inr (inr (inl refl)))) (omega arith)
unless_faulty_lem R ns s b x true false r h = at-fault R ns s b 252 (inr (inr (inr (inr (inl refl))))) (omega arith)
unless_faulty_lem R ns s b x true true false h = at-fault R ns s b 253 (inr (inr (inr (inr (inr (inl refl)))))) (omega arith)
unless_faulty_lem R ns s b x true true true h = h refl refl

-- a call that was made
written : (R : Type 0) (ns s b : List ℕ) (o : Outcome) (s' b' : List ℕ)
    → (o ≡ Again → (s' ≡ s) × R)
    → ((n : ℕ) (f : FailureInfo) → o ≡ Refused n f → (s' ≡ s) × OneOf (get_or b' answer_refusal_at 0) ns)
    → Keeps R ns s b (record { code = outcome_number o; state = s'; answer = b' })
written R ns s b Done s' b' g h =
    record { code = inl refl; unchanged = λ d. absurd (d refl); untouched = λ e. true_false e; number = λ e. absurd (omega arith); again = λ e. absurd (omega arith) }
written R ns s b Again s' b' g h = record { code = inr (inl refl); unchanged = λ _. (g refl).0; untouched = λ e. true_false e; number = λ e. absurd (omega arith); again = λ _. (g refl).1 }
written R ns s b (Refused n f) s' b' g h = record { code = inr (inr (inl refl)); unchanged = λ _. (h n f refl).0; untouched = λ e. true_false e; number = λ _. (h n f refl).1; again = λ e. absurd (omega arith) }

-- ## The registrar

module _ (ns : List ℕ) (f : TransactionTable → RegistrarAnswer) (promise : (t : TransactionTable) → RegistrarPromise ns t (f t)) (sized : (t : TransactionTable) → TableSized t → RegistrarSized (f t)) (s b : List ℕ) (again : is_some (unpack_table s) ≡ true → pack_table (table_held s) ≡ s) where
  abbrev t : TransactionTable
  t = table_held s

  same : (u : TransactionTable) → is_some (unpack_table s) ≡ true → u ≡ t → pack_table_in u s ≡ s
  same u o e = ap (λ (v : TransactionTable). pack_table_in v s) e ∙ table_in_lem s t o ∙ again o

  registrar_written_lem : is_some (unpack_table s) ≡ true → leb registrar_answer_bytes (length b) ≡ true → Keeps (Unit {0}) ns s b (registrar_written (f t) s b)
  registrar_written_lem o r =
      written (Unit {0}) ns s b (f t).outcome _ _ (λ e. (same _ o ((promise t).again e), tt))
      (λ n q e. (same _ o ((promise t).unchanged n q e), subst (λ (k : ℕ). OneOf k ns) (sym (registrar_refusal_at (f t) b (sized t (table_sized s o)).outgoing r n q e)) ((promise t).number n q e)))

  registrar_keeps : (p : Bool) → Keeps (Unit {0}) ns s b (registrar_crossing p f s b)
  unfolding registrar_answered
  registrar_keeps p = unless_faulty_lem (Unit {0}) ns s b _ (is_some (unpack_table s)) p (leb registrar_answer_bytes (length b)) registrar_written_lem

-- ## An end entity

module _ (ns : List ℕ) (f : Enrolment → EndEntityAnswer) (promise : (x : Enrolment) → EndEntityPromise ns x (f x)) (sized : (x : Enrolment) → EnrolmentSized x → EndEntitySized (f x)) (s b : List ℕ) where
  abbrev x : Enrolment
  x = enrolment_held s

  board-same : (u : Enrolment) → is_some (unpack_enrolment s) ≡ true → u ≡ x → pack_enrolment_in u s ≡ s
  board-same u o e = ap (λ (v : Enrolment). pack_enrolment_in v s) e ∙ enrolment_in_lem s x o ∙ enrolment_inverse.pack_unpacked s o

  board-written : is_some (unpack_enrolment s) ≡ true → leb end_entity_answer_bytes (length b) ≡ true → Keeps ⊥ ns s b (end_entity_written (f x) s b)
  board-written o r =
      written ⊥ ns s b (f x).outcome _ _ (λ e. absurd ((promise x).never e))
      (λ n q e. (board-same _ o ((promise x).unchanged n q e), subst (λ (k : ℕ). OneOf k ns) (sym (end_entity_refusal_at (f x) b (sized x (enrolment_sized s o)).outgoing r n q e)) ((promise x).number n q e)))

  board_keeps : (p : Bool) → Keeps ⊥ ns s b (end_entity_crossing p f s b)
  unfolding end_entity_answered
  board_keeps p = unless_faulty_lem ⊥ ns s b _ (is_some (unpack_enrolment s)) p (leb end_entity_answer_bytes (length b)) board-written

-- ## A start

module _ (a : EndEntityAnswer) (z : EndEntitySized a) (never : a.outcome ≡ Again → ⊥) (number : (n : ℕ) (q : FailureInfo) → a.outcome ≡ Refused n q → n ≡ 32) (s b : List ℕ) where
  start_left : (o : Outcome) → a.outcome ≡ o → (n : ℕ) (q : FailureInfo) → o ≡ Refused n q → cond (eqb (outcome_number o) 0) (pack_enrolment_in a.enrolment s) s ≡ s
  start_left o h n q e = rw e

  start-written : leb end_entity_answer_bytes (length b) ≡ true → Keeps ⊥ (32 ∷ []) s b (start_written a s b)
  start-written r =
      written ⊥ (32 ∷ []) s b a.outcome _ _ (λ e. absurd (never e))
      (λ n q e. (start_left a.outcome refl n q e, inl (end_entity_refusal_at a b z.outgoing r n q e ∙ number n q e)))

  start_keeps : (p : Bool) → Keeps ⊥ (32 ∷ []) s b (start_crossing p a s b)
  unfolding start_crossing
  start_keeps p = unless_faulty_lem ⊥ (32 ∷ []) s b _ (eqb (length s) enrolment_bytes) p (leb end_entity_answer_bytes (length b)) (λ _ r. start-written r)

-- ## Every call

module _ (w : LentWorld) where
  of_keeps : (c : LentCall) → Keeps (MayRepeat c) (refusals_of c) (state_lent w c) (answer_lent c) (crossing w c) → LentPromise w c
  of_keeps c h = record { code = h.code; unchanged = h.unchanged; untouched = h.untouched; number = h.number; again = h.again }

  -- an end entity's call does not look at the table
  pub board_promised : (k : ℕ) (c : EndEntityCall) (b : List ℕ) → LentPromise w (AtEndEntity k c b)
  board_promised k c b =
      let f : EndEntityForm c = end_entity_form c in
      let s : List ℕ = held_bytes (get_elem? w.enrolments k) in
      of_keeps (AtEndEntity k c b) (subst (Keeps ⊥ (end_entity_refusals c) s b) (sym (f.crosses s b)) (board_keeps (end_entity_refusals c) (end_entity_answers c) f.promise f.sized s b f.args))

  pub start_promised : (d : Board) (s : List ℕ) (k : ℕ) (i n b : List ℕ) → LentPromise w (EndEntityStart d s k i n b)
  start_promised d s k i n b =
      of_keeps (EndEntityStart d s k i n b)
      (start_keeps (end_entity_start k (id_of i) (fresh_of n)) (start_sized k (id_of i) (fresh_of n) (sixteen_in i) (sixteen_in n)) (start-never k (id_of i) (fresh_of n)) (λ m q e. (start-promise k (id_of i) (fresh_of n) m q e).0) s b _)

  -- also where the bytes are those of a run, of which nothing is supposed
  pub promised : (is_some (unpack_table w.table) ≡ true → pack_table (table_held w.table) ≡ w.table) → (c : LentCall) → LentPromise w c
  promised again (AtRegistrar c b) =
      let f : RegistrarForm c = registrar_form c in
      of_keeps (AtRegistrar c b) (subst (Keeps (Unit {0}) (registrar_refusals c) w.table b) (sym (f.crosses w.table b)) (registrar_keeps (registrar_refusals c) (registrar_answers c) f.promise f.sized w.table b again f.args))
  promised again (AtEndEntity k c b) = board_promised k c b
  promised again (EndEntityStart d s k i n b) = start_promised d s k i n b

pub lent_demand1 : LentDemand1
lent_demand1 w (AtRegistrar c b) bytes = promised w (table_inverse.pack_unpacked w.table bytes) (AtRegistrar c b)
lent_demand1 w (AtEndEntity k c b) bytes = board_promised w k c b
lent_demand1 w (EndEntityStart d s k i n b) bytes = start_promised w d s k i n b

pub kept_by_contract : KeptByContract
kept_by_contract w c code state answer h bytes =
    let same : record { code = code; state = state; answer = answer } ≡ crossing w c = λ i. record { code = h.code_is i; state = h.state-is i; answer = h.answer-is i } in
    subst (Kept w c) (sym same) (lent_demand1 w c bytes)
