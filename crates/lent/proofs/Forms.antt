-- Every exported call in one form: what it asks of its arrays, and what is proved of its answer on values. A call that joins the list adds one here.
use Rattle.std.specs.Prelude.{Option, is_some}
use Prim.Native.Nat.{ℕ}
use mathlib.Core.List.{List}
use mathlib.Core.Bool.{Bool, true, false, ◌&&◌}
use mathlib.Core.Option.{some}
use mathlib.Core.Path.{◌≡◌, refl, sym, ◌∙◌, ap, subst}
use mathlib.Core.Logic.{◌↔◌}
use borrow.Author.Tests.{eqb-true, eq-eqb}
use lib.ListN.{length, get_elem?}
use lib.Dec.{eqb}
use Rattle.protocol.specs.declared.TransactionTable.{TransactionTable}
use Rattle.protocol.specs.declared.Enrolment.{Enrolment}
use Rattle.protocol.specs.Types.{Verdict}
use Rattle.message.specs.Read.{reading_of}
use Rattle.protocol.specs.Agreement.{ByVerdict, ByGood, SenderIssued}
use Rattle.protocol.specs.Promises.{RegistrarPromise, EndEntityPromise}
use Rattle.protocol.specs.Run.{TheRegistrar, OneBoard, World, step, registrar_did, enrolment_did}
use Rattle.protocol.proofs.Tests.{true_false, none_some, some_some, cases}
use Rattle.protocol.proofs.RegistrarPromises as at_registrar
use Rattle.protocol.proofs.EndEntityPromises as at_board
use Rattle.packed.specs.Arrays.{unpack}
use Rattle.packed.specs.Table.{TableSized}
use Rattle.packed.specs.Enrolment.{EnrolmentSized}
use Rattle.duskstall.specs.Boundary.{registrar_crossing, end_entity_crossing, yes, verdict_of}
use Rattle.duskstall.specs.Calls.{id_of, fresh_of, hash_of, registrar_input, end_entity_input}
use Rattle.lent.specs.Calls.{RegistrarCall, RegistrarMessage, RegistrarIssue, RegistrarRefuse, RegistrarLapse, RegistrarClose, registrar_crosses, registrar_step, registrar_answers, registrar_refusals, closing}
use Rattle.lent.specs.Calls.{EndEntityCall, EndEntityMessage, EndEntityTimeOut, end_entity_crosses, end_entity_step, end_entity_answers, end_entity_refusals}
use Rattle.lent.specs.Lent.{LentEvent, closed_by, events_of}
use Rattle.lent.specs.Header.{IssuedBytes, GoodAtRegistrar, GoodAtEndEntity}
use Rattle.lent.specs.Made.{RegistrarFits, EndEntityFits}
use Rattle.lent.proofs.Sent.{issued-bytes, issued-back}
use Rattle.lent.proofs.Sizes.{sixteen_in, thirty_two_in}
use Rattle.lent.proofs.RegistrarSizes as registrar_sizes
use Rattle.lent.proofs.EndEntitySizes as board_sizes
use Rattle.lent.proofs.RegistrarSizes.{RegistrarSized}
use Rattle.lent.proofs.EndEntitySizes.{EndEntitySized}

-- ## Lengths, as tests

pub ok_16 : (s : List ℕ) → length s ≡ 16 → is_some (unpack 16 s) ≡ true
unfolding unpack
ok_16 s e = rw (eq-eqb (length s) 16 e)

ok_32 : (s : List ℕ) → length s ≡ 32 → is_some (unpack 32 s) ≡ true
unfolding unpack
ok_32 s e = rw (eq-eqb (length s) 32 e)

pub length_16 : (s : List ℕ) → is_some (unpack 16 s) ≡ true → length s ≡ 16
unfolding unpack
length_16 s = cases (λ (u : Option (List ℕ)). is_some u ≡ true → length s ≡ 16) (eqb (length s) 16) _ _ (λ e _. eqb-true _ _ e) (λ _ q. true_false (sym q))

pub and : {a b : Bool} → a ≡ true → b ≡ true → (a && b) ≡ true
and {a} {b} p q = rw (p, q)

-- ## Verdicts: good is 1

good-verdict : (bytes : List ℕ) (g b : ℕ) (es : List LentEvent) → (g ≡ 1 → IssuedBytes (OneBoard (record { 0 = b })) bytes (reading_of bytes) es)
    → ByVerdict (verdict_of g b) bytes (events_of es)
good-verdict bytes g b es h =
    cases (λ (v : Verdict). ByVerdict v bytes (events_of es)) (eqb g 1) _ _ (λ e. issued-bytes (OneBoard (record { 0 = b })) bytes (reading_of bytes) es (h (eqb-true _ _ e))) (λ _. tt)

verdict-back : (bytes : List ℕ) (g b : ℕ) (es : List LentEvent) → ByVerdict (verdict_of g b) bytes (events_of es)
    → g ≡ 1 → IssuedBytes (OneBoard (record { 0 = b })) bytes (reading_of bytes) es
verdict-back bytes g b es h e = issued-back (OneBoard (record { 0 = b })) bytes (reading_of bytes) es (subst (λ (k : ℕ). ByVerdict (verdict_of k b) bytes (events_of es)) e h)

by_good : {A : Type 0} (v : Bool) (bytes : List ℕ) (es : List LentEvent) → (A → v ≡ true → IssuedBytes TheRegistrar bytes (reading_of bytes) es) → A → ByGood v bytes (events_of es)
by_good true bytes es f a = issued-bytes TheRegistrar bytes (reading_of bytes) es (f a refl)
by_good false bytes es f a = tt

-- ## The registrar

pub record RegistrarForm (c : RegistrarCall) : Type 0 where
  pub args : Bool
  pub crosses : (s b : List ℕ) → registrar_crosses c s b ≡ registrar_crossing args (registrar_answers c) s b
  pub steps : (w : World)
      → step w (registrar_step c) ≡ registrar_did w (registrar_step c) (closed_by (closing c) (registrar_answers c w.table).outcome) (registrar_answers c w.table)
  pub promise : (t : TransactionTable) → RegistrarPromise (registrar_refusals c) t (registrar_answers c t)
  pub sized : (t : TransactionTable) → TableSized t → RegistrarSized (registrar_answers c t)
  pub closes : (i : List ℕ) → closing c ≡ some i → args ≡ true → length i ≡ 16
  pub fits : RegistrarFits c → args ≡ true
  pub good : (es : List LentEvent) → GoodAtRegistrar c es ↔ SenderIssued (registrar_step c) (events_of es)

pub registrar_form : (c : RegistrarCall) → RegistrarForm c
unfolding step
registrar_form (RegistrarMessage bytes g b n) =
    record {
      args = is_some (unpack 16 n);
      crosses = λ _ _. refl;
      steps = λ _. refl;
      promise = λ t. at_registrar.message-promise t (registrar_input g b n) bytes;
      sized = λ t z. registrar_sizes.message_sized t z (registrar_input g b n) (sixteen_in n) bytes;
      closes = λ i e. none_some e;
      fits = ok_16 n;
      good = λ es. (good-verdict bytes g b es, verdict-back bytes g b es);
    }
registrar_form (RegistrarIssue i n h) =
    record {
      args = is_some (unpack 16 i) && (is_some (unpack 16 n) && is_some (unpack 32 h));
      crosses = λ _ _. refl;
      steps = λ _. refl;
      promise = λ t. at_registrar.issue-promise t (id_of i) (fresh_of n) (hash_of h);
      sized = λ t z. registrar_sizes.issue_sized t z (id_of i) (sixteen_in i) (fresh_of n) (hash_of h) (sixteen_in n) (thirty_two_in h);
      closes = λ j e. none_some e;
      fits = λ f. and (ok_16 i f.0) (and (ok_16 n f.1) (ok_32 h f.2));
      good = λ _. ((λ _. tt), (λ _. tt));
    }
registrar_form (RegistrarRefuse i n) =
    record {
      args = is_some (unpack 16 i) && is_some (unpack 16 n);
      crosses = λ _ _. refl;
      steps = λ _. refl;
      promise = λ t. at_registrar.refuse-promise t (id_of i) (fresh_of n);
      sized = λ t z. registrar_sizes.refuse_sized t z (id_of i) (sixteen_in i) (fresh_of n) (sixteen_in n);
      closes = λ j e. none_some e;
      fits = λ f. and (ok_16 i f.0) (ok_16 n f.1);
      good = λ _. ((λ _. tt), (λ _. tt));
    }
registrar_form (RegistrarLapse i) =
    record {
      args = is_some (unpack 16 i);
      crosses = λ _ _. refl;
      steps = λ _. refl;
      promise = λ t. at_registrar.lapse-promise t (id_of i);
      sized = λ t z. registrar_sizes.lapse_sized t z (id_of i) (sixteen_in i);
      closes = λ j e. none_some e;
      fits = ok_16 i;
      good = λ _. ((λ _. tt), (λ _. tt));
    }
registrar_form (RegistrarClose i) =
    record {
      args = is_some (unpack 16 i);
      crosses = λ _ _. refl;
      steps = λ _. refl;
      promise = λ t. at_registrar.close-promise t (id_of i);
      sized = λ t z. registrar_sizes.close_sized t z (id_of i) (sixteen_in i);
      closes = λ j e o. ap length (sym (some_some e)) ∙ length_16 i o;
      fits = ok_16 i;
      good = λ _. ((λ _. tt), (λ _. tt));
    }

-- ## An end entity

pub record EndEntityForm (c : EndEntityCall) : Type 0 where
  pub args : Bool
  pub crosses : (s b : List ℕ) → end_entity_crosses c s b ≡ end_entity_crossing args (end_entity_answers c) s b
  pub steps : (w : World) (k : ℕ) → step w (end_entity_step k c) ≡ enrolment_did w (end_entity_step k c) k (get_elem? w.enrolments k) (end_entity_answers c)
  pub promise : (x : Enrolment) → EndEntityPromise (end_entity_refusals c) x (end_entity_answers c x)
  pub sized : (x : Enrolment) → EnrolmentSized x → EndEntitySized (end_entity_answers c x)
  pub fits : EndEntityFits c → args ≡ true
  pub good : (k : ℕ) (es : List LentEvent) → GoodAtEndEntity c es ↔ SenderIssued (end_entity_step k c) (events_of es)

pub end_entity_form : (c : EndEntityCall) → EndEntityForm c
unfolding step
end_entity_form (EndEntityMessage bytes g a h n) =
    record {
      args = is_some (unpack 32 h) && is_some (unpack 16 n);
      crosses = λ _ _. refl;
      steps = λ _ _. refl;
      promise = λ x. at_board.message-promise x (end_entity_input g a h n) bytes;
      sized = λ x z. board_sizes.message_sized x z (end_entity_input g a h n) (thirty_two_in h) (sixteen_in n) bytes;
      fits = λ f. and (ok_32 h f.0) (ok_16 n f.1);
      good = λ _ es. (by_good (eqb g 1) bytes es (λ f e. f (eqb-true _ _ e)), λ f e. issued-back TheRegistrar bytes (reading_of bytes) es (subst (λ (k : ℕ). ByGood (yes k) bytes (events_of es)) e f));
    }
end_entity_form EndEntityTimeOut =
    record {
      args = true;
      crosses = λ _ _. refl;
      steps = λ _ _. refl;
      promise = at_board.time_out_promise;
      sized = board_sizes.time_out_sized;
      fits = λ _. refl;
      good = λ _ _. ((λ _. tt), (λ _. tt));
    }
