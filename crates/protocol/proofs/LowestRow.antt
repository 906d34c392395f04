-- At both ends, the lowest row that applies is given, and none otherwise.
use Rattle.std.specs.Prelude.{Ok}
use Prim.Native.Nat.{ℕ}
use mathlib.Core.List.{List}
use mathlib.Core.Bool.{true}
use mathlib.Core.Option.{Option}
use mathlib.Core.Path.{◌≡◌, refl, sym, ◌∙◌, ap, subst}
use lib.Dec.{eqb}
use Rattle.message.specs.Read.{reading_of}
use Rattle.grammar.specs.declared.Message.{Message}
use Rattle.protocol.specs.declared.RegistrarInput.{RegistrarInput}
use Rattle.protocol.specs.declared.EndEntityInput.{EndEntityInput}
use Rattle.protocol.specs.declared.Transaction.{Transaction}
use Rattle.protocol.specs.declared.TransactionTable.{TransactionTable}
use Rattle.protocol.specs.declared.Enrolment.{Enrolment}
use Rattle.protocol.specs.Types.{FailureInfo}
use Rattle.protocol.specs.declared.Outcome.{Outcome}
use Rattle.protocol.specs.declared.RegistrarAnswer.{RegistrarAnswer}
use Rattle.protocol.specs.declared.EndEntityAnswer.{EndEntityAnswer}
use Rattle.protocol.specs.declared.Outcome.TheVariants as outcome
use Rattle.protocol.specs.Bytes.{as_id}
use Rattle.protocol.specs.Message.{Fields, status_or0, fields_of}
use Rattle.protocol.specs.Table.{lookup}
use Rattle.protocol.specs.States.{is_granted}
use Rattle.protocol.specs.Refusals.{Row, stop, lowest_row, pass, LowestRow}
use Rattle.protocol.specs.RegistrarRows.{registrar_rows}
use Rattle.protocol.specs.Registrar.{registrar_checked, registrar_fields, registrar_message}
use Rattle.protocol.specs.EndEntityRows.{end_entity_rows}
use Rattle.protocol.specs.EndEntity.{end_entity_checked, end_entity_message, end_entity_read}
use Rattle.protocol.specs.Promises.{LowestGiven}
use Rattle.protocol.proofs.Tests.{cases}
use Rattle.protocol.proofs.Rows.{stops, ascending, least, stopped}
use Rattle.protocol.proofs.RegistrarPromises.{refused-number, done_refused, again-refused}
use Rattle.protocol.proofs.RegistrarPasses.{taken_by}
use Rattle.protocol.proofs.EndEntityPasses.{answered_by}
use Rattle.protocol.proofs.ConfirmationMoves.{message-at}

-- an outcome that is the check's
pub record Follows (rows : List Row) (o : Outcome) : Type 0 where
  pub stops_it : (k : ℕ) → lowest_row rows ≡ stop k → (b : FailureInfo) × (o ≡ outcome.Refused k b)
  pub passes_it : lowest_row rows ≡ pass → (n : ℕ) (b : FailureInfo) → o ≡ outcome.Refused n b → ⊥

number_of : (rows : List Row) (o : Outcome) → Follows rows o → (n : ℕ) (b : FailureInfo) → o ≡ outcome.Refused n b → (c : LowestRow) → lowest_row rows ≡ c → lowest_row rows ≡ stop n
number_of rows o f n b e pass h = absurd (f.passes_it h n b e)
number_of rows o f n b e (stop k) h =
    let g : (c : FailureInfo) × (o ≡ outcome.Refused k c) = f.stops_it k h in
    h ∙ ap stop (refused-number k n g.0 b (sym g.1 ∙ e))

pub lowest-given : (rows : List Row) (o : Outcome) → ascending rows ≡ true → Follows rows o → LowestGiven rows o
lowest-given rows o a f =
    record {
      given = λ n b e. stops rows n (number_of rows o f n b e (lowest_row rows) refl);
      lowest = λ n b e. least rows n a (number_of rows o f n b e (lowest_row rows) refl);
      whenever = λ k p. let s : (n : ℕ) × (lowest_row rows ≡ stop n) = stopped rows k p in (s.0, (f.stops_it s.0 s.1).0, (f.stops_it s.0 s.1).1);
    }

-- ## The registrar

module _ (t : TransactionTable) (d : RegistrarInput) (m : Fields) where
  abbrev g : Option Transaction
  g = lookup t.transactions (as_id m.id)

  abbrev RegistrarRefuses : ℕ → FailureInfo → RegistrarAnswer → Type 0
  RegistrarRefuses n b a = a.outcome ≡ outcome.Refused n b

  passed_registrar : (h : Option Transaction) → lowest_row (registrar_rows t.transactions h d.verdict m) ≡ pass → (n : ℕ) (b : FailureInfo) → RegistrarRefuses n b (registrar_checked pass h t d m) → ⊥
  passed_registrar h e n b =
      taken_by t d m (λ (a : RegistrarAnswer). RegistrarRefuses n b a → ⊥) h e (λ _ _ _ z. done_refused n b z)
      (λ r _ _ _. cases (λ (a : RegistrarAnswer). RegistrarRefuses n b a → ⊥) (is_granted r.state) _ _ (λ _ z. done_refused n b z) (λ _ z. again-refused n b z))

  follows_registrar : Follows (registrar_rows t.transactions g d.verdict m) (registrar_fields t d m).outcome
  unfolding registrar_fields registrar_checked
  follows_registrar =
      record {
        stops_it = λ k e. (_, ap (λ (c : LowestRow). (registrar_checked c g t d m).outcome) e);
        passes_it = λ e n b q. passed_registrar g e n b (sym (ap (λ (c : LowestRow). (registrar_checked c g t d m).outcome) e) ∙ q);
      }

  lowest_fields : LowestGiven (registrar_rows t.transactions g d.verdict m) (registrar_fields t d m).outcome
  unfolding registrar_rows
  lowest_fields = lowest-given _ _ refl follows_registrar

-- a message that reads: the rows are those of its fields
pub registrar_lowest :
    (t : TransactionTable) (d : RegistrarInput) (bytes : List ℕ) (m : Message) → reading_of bytes ≡ Ok m →
    LowestGiven (registrar_rows t.transactions (lookup t.transactions (as_id (fields_of bytes m).id)) d.verdict (fields_of bytes m)) (registrar_message t d bytes).outcome
registrar_lowest t d bytes m e = subst (λ (a : RegistrarAnswer). LowestGiven (registrar_rows t.transactions (lookup t.transactions (as_id (fields_of bytes m).id)) d.verdict (fields_of bytes m)) a.outcome) (sym (message-at t d bytes m e)) (lowest_fields t d (fields_of bytes m))

-- ## The end entity

module _ (x : Enrolment) (d : EndEntityInput) (m : Fields) where
  abbrev NotRefused : ℕ → FailureInfo → EndEntityAnswer → Type 0
  NotRefused n b a = a.outcome ≡ outcome.Refused n b → ⊥

  passed_end : lowest_row (end_entity_rows x d.good m) ≡ pass → (n : ℕ) (b : FailureInfo) → NotRefused n b (end_entity_checked pass x d m)
  passed_end e n b =
      answered_by x d m (NotRefused n b) e (λ _ z. done_refused n b z) (λ _ z. done_refused n b z)
      (λ _. cases (NotRefused n b) (eqb (status_or0 m.status) 2) _ _ (λ _ z. done_refused n b z) (λ _ z. done_refused n b z))

  follows_end : Follows (end_entity_rows x d.good m) (end_entity_checked (lowest_row (end_entity_rows x d.good m)) x d m).outcome
  unfolding end_entity_checked
  follows_end =
      record {
        stops_it = λ k e. (_, ap (λ (c : LowestRow). (end_entity_checked c x d m).outcome) e);
        passes_it = λ e n b q. passed_end e n b (sym (ap (λ (c : LowestRow). (end_entity_checked c x d m).outcome) e) ∙ q);
      }

  lowest-end : LowestGiven (end_entity_rows x d.good m) (end_entity_checked (lowest_row (end_entity_rows x d.good m)) x d m).outcome
  unfolding end_entity_rows
  lowest-end = lowest-given _ _ refl follows_end

pub end_entity_lowest : (x : Enrolment) (d : EndEntityInput) (bytes : List ℕ) (m : Message) → reading_of bytes ≡ Ok m → LowestGiven (end_entity_rows x d.good (fields_of bytes m)) (end_entity_message x d bytes).outcome
unfolding end_entity_message end_entity_read
end_entity_lowest x d bytes m e = rw e (lowest-end x d (fields_of bytes m))
