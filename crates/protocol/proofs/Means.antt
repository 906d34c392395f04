-- What a refusal means, at both ends: from the test of its row to the number that is given.
use Rattle.std.specs.Prelude.{Ok}
use Prim.Native.Nat.{ℕ, ◌≤◌}
use mathlib.Core.List.{List, [], ◌∷◌}
use mathlib.Core.Bool.{Bool, true, false, not, cond, ◌&&◌}
use mathlib.Core.Option.{Option}
use mathlib.Core.Path.{◌≡◌, refl, sym, ◌∙◌, ap}
use mathlib.Core.Logic.{inl, inr}
use native.Mathlib.Omega.{arith}
use lib.Dec.{eqb}
use Rattle.message.specs.Read.{reading_of}
use Rattle.grammar.specs.declared.Message.{Message}
use Rattle.protocol.specs.declared.RegistrarInput.{RegistrarInput}
use Rattle.protocol.specs.declared.EndEntityInput.{EndEntityInput}
use Rattle.protocol.specs.declared.Transaction.{Transaction}
use Rattle.protocol.specs.declared.TransactionTable.{TransactionTable}
use Rattle.protocol.specs.declared.Enrolment.{Enrolment}
use Rattle.protocol.specs.Types.{FailureInfo}
use Rattle.protocol.specs.declared.Outcome.{Outcome}
use Rattle.protocol.specs.declared.RegistrarAnswer.{RegistrarAnswer}
use Rattle.protocol.specs.declared.EndEntityAnswer.{EndEntityAnswer}
use Rattle.protocol.specs.declared.Outcome.TheVariants as outcome
use Rattle.protocol.specs.Bytes.{as_id}
use Rattle.protocol.specs.Message.{Fields, fields_of, status_or0}
use Rattle.protocol.specs.Table.{lookup}
use Rattle.protocol.specs.States.{is_granted}
use Rattle.protocol.specs.Refusals.{Row, LowestRow, stop, pass, lowest_row, bit_of}
use Rattle.protocol.specs.RegistrarRows.{registrar_rows}
use Rattle.protocol.specs.Registrar.{registrar_checked, registrar_fields, registrar_message, confirmed_at}
use Rattle.protocol.specs.EndEntityRows.{end_entity_rows}
use Rattle.protocol.specs.EndEntity.{end_entity_checked, end_entity_message, end_entity_read}
use Rattle.protocol.specs.Promises.{Applies, LowestGiven}
use Rattle.protocol.specs.MessageRules.{Means}
use Rattle.der.proofs.Auto.{and_left, and_right}
use Rattle.protocol.proofs.Tests.{true_false, eqb_eq, same_number_lem, applies_at, cases}
use Rattle.protocol.proofs.RegistrarPromises.{refused-number, refused-bit, done_refused, again-refused}
use Rattle.protocol.proofs.RegistrarPasses.{taken_by}
use Rattle.protocol.proofs.EndEntityPasses.{answered_by}
use Rattle.protocol.proofs.ConfirmationMoves.{message-at}
use Rattle.protocol.proofs.LowestRow.{registrar_lowest, end_entity_lowest}

-- ## A row that stands once in its table

abbrev absent : ℕ → List Row → Bool
absent n [] = true
absent n (r ∷ rs) = not (eqb n r.number) && absent n rs

abbrev pub once : ℕ → List Row → Bool
once n [] = true
once n (r ∷ rs) = cond (eqb n r.number) (absent n rs) (once n rs)

absent_none : (n : ℕ) (rs : List Row) → absent n rs ≡ true → Applies n rs → ⊥
absent_none n [] e a = a
absent_none n (r ∷ rs) e (inl g) = true_false (sym (and_left (not (eqb n r.number)) (absent n rs) e) ∙ ap not (same_number_lem n r.number (sym g.0)))
absent_none n (r ∷ rs) e (inr a) = absent_none n rs (and_right (not (eqb n r.number)) (absent n rs) e) a

applies_by : (n : ℕ) (r : Row) (rs : List Row) → (once n rs ≡ true → Applies n rs → applies_at n rs ≡ true) → (b : Bool) → eqb n r.number ≡ b → cond b (absent n rs) (once n rs) ≡ true → Applies n (r ∷ rs) → cond b r.applies (applies_at n rs) ≡ true
applies_by n r rs ih true p o (inl g) = g.1
applies_by n r rs ih true p o (inr a) = absurd (absent_none n rs o a)
applies_by n r rs ih false p o (inl g) = true_false (sym (same_number_lem n r.number (sym g.0)) ∙ p)
applies_by n r rs ih false p o (inr a) = ih o a

-- its test holds where the row applies
pub applies-at : (n : ℕ) (rs : List Row) → once n rs ≡ true → Applies n rs → applies_at n rs ≡ true
applies-at n [] o a = absurd a
applies-at n (r ∷ rs) o a = applies_by n r rs (λ q b. applies-at n rs q b) (eqb n r.number) refl o a

at_by : (n : ℕ) (r : Row) (rs : List Row) → (applies_at n rs ≡ true → Applies n rs) → (b : Bool) → eqb n r.number ≡ b → cond b r.applies (applies_at n rs) ≡ true → Applies n (r ∷ rs)
at_by n r rs ih true p e = inl (sym (eqb_eq n r.number p), e)
at_by n r rs ih false p e = inr (ih e)

-- and the row applies where its test holds
pub at-applies : (n : ℕ) (rs : List Row) → applies_at n rs ≡ true → Applies n rs
at-applies n [] e = true_false (sym e)
at-applies n (r ∷ rs) e = at_by n r rs (λ q. at-applies n rs q) (eqb n r.number) refl e

-- ## A table whose lowest row is given

module _ (n : ℕ) (rows : List Row) (o : Outcome) (l : LowestGiven rows o) (This : Type 0) (b : FailureInfo) where
  means :
      once n rows ≡ true
      → ((c : FailureInfo) → o ≡ outcome.Refused n c → c ≡ b)
      → (applies_at n rows ≡ true → ((k : ℕ) → Applies k rows → n ≤ k) → This)
      → (This → applies_at n rows ≡ true)
      → Means n b This rows o
  means u bit to from =
      record {
        only = λ c e. (bit c e, to (applies-at n rows u (l.given n c e)) (l.lowest n c e));
        given = λ w h. there (from w) h (l.whenever n (at-applies n rows (from w)));
      }
    where
      there : applies_at n rows ≡ true → ((k : ℕ) → Applies k rows → n ≤ k) → (k : ℕ) × (c : FailureInfo) × (o ≡ outcome.Refused k c) → o ≡ outcome.Refused n b
      there a h (k, c, e) =
          let up : k ≤ n = l.lowest k c e n (at-applies n rows a) in
          let down : n ≤ k = h k (l.given k c e) in
          let q : k ≡ n = omega arith in
          let f : o ≡ outcome.Refused n c = e ∙ ap (λ (j : ℕ). outcome.Refused j c) q in
          f ∙ ap (outcome.Refused n) (bit c f)

-- ## The registrar

module _ (n : ℕ) (t : TransactionTable) (d : RegistrarInput) (f : Fields) where
  abbrev g : Option Transaction
  g = lookup t.transactions (as_id f.id)

  -- a refusal has its row's bit
  registrar_bit : (c : LowestRow) → lowest_row (registrar_rows t.transactions g d.verdict f) ≡ c → (b : FailureInfo) → (registrar_checked c g t d f).outcome ≡ outcome.Refused n b → b ≡ bit_of n (confirmed_at g)
  unfolding registrar_checked
  registrar_bit (stop k) e b = λ q. sym (refused-bit k n _ b q) ∙ ap (λ (j : ℕ). bit_of j (confirmed_at g)) (refused-number k n _ b q)
  registrar_bit pass e b =
      taken_by t d f (λ (a : RegistrarAnswer). a.outcome ≡ outcome.Refused n b → b ≡ bit_of n (confirmed_at g)) g e (λ _ _ _ z. done_refused n b z)
      (λ r _ _ _. cases (λ (a : RegistrarAnswer). a.outcome ≡ outcome.Refused n b → b ≡ bit_of n (confirmed_at g)) (is_granted r.state) _ _ (λ _ z. done_refused n b z) (λ _ z. again-refused n b z))

pub registrar_means :
    (n : ℕ) (t : TransactionTable) (d : RegistrarInput) (bytes : List ℕ) (m : Message) → reading_of bytes ≡ Ok m →
    (This : Type 0) (b : FailureInfo) → ((c : Bool) → bit_of n c ≡ b)
    → (let rows : List Row = registrar_rows t.transactions (lookup t.transactions (as_id (fields_of bytes m).id)) d.verdict (fields_of bytes m) in
    once n rows ≡ true
    → (applies_at n rows ≡ true → ((k : ℕ) → Applies k rows → n ≤ k) → This)
    → (This → applies_at n rows ≡ true)
    → Means n b This rows (registrar_message t d bytes).outcome)
unfolding registrar_fields
registrar_means n t d bytes m e This b bit u to from =
    means n _ _ (registrar_lowest t d bytes m e) This b u
    (λ c q. registrar_bit n t d (fields_of bytes m) _ refl c (ap (λ (a : RegistrarAnswer). a.outcome) (sym (message-at t d bytes m e)) ∙ q) ∙ bit _)
    to from

-- ## An end entity

module _ (n : ℕ) (x : Enrolment) (d : EndEntityInput) (f : Fields) where
  end_entity_bit : (c : LowestRow) → lowest_row (end_entity_rows x d.good f) ≡ c → (b : FailureInfo) → (end_entity_checked c x d f).outcome ≡ outcome.Refused n b → b ≡ bit_of n false
  unfolding end_entity_checked
  end_entity_bit (stop k) e b = λ q. sym (refused-bit k n _ b q) ∙ ap (λ (j : ℕ). bit_of j false) (refused-number k n _ b q)
  end_entity_bit pass e b =
      answered_by x d f (λ (a : EndEntityAnswer). a.outcome ≡ outcome.Refused n b → b ≡ bit_of n false) e (λ _ z. done_refused n b z) (λ _ z. done_refused n b z)
      (λ _. cases (λ (a : EndEntityAnswer). a.outcome ≡ outcome.Refused n b → b ≡ bit_of n false) (eqb (status_or0 f.status) 2) _ _ (λ _ z. done_refused n b z) (λ _ z. done_refused n b z))

pub end_entity_means :
    (n : ℕ) (x : Enrolment) (d : EndEntityInput) (bytes : List ℕ) (m : Message) → reading_of bytes ≡ Ok m →
    (This : Type 0) (b : FailureInfo) → bit_of n false ≡ b
    → (let rows : List Row = end_entity_rows x d.good (fields_of bytes m) in
    once n rows ≡ true
    → (applies_at n rows ≡ true → ((k : ℕ) → Applies k rows → n ≤ k) → This)
    → (This → applies_at n rows ≡ true)
    → Means n b This rows (end_entity_message x d bytes).outcome)
unfolding end_entity_message end_entity_read
end_entity_means n x d bytes m e This b bit u to from =
    means n _ _ (end_entity_lowest x d bytes m e) This b u
    (λ c q. end_entity_bit n x d (fields_of bytes m) _ refl c (sym (rw e) ∙ q) ∙ bit)
    to from
