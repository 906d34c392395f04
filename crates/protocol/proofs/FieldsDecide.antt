-- Nothing but the fields decides: messages with the same fields get the same answer, whatever else they carry (generalInfo with
-- implicitConfirm, free text, key identifiers, extra certificates).
use Rattle.std.specs.Prelude.{Ok}
use Prim.Native.Nat.{ℕ}
use mathlib.Core.List.{List}
use mathlib.Core.Path.{◌≡◌, sym, ◌∙◌, ap}
use Rattle.message.specs.Read.{reading_of}
use Rattle.grammar.specs.declared.Message.{Message}
use Rattle.protocol.specs.declared.RegistrarInput.{RegistrarInput}
use Rattle.protocol.specs.declared.EndEntityInput.{EndEntityInput}
use Rattle.protocol.specs.declared.TransactionTable.{TransactionTable}
use Rattle.protocol.specs.declared.Enrolment.{Enrolment}
use Rattle.protocol.specs.Message.{fields_of, Fields}
use Rattle.protocol.specs.Refusals.{lowest_row}
use Rattle.protocol.specs.Registrar.{registrar_message, registrar_fields}
use Rattle.protocol.specs.EndEntityRows.{end_entity_rows}
use Rattle.protocol.specs.EndEntity.{end_entity_message, end_entity_checked}
use Rattle.protocol.proofs.ConfirmationMoves.{message-at}
use Rattle.protocol.proofs.EnrolmentTakes.{answer_at}

pub registrar_fields_lem : (t : TransactionTable) (d : RegistrarInput) (a b : List ℕ) (m n : Message) → reading_of a ≡ Ok m → reading_of b ≡ Ok n → fields_of a m ≡ fields_of b n → registrar_message t d a ≡ registrar_message t d b
registrar_fields_lem t d a b m n p q e = message-at t d a m p ∙ ap (registrar_fields t d) e ∙ sym (message-at t d b n q)

pub end_entity_fields_lem : (x : Enrolment) (d : EndEntityInput) (a b : List ℕ) (m n : Message) → reading_of a ≡ Ok m → reading_of b ≡ Ok n → fields_of a m ≡ fields_of b n → end_entity_message x d a ≡ end_entity_message x d b
end_entity_fields_lem x d a b m n p q e =
    answer_at x d a m p
    ∙ ap (λ (f : Fields). end_entity_checked (lowest_row (end_entity_rows x d.good f)) x d f) e
    ∙ sym (answer_at x d b n q)
