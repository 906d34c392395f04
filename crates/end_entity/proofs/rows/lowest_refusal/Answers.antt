-- The second group where the first has none.
use Rattle.std.proofs.Common.{rules, ◌∙◌, ap, ℕ}
use Rattle.std.specs.Prelude.{Option}
use Rattle.std.specs.Option.{option_or}
use Rattle.protocol.specs.Message.{fields_of}
use Rattle.protocol.specs.Refusals.{head_rows, lowest_row}
use Rattle.protocol.specs.EndEntityRows.{answer_rows, end_entity_rows}
use Rattle.incoming.specs.Incoming.{number_of}
use Rattle.incoming.proofs.RowLaws.{number_append, or_else_is}
use Rattle.end_entity.proofs.rows.lowest_refusal.Goals as goal

pub returns : goal.returns
unfolding end_entity_rows
returns c =
    let x = c.args.enrolment in
    let m = fields_of c.args.message.now c.args.m in
    or_else_is c.head_refusal.result c.or_else.result (number_of (lowest_row (answer_rows x m))) (λ e. search rules) c.or_else.ensures
    ∙ ap (λ (o : Option ℕ). option_or o (number_of (lowest_row (answer_rows x m)))) c.head_refusal.ensures
    ∙ number_append (head_rows c.args.good m) (answer_rows x m)
