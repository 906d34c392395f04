-- The second group where the first has none.
use Rattle.std.proofs.Common.{rules, ◌∙◌, ap, ℕ}
use Rattle.std.specs.Prelude.{Option}
use Rattle.std.specs.Option.{option_or}
use Rattle.std.proofs.Math.Option.{get_or}
use Rattle.protocol.specs.Message.{fields_of}
use Rattle.protocol.specs.Table.{free_transaction}
use Rattle.protocol.specs.Refusals.{lowest_row}
use Rattle.protocol.specs.RegistrarRows.{transaction_rows, entry_rows}
use Rattle.incoming.specs.Incoming.{number_of}
use Rattle.incoming.proofs.RowLaws.{number_append, or_else_is}
use Rattle.registrar.specs.Steps.{found_by}
use Rattle.registrar.proofs.rows.later_refusal.Goals as goal

pub returns : goal.returns
returns c =
    let f = found_by c.args.found in
    let r = get_or f free_transaction in
    let m = fields_of c.args.message.now c.args.m in
    or_else_is c.transaction_refusal-number.result c.or_else.result (number_of (lowest_row (entry_rows r m))) (λ e. search rules) c.or_else.ensures
    ∙ ap (λ (o : Option ℕ). option_or o (number_of (lowest_row (entry_rows r m)))) c.transaction_refusal-number.ensures
    ∙ number_append (transaction_rows c.args.table.transactions f c.args.verdict r m) (entry_rows r m)
