-- The lowest free slot takes the transaction.
use Rattle.std.proofs.Common.{◌∙◌, ap}
use Rattle.registrar.specs.Steps.{with_at}
use Rattle.registrar.proofs.StepLaws.{open_is, open-full}
use Rattle.registrar.proofs.step.open.Goals as goal

pub returns-in_default : goal.returns-in_default
returns-in_default c =
    c.done_quietly.ensures ∙ open-full c.args.table _ c.free_slot.ensures.slot c.free_slot.ensures.slots c.in_default.is

pub returns : goal.returns
returns c =
    c.done_quietly-2.ensures ∙ open_is c.args.table _ c.free_slot.ensures.slot c.in-Some.is (c.with_at-next.ensures ∙ ap (with_at c.args.table _) c.asked.ensures)
