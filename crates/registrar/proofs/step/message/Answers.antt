-- A reading is refused or clean.
use Rattle.std.proofs.Common.{◌∙◌}
use Rattle.registrar.proofs.StepLaws.{unread, clean}
use Rattle.registrar.proofs.step.message.Goals as goal

pub returns-in_default : goal.returns-in_default
returns-in_default c =
    c.refused_reading.ensures
    ∙ unread c.args.table c.args.input _ c.read-reading.ensures c.in_default.is c.fault_of.ensures

pub returns : goal.returns
returns c =
    c.step.ensures ∙ clean c.args.table c.args.input _ c.read-reading.ensures c.in-Ok.is
