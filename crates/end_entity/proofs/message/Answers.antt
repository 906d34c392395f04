-- The reading is taken apart as the definition does.
use Rattle.std.proofs.Common.{◌∙◌}
use Rattle.end_entity.proofs.CheckedLaws.{unread_at, read_at}
use Rattle.end_entity.proofs.message.Goals as goal

pub returns-in_default : goal.returns-in_default
returns-in_default c =
    c.unread.ensures ∙ unread_at c.args.enrolment c.args.input c.args.bytes.now c.read-reading.ensures c.in_default.is c.fault_of.ensures

pub returns : goal.returns
returns c =
    c.checked.ensures ∙ read_at c.args.enrolment c.args.input c.args.bytes.now c.read-reading.ensures c.in-Ok.is
