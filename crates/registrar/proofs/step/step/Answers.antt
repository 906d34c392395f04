-- The first five rows refuse it, or its id and nonce are whole.
use Rattle.std.proofs.Common.{◌∙◌}
use Rattle.registrar.proofs.StepLaws.{head-refused, head_copied, head_passed}
use Rattle.registrar.proofs.step.step.Goals as goal

pub returns-in-Some : goal.returns-in-Some
returns-in-Some c =
    c.refused_message.ensures
    ∙ head-refused c.args.table c.args.input _ c.args.m _ c.id_of-id.ensures _ c.nonce_of-answered.ensures
    c.is_good.ensures c.head_refusal.ensures c.in-Some.is

pub headed-requires : goal.headed-requires
headed-requires c =
    head_copied c.args.table c.args.input _ c.args.m _ c.id_of-id.ensures _ c.nonce_of-answered.ensures
    c.is_good.ensures c.head_refusal.ensures c.in_default.is

pub returns : goal.returns
returns c =
    c.headed.ensures
    ∙ head_passed c.args.table c.args.input _ c.args.m _ c.id_of-id.ensures _ c.nonce_of-answered.ensures
    c.is_good.ensures c.head_refusal.ensures c.in_default.is
