-- The later rows refuse it, or it is taken.
use Rattle.std.proofs.Common.{◌∙◌, ap}
use Rattle.protocol.specs.Message.{fields_of}
use Rattle.protocol.specs.declared.Transaction.{Transaction}
use Rattle.protocol.specs.States.{is_confirmed}
use Rattle.registrar.proofs.StepLaws.{later_refused, later_taken}
use Rattle.registrar.proofs.step.headed.Goals as goal

pub returns-in-Some : goal.returns-in-Some
unfolding fields_of
returns-in-Some c =
    c.refused_message.ensures
    ∙ later_refused c.args.table c.args.input c.requires c.find-found.ensures c.later_refusal.ensures
    (c.is_confirmed-confirmed.ensures ∙ ap (λ (r : Transaction). is_confirmed r.state) c.held_or_free.ensures) c.in-Some.is

pub returns : goal.returns
unfolding fields_of
returns c =
    c.taken.ensures
    ∙ later_taken c.args.table c.args.input c.requires c.find-found.ensures c.later_refusal.ensures
    c.status_or_0-status.ensures c.in_default.is
