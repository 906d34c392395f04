-- What is done at the slot is done for the id.
use Rattle.std.proofs.Common.{rules, ◌≡◌, ◌∙◌}
use Rattle.protocol.specs.Table.{slot_of}
use Rattle.protocol.specs.States.{may_issue}
use Rattle.protocol.specs.Registrar.{registrar_issue, respond}
use Rattle.protocol.specs.declared.TransactionState.TheVariants.{Granted}
use Rattle.registrar.specs.Steps.{response_answer}
use Rattle.registrar.proofs.HostLaws.{sending}
use Rattle.registrar.proofs.host.issue.Goals as goal

pub returns : goal.returns
unfolding registrar_issue
returns c =
    let t = c.args.table in
    let i = c.args.id in
    let p = slot_of t.transactions i in
    c.host_step.ensures may_issue (λ r. respond t i r Granted 0 c.args.nonce c.args.hash) (λ x b e. e.1) (λ x a e. let h : a ≡ response_answer t p x i Granted 0 c.args.nonce c.args.hash = search rules in h ∙ sending t i x Granted 0 c.args.nonce c.args.hash)
