-- What is done at the slot is done for the id.
use Rattle.std.proofs.Common.{rules, ◌≡◌, ◌∙◌}
use Rattle.protocol.specs.Table.{slot_of}
use Rattle.protocol.specs.States.{may_refuse}
use Rattle.protocol.specs.Registrar.{registrar_refuse, respond}
use Rattle.protocol.specs.declared.TransactionState.TheVariants.{Refused}
use Rattle.registrar.specs.Steps.{response_answer}
use Rattle.registrar.proofs.HostLaws.{sending}
use Rattle.registrar.proofs.host.refuse.Goals as goal

pub returns : goal.returns
unfolding registrar_refuse
returns c =
    let t = c.args.table in
    let i = c.args.id in
    let p = slot_of t.transactions i in
    c.host_step.ensures may_refuse (λ r. respond t i r Refused 2 c.args.nonce r.hash) (λ x b e. e.1) (λ x a e. let h : a ≡ response_answer t p x i Refused 2 c.args.nonce x.hash = search rules in h ∙ sending t i x Refused 2 c.args.nonce x.hash)
