-- What is done at the slot is done for the id.
use Rattle.std.proofs.Common.{rules, ◌≡◌, ◌∙◌, refl, set}
use Rattle.protocol.specs.Table.{slot_of}
use Rattle.protocol.specs.States.{may_lapse}
use Rattle.protocol.specs.Registrar.{registrar_lapse, settled, replaced, done_quietly}
use Rattle.protocol.specs.declared.TransactionState.TheVariants.{Lapsed}
use Rattle.registrar.proofs.HostLaws.{quietly}
use Rattle.registrar.proofs.host.lapse.Goals as goal

pub returns : goal.returns
unfolding registrar_lapse
returns c =
    let t = c.args.table in
    let i = c.args.id in
    let p = slot_of t.transactions i in
    c.host_step.ensures may_lapse (λ r. replaced t i (settled r Lapsed r.taken)) (λ x b e. e.1) (λ x a e. let h : a ≡ done_quietly p (set t.transactions p (settled x Lapsed x.taken)) = search rules in h ∙ quietly t i refl)
