-- What is done at the slot is done for the id.
use Rattle.std.proofs.Common.{rules, ◌≡◌, ◌∙◌, refl, set}
use Rattle.protocol.specs.Table.{slot_of, free_transaction}
use Rattle.protocol.specs.States.{may_close}
use Rattle.protocol.specs.Registrar.{registrar_close, replaced, done_quietly}
use Rattle.registrar.proofs.HostLaws.{quietly}
use Rattle.registrar.proofs.host.close.Goals as goal

pub returns : goal.returns
unfolding registrar_close
returns c =
    let t = c.args.table in
    let i = c.args.id in
    let p = slot_of t.transactions i in
    c.host_step.ensures may_close (λ r. replaced t i free_transaction) (λ x b e. e.1) (λ x a e. let h : a ≡ done_quietly p (set t.transactions p free_transaction) = search rules in h ∙ quietly t i refl)
