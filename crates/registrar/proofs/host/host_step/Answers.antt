-- What `act` gives at the slot that was found.
use Rattle.std.proofs.Common.{◌≡◌, ◌∙◌, Some}
use Rattle.protocol.specs.Table.{lookup, slot_of}
use Rattle.registrar.specs.Steps.{found_in}
use Rattle.registrar.proofs.HostLaws.{allowed}
use Rattle.registrar.proofs.RowLaws.{found_some}
use Rattle.registrar.proofs.host.host_step.Goals as goal

pub returns : goal.returns
returns g c =
    let rs = c.args.table.transactions in
    let e : found_in (lookup rs c.args.id) (slot_of rs c.args.id) ≡ Some (c.in-Some.slot, c.in-Some.held) = rw (← c.find.ensures) c.in-Some.is in
    let it = found_some (lookup rs c.args.id) (slot_of rs c.args.id) c.in-Some.slot c.in-Some.held e in
    λ ok f tests acts.
    let acted : c.act.result ≡ f c.in-Some.held = acts c.in-Some.held c.act.result (rw it.1 at c.act.ensures) in
    acted ∙ allowed c.args.table (lookup rs c.args.id) ok f it.0 (tests c.in-Some.held c.may.result c.may.ensures) c.if-not-may.false
