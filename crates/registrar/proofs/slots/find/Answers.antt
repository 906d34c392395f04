use Rattle.std.proofs.Common.{rules, tests, ◌∙◌}
use Rattle.std.proofs.lemmas.Iterator.{YieldsList-from_slice}
use Rattle.std.proofs.lemmas.Iterator.Search.{position_from_yields_List}
use Rattle.protocol.specs.Table.{is_for}
use Rattle.registrar.proofs.SlotLaws.{finds}
use Rattle.registrar.proofs.slots.find.Goals as goal

pub returns-in_err-place : goal.returns-in_err-place
returns-in_err-place c =
    let rs = c.args.table.transactions in
    let at = position_from_yields_List (is_for c.args.id) _ _ c.position.result c.position.ensures.ran (YieldsList-from_slice rs cc) (λ x b q k. search (rules, tests)) in
    c.from_residual.ensures ∙ (finds rs c.args.id c.position.result at).0 c.in_err-place.was

pub returns : goal.returns
returns c =
    let rs = c.args.table.transactions in
    let at = position_from_yields_List (is_for c.args.id) _ _ c.position.result c.position.ensures.ran (YieldsList-from_slice rs cc) (λ x b q k. search (rules, tests)) in
    rw c.transaction_at.ensures ((finds rs c.args.id c.position.result at).1 c.in_ok-place.place _ c.in_ok-place.was)
