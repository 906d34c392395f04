use Rattle.std.proofs.Common.{rules, tests, ◌∙◌}
use Rattle.std.proofs.lemmas.Iterator.{YieldsList-from_slice}
use Rattle.std.proofs.lemmas.Iterator.Search.{position_from_yields_List}
use Rattle.protocol.specs.declared.Transaction.{Transaction}
use Rattle.protocol.specs.Table.{is_free}
use Rattle.registrar.proofs.SlotLaws.{frees}
use Rattle.registrar.proofs.slots.free_slot.Goals as goal

pub returns-in_err-place-clause-slot : goal.returns-in_err-place-clause-slot
returns-in_err-place-clause-slot c =
    let rs = c.args.table.transactions in
    let at = position_from_yields_List (λ (t : Transaction). is_free t.state) _ _ c.position.result c.position.ensures.ran (YieldsList-from_slice rs cc) (λ x b q k. search (rules, tests)) in
    c.from_residual.ensures ∙ (frees rs c.position.result at).0 c.in_err-place.was

pub returns-clause-slot : goal.returns-clause-slot
returns-clause-slot c =
    let rs = c.args.table.transactions in
    let at = position_from_yields_List (λ (t : Transaction). is_free t.state) _ _ c.position.result c.position.ensures.ran (YieldsList-from_slice rs cc) (λ x b q k. search (rules, tests)) in
    (frees rs c.position.result at).1 c.in_ok-place.place c.in_ok-place.was
