-- What a message at an end entity shows that no row refuses: it goes by its kind.
use mathlib.Core.Bool.{true, false, ◌||◌}
use mathlib.Core.Path.{◌≡◌, sym, ◌∙◌, ap}
use lib.Dec.{eqb}
use Rattle.protocol.specs.declared.EndEntityInput.{EndEntityInput}
use Rattle.protocol.specs.declared.Enrolment.{Enrolment}
use Rattle.protocol.specs.declared.EndEntityAnswer.{EndEntityAnswer}
use Rattle.protocol.specs.Message.{Fields, is_response, response_to}
use Rattle.protocol.specs.States.{assured, broken_state}
use Rattle.protocol.specs.Refusals.{pass, lowest_row}
use Rattle.protocol.specs.EndEntityRows.{end_entity_rows, acknowledges, reports, responds}
use Rattle.protocol.specs.EndEntity.{enrolment_moved, in_state, response_taken, end_entity_checked}
use Rattle.protocol.proofs.Tests.{true_false, not_false, passes, eqb_eq, or_right, cases, is-response}

module _ (x : Enrolment) (d : EndEntityInput) (m : Fields) where
  -- 8: what is neither pkiconf nor error is the response to its request
  pub response_it : lowest_row (end_entity_rows x d.good m) ≡ pass → acknowledges m ≡ false → reports m ≡ false → m.kind ≡ response_to x.kind
  unfolding end_entity_rows
  response_it e p q =
      let h8 : (acknowledges m || reports m || eqb m.kind (response_to x.kind)) ≡ true = not_false _ (passes 8 (end_entity_rows x d.good m) e) in
      eqb_eq m.kind (response_to x.kind) (or_right (acknowledges m || reports m) (eqb m.kind (response_to x.kind)) h8 (rw (p, q)))

  pub responds_it : lowest_row (end_entity_rows x d.good m) ≡ pass → acknowledges m ≡ false → reports m ≡ false → responds m ≡ true
  responds_it e p q = ap is_response (response_it e p q) ∙ is-response x.kind

  -- what holds of a pkiconf, an error and a response holds of what is not refused
  pub answered_by :
      (P : EndEntityAnswer → Type 0) → lowest_row (end_entity_rows x d.good m) ≡ pass → (acknowledges m ≡ true → P (enrolment_moved (in_state x (assured x.state)))) →
      (reports m ≡ true → P (enrolment_moved (in_state x (broken_state x.state)))) → (responds m ≡ true → P (response_taken x d m)) →
      P (end_entity_checked pass x d m)
  unfolding end_entity_checked
  answered_by P e a r s = cases P (acknowledges m) _ _ a (λ p. cases P (reports m) _ _ r (λ q. cases P (responds m) _ _ s (λ n. true_false (sym (responds_it e p q) ∙ n))))
