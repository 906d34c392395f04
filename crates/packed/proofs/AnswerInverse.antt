-- An answer reads back as it was packed.
use Rattle.std.specs.Prelude.{Some, None, is_some}
use Prim.Native.Nat.{ℕ, ◌+◌, ◌*◌, ◌/◌, ◌%◌, ◌<◌, ◌≤◌}
use mathlib.Core.List.{List, ◌++◌, append_assoc}
use mathlib.Core.Bool.{true, cond}
use mathlib.Core.Path.{◌≡◌, refl, ◌∙◌, ap}
use native.Mathlib.Omega.{arith}
use borrow.Author.Tests.{leb-true, lt-ltb}
use lib.ListN.{length, drop, get_or}
use lib.Seq.{sets-eq}
use lib.Dec.{leb}
use Rattle.protocol.specs.Types.{FailureInfo, ToSend}
use Rattle.protocol.specs.declared.Outcome.{Outcome}
use Rattle.protocol.specs.declared.Outcome.TheVariants.{Done, Again, Refused}
use Rattle.protocol.specs.declared.RegistrarAnswer.{RegistrarAnswer}
use Rattle.protocol.specs.declared.EndEntityAnswer.{EndEntityAnswer}
use Rattle.packed.specs.Bytes.{flag_at, pack_at, fits_at}
use Rattle.packed.specs.Places.{answer_code_at, answer_refusal_at, registrar_slot_at, registrar_sends_at, registrar_outgoing_at, end_entity_sends_at, end_entity_outgoing_at}
use Rattle.packed.specs.Outgoing.{outgoing_of, OutgoingSized}
use Rattle.packed.specs.Answer.{sent_or_silent, outcome_number, refusal_number, pack_outcome, pack_fault, pack_registrar_answer, pack_end_entity_answer, registrar_answer_bytes, end_entity_answer_bytes, outcome_of, read_fault_of, registrar_answer_of, end_entity_answer_of, OutcomeBack}
use Rattle.packed.specs.Table.{table_held}
use Rattle.packed.specs.Enrolment.{enrolment_held}
use Rattle.packed.proofs.FieldLaws.{flag-back, four_back}
use Rattle.packed.proofs.OutgoingInverse.{outgoing-back, outgoing-length}

-- ## An answer in bytes that have room for it

placed : (n : ℕ) (x b : List ℕ) → length x ≡ n → fits_at 0 n b ≡ true → pack_at 0 n x b ≡ x ++ drop (0 + n) b
unfolding pack_at
placed n x b e r =
    let h : 0 + n ≤ length b = leb-true _ _ r in
    rw (r, sets-eq x b 0 (omega arith), e)

outcome-back : (o : Outcome) (rest : List ℕ) → OutcomeBack o → outcome_of (pack_outcome o ++ rest) ≡ o
unfolding outcome_of pack_outcome
outcome-back Done rest h = refl
outcome-back Again rest h = refl
outcome-back (Refused n f) rest h = ap (Refused n) h

eight_back : (n : ℕ) → 4294967296 * (n / 4294967296) + n % 4294967296 ≡ n
eight_back n = omega arith

-- what is to be sent, from the two that say so
sent_again : (o : ToSend) → cond (is_some o) (Some (sent_or_silent o)) None ≡ o
sent_again (Some o) = refl
sent_again None = refl

module _ (a : RegistrarAnswer) (b : List ℕ) (z : OutgoingSized (sent_or_silent a.outgoing)) (r : leb registrar_answer_bytes (length b) ≡ true) where
  registrar_length : length (pack_registrar_answer a) ≡ registrar_answer_bytes
  unfolding pack_registrar_answer pack_outcome pack_fault
  registrar_length = omega (arith, outgoing-length (sent_or_silent a.outgoing) z)

  registrar_placed : pack_at 0 registrar_answer_bytes (pack_registrar_answer a) b ≡ pack_registrar_answer a ++ drop registrar_answer_bytes b
  registrar_placed = placed registrar_answer_bytes (pack_registrar_answer a) b registrar_length r

  pub registrar_outcome_back : OutcomeBack a.outcome → outcome_of (pack_at 0 registrar_answer_bytes (pack_registrar_answer a) b) ≡ a.outcome
  unfolding pack_registrar_answer
  registrar_outcome_back h = ap outcome_of (registrar_placed ∙ append_assoc (pack_outcome a.outcome) _ _) ∙ outcome-back a.outcome _ h

  registrar_fault_back : read_fault_of (pack_at 0 registrar_answer_bytes (pack_registrar_answer a) b) ≡ a.fault
  unfolding pack_registrar_answer pack_outcome pack_fault
  registrar_fault_back = ap read_fault_of registrar_placed ∙ rw (four_back (a.fault.at.0 / 4294967296), four_back (a.fault.at.0 % 4294967296), eight_back a.fault.at.0)

  registrar_slot_back : a.slot.0 < 255 → get_or (pack_at 0 registrar_answer_bytes (pack_registrar_answer a) b) registrar_slot_at 0 ≡ a.slot.0
  unfolding pack_registrar_answer pack_outcome pack_fault
  registrar_slot_back h = ap (λ (l : List ℕ). get_or l registrar_slot_at 0) registrar_placed ∙ rw (lt-ltb a.slot.0 255 h)

  pub registrar_sends_back : flag_at registrar_sends_at (pack_at 0 registrar_answer_bytes (pack_registrar_answer a) b) ≡ is_some a.outgoing
  unfolding pack_registrar_answer pack_outcome pack_fault
  registrar_sends_back = ap (flag_at registrar_sends_at) registrar_placed ∙ flag-back (is_some a.outgoing)

  pub registrar_outgoing_back : outgoing_of (drop registrar_outgoing_at (pack_at 0 registrar_answer_bytes (pack_registrar_answer a) b)) ≡ sent_or_silent a.outgoing
  unfolding pack_registrar_answer pack_outcome pack_fault
  registrar_outgoing_back = ap (λ (l : List ℕ). outgoing_of (drop registrar_outgoing_at l)) registrar_placed ∙ outgoing-back (sent_or_silent a.outgoing) z (drop registrar_answer_bytes b)

  -- all of the answer
  pub registrar_back : OutcomeBack a.outcome → a.slot.0 < 255 → (s : List ℕ) → table_held s ≡ a.table
      → registrar_answer_of (pack_at 0 registrar_answer_bytes (pack_registrar_answer a) b) s ≡ a
  unfolding registrar_answer_of
  registrar_back o h s e = rw (registrar_outcome_back o, registrar_fault_back, registrar_slot_back h, registrar_sends_back, registrar_outgoing_back, sent_again a.outgoing, e)

  -- the code and the refusal's number at their places
  pub registrar_code_at : get_or (pack_at 0 registrar_answer_bytes (pack_registrar_answer a) b) answer_code_at 0 ≡ outcome_number a.outcome
  unfolding pack_registrar_answer pack_outcome
  registrar_code_at = ap (λ (l : List ℕ). get_or l answer_code_at 0) registrar_placed

  pub registrar_refusal_at : (n : ℕ) (f : FailureInfo) → a.outcome ≡ Refused n f → get_or (pack_at 0 registrar_answer_bytes (pack_registrar_answer a) b) answer_refusal_at 0 ≡ n
  unfolding pack_registrar_answer pack_outcome
  registrar_refusal_at n f e = ap (λ (l : List ℕ). get_or l answer_refusal_at 0) registrar_placed ∙ ap refusal_number e

module _ (a : EndEntityAnswer) (b : List ℕ) (z : OutgoingSized (sent_or_silent a.outgoing)) (r : leb end_entity_answer_bytes (length b) ≡ true) where
  end_entity_length : length (pack_end_entity_answer a) ≡ end_entity_answer_bytes
  unfolding pack_end_entity_answer pack_outcome pack_fault
  end_entity_length = omega (arith, outgoing-length (sent_or_silent a.outgoing) z)

  end_entity_placed : pack_at 0 end_entity_answer_bytes (pack_end_entity_answer a) b ≡ pack_end_entity_answer a ++ drop end_entity_answer_bytes b
  end_entity_placed = placed end_entity_answer_bytes (pack_end_entity_answer a) b end_entity_length r

  pub end_entity_outcome_back : OutcomeBack a.outcome → outcome_of (pack_at 0 end_entity_answer_bytes (pack_end_entity_answer a) b) ≡ a.outcome
  unfolding pack_end_entity_answer
  end_entity_outcome_back h = ap outcome_of (end_entity_placed ∙ append_assoc (pack_outcome a.outcome) _ _) ∙ outcome-back a.outcome _ h

  pub end_entity_code_at : get_or (pack_at 0 end_entity_answer_bytes (pack_end_entity_answer a) b) answer_code_at 0 ≡ outcome_number a.outcome
  unfolding pack_end_entity_answer pack_outcome
  end_entity_code_at = ap (λ (l : List ℕ). get_or l answer_code_at 0) end_entity_placed

  pub end_entity_refusal_at : (n : ℕ) (f : FailureInfo) → a.outcome ≡ Refused n f → get_or (pack_at 0 end_entity_answer_bytes (pack_end_entity_answer a) b) answer_refusal_at 0 ≡ n
  unfolding pack_end_entity_answer pack_outcome
  end_entity_refusal_at n f e = ap (λ (l : List ℕ). get_or l answer_refusal_at 0) end_entity_placed ∙ ap refusal_number e

  pub end_entity_fault_back : read_fault_of (pack_at 0 end_entity_answer_bytes (pack_end_entity_answer a) b) ≡ a.fault
  unfolding pack_end_entity_answer pack_outcome pack_fault
  end_entity_fault_back = ap read_fault_of end_entity_placed ∙ rw (four_back (a.fault.at.0 / 4294967296), four_back (a.fault.at.0 % 4294967296), eight_back a.fault.at.0)

  pub end_entity_sends_back : flag_at end_entity_sends_at (pack_at 0 end_entity_answer_bytes (pack_end_entity_answer a) b) ≡ is_some a.outgoing
  unfolding pack_end_entity_answer pack_outcome pack_fault
  end_entity_sends_back = ap (flag_at end_entity_sends_at) end_entity_placed ∙ flag-back (is_some a.outgoing)

  pub end_entity_outgoing_back : outgoing_of (drop end_entity_outgoing_at (pack_at 0 end_entity_answer_bytes (pack_end_entity_answer a) b)) ≡ sent_or_silent a.outgoing
  unfolding pack_end_entity_answer pack_outcome pack_fault
  end_entity_outgoing_back = ap (λ (l : List ℕ). outgoing_of (drop end_entity_outgoing_at l)) end_entity_placed ∙ outgoing-back (sent_or_silent a.outgoing) z (drop end_entity_answer_bytes b)

  pub end_entity_back : OutcomeBack a.outcome → (s : List ℕ) → enrolment_held s ≡ a.enrolment
      → end_entity_answer_of (pack_at 0 end_entity_answer_bytes (pack_end_entity_answer a) b) s ≡ a
  unfolding end_entity_answer_of
  end_entity_back o s e = rw (end_entity_outcome_back o, end_entity_fault_back, end_entity_sends_back, end_entity_outgoing_back, sent_again a.outgoing, e)
