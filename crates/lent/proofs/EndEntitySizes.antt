-- Every call of an end entity keeps the enrolment's sizes, and what it answers reads back.
use Rattle.std.specs.Prelude.{Ok, Err}
use Prim.Native.Nat.{ℕ}
use mathlib.Core.List.{List}
use mathlib.Core.Bool.{false, ◌||◌}
use mathlib.Core.Path.{◌≡◌, refl, sym, subst}
use lib.ListN.{length}
use lib.Dec.{eqb}
use Rattle.message.specs.Read.{reading_of}
use Rattle.message.specs.Types.{Reading}
use Rattle.protocol.specs.declared.TransactionId.{TransactionId}
use Rattle.protocol.specs.declared.FreshNonce.{FreshNonce}
use Rattle.protocol.specs.declared.EndEntityInput.{EndEntityInput}
use Rattle.protocol.specs.declared.EnrolmentState.{EnrolmentState}
use Rattle.protocol.specs.declared.Enrolment.{Enrolment}
use Rattle.protocol.specs.declared.EndEntityAnswer.{EndEntityAnswer}
use Rattle.protocol.specs.Bytes.{as_nonce}
use Rattle.protocol.specs.Message.{Fields, fields_of, is_starting_kind, status_or0}
use Rattle.protocol.specs.Refusals.{LowestRow, pass, stop, lowest_row}
use Rattle.protocol.specs.EndEntityRows.{end_entity_rows}
use Rattle.protocol.specs.States.{is_waiting, is_confirming}
use Rattle.protocol.specs.EndEntity.{in_state, enrolment_moved, end_entity_start, after_refusal, end_entity_checked, end_entity_read, end_entity_message, end_entity_time_out}
use Rattle.protocol.proofs.Tests.{cases}
use Rattle.protocol.proofs.EndEntityPasses.{answered_by}
use Rattle.packed.specs.Enrolment.{EnrolmentSized}
use Rattle.packed.specs.Outgoing.{OutgoingSized}
use Rattle.packed.specs.Answer.{sent_or_silent, OutcomeBack}
use Rattle.lent.proofs.Sizes.{bit-back, silent_sized, Late, late, sixteen}

pub record EndEntitySized (a : EndEntityAnswer) : Type 0 where
  pub enrolment : EnrolmentSized a.enrolment
  pub outgoing : OutgoingSized (sent_or_silent a.outgoing)
  pub outcome : OutcomeBack a.outcome

pub start_sized : (k : ℕ) (i : TransactionId) (n : FreshNonce) → length i.bytes ≡ 16 → length n.bytes ≡ 16 → EndEntitySized (end_entity_start k i n)
unfolding end_entity_start
start_sized k i n p q =
    cases EndEntitySized (is_starting_kind k) _ _
    (λ _.
    record {
      enrolment = record { id = p; last = q; taken = refl; hash = refl };
      outgoing = record { id = p; sender = q; recip = refl; hash = refl; failure = refl };
      outcome = tt;
    })
    (λ _. record { enrolment = record { id = refl; last = refl; taken = refl; hash = refl }; outgoing = silent_sized; outcome = bit-back 32 false })

module _ (x : Enrolment) (z : EnrolmentSized x) where
  moved_sized : (s : EnrolmentState) → EndEntitySized (enrolment_moved (in_state x s))
  moved_sized s = record { enrolment = record { id = z.id; last = z.last; taken = z.taken; hash = z.hash }; outgoing = silent_sized; outcome = tt }

  pub time_out_sized : EndEntitySized (end_entity_time_out x)
  unfolding end_entity_time_out
  time_out_sized =
      cases EndEntitySized (is_waiting x.state || is_confirming x.state) _ _ (λ _. moved_sized _) (λ _. record { enrolment = z; outgoing = silent_sized; outcome = bit-back 31 false })

  module _ (d : EndEntityInput) (h : length d.hash.bytes ≡ 32) (n : length d.nonce.bytes ≡ 16) where
    sender : (m : Fields) → lowest_row (end_entity_rows x d.good m) ≡ pass → length (as_nonce m.sender_nonce).bytes ≡ 16
    unfolding end_entity_rows
    sender m e = sixteen m.sender_nonce (late _ _ _ _ (subst Late (sym e) tt)).1

    checked_sized : (m : Fields) (c : LowestRow) → lowest_row (end_entity_rows x d.good m) ≡ c → EndEntitySized (end_entity_checked c x d m)
    unfolding end_entity_checked after_refusal
    checked_sized m (stop k) e = record { enrolment = z; outgoing = silent_sized; outcome = bit-back k false }
    checked_sized m pass e =
        answered_by x d m EndEntitySized e (λ _. moved_sized _) (λ _. moved_sized _)
        (λ _.
        cases EndEntitySized (eqb (status_or0 m.status) 2) _ _ (λ _. moved_sized _)
        (λ _.
        record {
          enrolment = record { id = z.id; last = n; taken = sender m e; hash = h };
          outgoing = record { id = z.id; sender = n; recip = sender m e; hash = h; failure = refl };
          outcome = tt;
        }))

    read_sized : (bytes : List ℕ) (r : Reading) → EndEntitySized (end_entity_read r x d bytes)
    unfolding end_entity_read
    read_sized bytes (Err f) = record { enrolment = z; outgoing = silent_sized; outcome = bit-back _ false }
    read_sized bytes (Ok m) = checked_sized (fields_of bytes m) _ refl

    pub message_sized : (bytes : List ℕ) → EndEntitySized (end_entity_message x d bytes)
    unfolding end_entity_message
    message_sized bytes = read_sized bytes (reading_of bytes)
