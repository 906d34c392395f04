-- Every call of an end entity keeps demand 1's promise, on any enrolment.
use Rattle.std.specs.Prelude.{Ok, Err, None, Some}
use Prim.Native.Nat.{ℕ}
use mathlib.Core.List.{List, [], ◌∷◌}
use mathlib.Core.Bool.{Bool, true, false, cond, ◌||◌}
use mathlib.Core.Path.{◌≡◌, refl, sym, subst, ap}
use mathlib.Core.Logic.{◌⊎◌, inl, inr}
use native.Mathlib.Omega.{arith}
use lib.Dec.{eqb}
use Rattle.message.specs.declared.ReadFault.{ReadFault}
use Rattle.message.specs.Read.{reading_of}
use Rattle.message.specs.Types.{Reading}
use Rattle.protocol.specs.declared.TransactionId.{TransactionId}
use Rattle.protocol.specs.declared.FreshNonce.{FreshNonce}
use Rattle.protocol.specs.declared.EndEntityInput.{EndEntityInput}
use Rattle.protocol.specs.declared.EnrolmentState.{EnrolmentState}
use Rattle.protocol.specs.declared.Enrolment.{Enrolment}
use Rattle.protocol.specs.Types.{FailureInfo, ToSend}
use Rattle.protocol.specs.declared.Outgoing.{Outgoing}
use Rattle.protocol.specs.declared.EndEntityAnswer.{EndEntityAnswer}
use Rattle.protocol.specs.declared.Outcome.TheVariants as outcome
use Rattle.protocol.specs.declared.EnrolmentState.TheVariants.{Confirming, Declining, Sure, Declined, Failed, Unsettled}
use Rattle.protocol.specs.Message.{Fields, status_or0, fields_of, is_enrolment_kind, is_starting_kind}
use Rattle.protocol.specs.Outgoing.{silent, request_out}
use Rattle.protocol.specs.States.{is_waiting, is_confirming, broken_state, assured}
use Rattle.protocol.specs.Refusals.{lowest_row, Row, stop, LowestRow, pass, read_refusal, bit_of, no_fault}
use Rattle.protocol.specs.EndEntityRows.{end_entity_rows}
use Rattle.protocol.specs.EndEntity.{enrolment_moved, in_state, end_entity_time_out, enrolment_refused, after_refusal, end_entity_checked, end_entity_read, end_entity_message, started_enrolment, no_enrolment, end_entity_start}
use Rattle.protocol.specs.Promises.{OneOf, EndEntityPromise, end_entity_numbers}
use Rattle.protocol.specs.Request.{IsRequest}
use Rattle.protocol.specs.EnrolmentRules.{StartRule, TimeOutRule, becomes}
use Rattle.der.proofs.Auto.{or_cases}
use Rattle.protocol.proofs.Tests.{true_false, cases, one_of, eqb_eq, request-kind}
use Rattle.protocol.proofs.EndEntityPasses.{answered_by}
use Rattle.protocol.proofs.Rows.{one_in, numbers_of, applies-number, stops}
use Rattle.protocol.proofs.RegistrarPromises.{refused-number, done_refused}

refused-again : (n : ℕ) (b : FailureInfo) → outcome.Refused n b ≡ outcome.Again → ⊥
refused-again n b e = let z : ◌≡◌ {A = ℕ} 0 1 = cc in omega arith

done-again : outcome.Done ≡ outcome.Again → ⊥
done-again e = let z : ◌≡◌ {A = ℕ} 0 1 = cc in omega arith

nothing_sent : {o : Outgoing} {A : Type 0} → Some o ≡ None → A
nothing_sent e = let z : ◌≡◌ {A = ℕ} 0 1 = cc in absurd (omega arith)

same_sent : {o p : Outgoing} → Some o ≡ Some p → o ≡ p
same_sent e = cc

module _ (x : Enrolment) where
  refusing : (ns : List ℕ) (k : ℕ) (b : FailureInfo) (f : ReadFault) → OneOf k ns → EndEntityPromise ns x (record { outcome = outcome.Refused k b; fault = f; outgoing = None; enrolment = x })
  refusing ns k b f i =
      record {
        number = λ n c e. subst (λ (j : ℕ). OneOf j ns) (refused-number k n b c e) i;
        unchanged = λ n c e. refl;
        never = refused-again k b;
        id = refl;
        kind = refl;
        sends = λ o e. nothing_sent (sym e);
      }

  doing : (ns : List ℕ) (y : Enrolment) (o : ToSend) → y.id ≡ x.id → y.kind ≡ x.kind → ((p : Outgoing) → o ≡ Some p → p.kind ≡ 24) → EndEntityPromise ns x (record { outcome = outcome.Done; fault = no_fault; outgoing = o; enrolment = y })
  doing ns y o i k q =
      record {
        number = λ n c e. done_refused n c e;
        unchanged = λ n c e. done_refused n c e;
        never = done-again;
        id = i;
        kind = k;
        sends = q;
      }

  moving : (ns : List ℕ) (s : EnrolmentState) → EndEntityPromise ns x (enrolment_moved (in_state x s))
  moving ns s = doing ns (in_state x s) None refl refl (λ o e. nothing_sent (sym e))

  pub time_out_promise : EndEntityPromise (31 ∷ []) x (end_entity_time_out x)
  unfolding end_entity_time_out
  time_out_promise = cases (EndEntityPromise (31 ∷ []) x) (is_waiting x.state || is_confirming x.state) _ _ (λ _. moving (31 ∷ []) (broken_state x.state)) (λ _. refusing (31 ∷ []) 31 _ _ (inl refl))

  -- ## A message

  abbrev Kept : EndEntityAnswer → Type 0
  Kept = EndEntityPromise end_entity_numbers x

  row_number : (good : Bool) (m : Fields) (k : ℕ) → lowest_row (end_entity_rows x good m) ≡ stop k → OneOf k end_entity_numbers
  unfolding end_entity_rows
  row_number good m k e = let rows : List Row = end_entity_rows x good m in one_in k (numbers_of rows) end_entity_numbers (applies-number k rows (stops rows k e)) refl

  refused-after : (k : ℕ) (m : Fields) → OneOf k end_entity_numbers → Kept (enrolment_refused k (after_refusal k m x))
  unfolding after_refusal
  refused-after k m i = refusing end_entity_numbers k _ _ i

  checked_promise : (d : EndEntityInput) (m : Fields) (c : LowestRow) → lowest_row (end_entity_rows x d.good m) ≡ c → Kept (end_entity_checked c x d m)
  unfolding end_entity_checked
  checked_promise d m (stop k) e = refused-after k m (row_number d.good m k e)
  checked_promise d m pass e =
      answered_by x d m Kept e (λ _. moving end_entity_numbers (assured x.state)) (λ _. moving end_entity_numbers (broken_state x.state))
      (λ _. cases Kept (eqb (status_or0 m.status) 2) _ _ (λ _. moving end_entity_numbers Failed) (λ _. doing end_entity_numbers _ (Some _) refl refl (λ p e. ap (λ (o : Outgoing). o.kind) (sym (same_sent e)))))

  read_number_lem : (b : Bool) → OneOf (cond b 1 2) end_entity_numbers
  read_number_lem true = inl refl
  read_number_lem false = inr (inl refl)

  read_promise : (d : EndEntityInput) (bytes : List ℕ) (r : Reading) → Kept (end_entity_read r x d bytes)
  unfolding end_entity_read
  read_promise d bytes (Err f) = refusing end_entity_numbers (read_refusal f) _ _ (read_number_lem (eqb f.number 1))
  read_promise d bytes (Ok m) = checked_promise d (fields_of bytes m) (lowest_row (end_entity_rows x d.good (fields_of bytes m))) refl

  pub message-promise : (d : EndEntityInput) (bytes : List ℕ) → Kept (end_entity_message x d bytes)
  unfolding end_entity_message
  message-promise d bytes = read_promise d bytes (reading_of bytes)

-- ## A start

start-at :
    (k : ℕ) (i : TransactionId) (n : FreshNonce) (t : Bool) → (m : ℕ) (b : FailureInfo) →
    (cond t (record { outcome = outcome.Done; fault = no_fault; outgoing = Some (request_out k i n); enrolment = started_enrolment k i n }) (enrolment_refused 32 no_enrolment)).outcome ≡ outcome.Refused m b →
    (m ≡ 32) × (t ≡ false)
start-at k i n true m b e = done_refused m b e
start-at k i n false m b e = (sym (refused-number 32 m _ b e), refl)

-- a start is refused by 32, and just for another kind than the four
pub start-promise : (k : ℕ) (i : TransactionId) (n : FreshNonce) → (m : ℕ) (b : FailureInfo) → (end_entity_start k i n).outcome ≡ outcome.Refused m b → (m ≡ 32) × (is_starting_kind k ≡ false)
unfolding end_entity_start
start-promise k i n m b e = start-at k i n (is_starting_kind k) m b e

pub start-never : (k : ℕ) (i : TransactionId) (n : FreshNonce) → (end_entity_start k i n).outcome ≡ outcome.Again → ⊥
unfolding end_entity_start
start-never k i n = cases (λ (a : EndEntityAnswer). a.outcome ≡ outcome.Again → ⊥) (is_starting_kind k) _ _ (λ _. done-again) (λ _. refused-again 32 _)

-- the four kinds, as a test
pub is-request : (k : ℕ) → is_enrolment_kind k ≡ true → IsRequest k
is-request k e = go (or_cases (eqb k 0 || eqb k 2 || eqb k 4) (eqb k 7) e)
  where
    go₂ : (eqb k 0 || eqb k 2) ≡ true → IsRequest k
    go₂ q = left (one_of k 0 2 q)
      where
        left : (k ≡ 0) ⊎ (k ≡ 2) → IsRequest k
        left (inl y) = inl y
        left (inr y) = inr (inl y)

    go₁ : ((eqb k 0 || eqb k 2) ≡ true) ⊎ (eqb k 4 ≡ true) → IsRequest k
    go₁ (inl q) = go₂ q
    go₁ (inr q) = inr (inr (inl (eqb_eq k 4 q)))

    go : ((eqb k 0 || eqb k 2 || eqb k 4) ≡ true) ⊎ (eqb k 7 ≡ true) → IsRequest k
    go (inl q) = go₁ (or_cases (eqb k 0 || eqb k 2) (eqb k 4) q)
    go (inr q) = inr (inr (inr (eqb_eq k 7 q)))

not_request : (k : ℕ) → (IsRequest k → ⊥) → (b : Bool) → is_enrolment_kind k ≡ b → is_enrolment_kind k ≡ false
not_request k d true e = absurd (d (is-request k e))
not_request k d false e = e

pub start_rule : (k : ℕ) (i : TransactionId) (n : FreshNonce) → StartRule k i n
unfolding end_entity_start bit_of
start_rule k i n =
    record {
      asked = λ r. rw (request-kind k r);
      sent = λ r. rw (request-kind k r);
      done = λ r. rw (request-kind k r);
      else = λ d. (rw (not_request k d _ refl), rw (not_request k d _ refl));
    }

-- ## A time out

pub time_out_rule : (x : Enrolment) → TimeOutRule x
unfolding end_entity_time_out bit_of
time_out_rule x = record { failed = λ e. rw e; unsettled = between; else = ended }
  where
    between : (x.state ≡ Confirming) ⊎ (x.state ≡ Declining) → end_entity_time_out x ≡ becomes x Unsettled
    between (inl e) = rw e
    between (inr e) = rw e

    ended : (x.state ≡ Sure) ⊎ (x.state ≡ Declined) ⊎ (x.state ≡ Failed) ⊎ (x.state ≡ Unsettled) → end_entity_time_out x ≡ enrolment_refused 31 x
    ended (inl e) = rw e
    ended (inr (inl e)) = rw e
    ended (inr (inr (inl e))) = rw e
    ended (inr (inr (inr e))) = rw e
