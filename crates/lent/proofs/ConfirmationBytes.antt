-- Demand 2 over lent bytes.
use Rattle.std.specs.Prelude.{Ok, Some, None}
use Prim.Native.Nat.{ℕ}
use mathlib.Core.List.{List}
use mathlib.Core.Bool.{Bool, true, false}
use mathlib.Core.Path.{◌≡◌, refl, sym, ◌∙◌, ap, subst}
use mathlib.Core.Logic.{◌⊎◌, inl, inr}
use native.Mathlib.Omega.{arith}
use Rattle.message.specs.Read.{reading_of}
use Rattle.grammar.specs.declared.Message.{Message}
use Rattle.protocol.specs.Types.{GivenStatus}
use Rattle.protocol.specs.declared.RegistrarInput.{RegistrarInput}
use Rattle.protocol.specs.declared.TransactionState.{TransactionState}
use Rattle.protocol.specs.declared.TransactionState.TheVariants.{Confirmed, Declined}
use Rattle.protocol.specs.declared.TransactionTable.{TransactionTable}
use Rattle.protocol.specs.declared.Outcome.{Outcome}
use Rattle.protocol.specs.declared.Outcome.TheVariants as outcome
use Rattle.protocol.specs.Registrar.{registrar_message}
use Rattle.protocol.specs.Confirmation.{LeadsTo, MovedAnswer, RepeatedAnswer, ConfirmationRule}
use Rattle.protocol.proofs.ConfirmationRule.{confirmation_rule}
use Rattle.packed.specs.Answer.{outcome_number}
use Rattle.duskstall.specs.Boundary.{Crossing}
use Rattle.duskstall.specs.Calls.{registrar_input}
use Rattle.lent.specs.Calls.{RegistrarCall, RegistrarMessage}
use Rattle.lent.specs.Lent.{LentCall, AtRegistrar, LentWorld, crossing, lent_after, lent_beginning}
use Rattle.lent.specs.Kept.{LentPromise}
use Rattle.lent.specs.Reads.{registrar_read_back, table_in}
use Rattle.lent.specs.ConfirmationBytes.{BytesConfirmed, ConfirmsBytes, LentConfirmation, LentConfirmationAfter}
use Rattle.lent.proofs.Kept.{lent_demand1}
use Rattle.lent.proofs.ReadBack.{lent_reads, lent_sound}

-- ## What is returned

is-done : (o : Outcome) → outcome_number o ≡ 0 → o ≡ outcome.Done
is-done outcome.Done e = refl
is-done outcome.Again e = absurd (omega arith)
is-done (outcome.Refused n f) e = absurd (omega arith)

is-again : (o : Outcome) → outcome_number o ≡ 1 → o ≡ outcome.Again
is-again outcome.Done e = absurd (omega arith)
is-again outcome.Again e = refl
is-again (outcome.Refused n f) e = absurd (omega arith)

-- a confirmation that matches leads to a state
status_leads : (m : Message) (s : ℕ) → m.body.entry.status ≡ Some s → (s ≡ 0) ⊎ (s ≡ 2) → (v : TransactionState) × LeadsTo m v
status_leads m s h (inl e) = (Confirmed, inl (refl, inr (h ∙ ap Some e)))
status_leads m s h (inr e) = (Declined, inr (refl, h ∙ ap Some e))

leads : (m : Message) (o : GivenStatus) → m.body.entry.status ≡ o
    → ((s : ℕ) → m.body.entry.status ≡ Some s → (s ≡ 0) ⊎ (s ≡ 2)) → (v : TransactionState) × LeadsTo m v
leads m (Some s) h k = status_leads m s h (k s h)
leads m None h k = (Confirmed, inl (refl, inl h))

-- ## The rule

module _ (t : TransactionTable) (d : RegistrarInput) (bytes : List ℕ) (m : Message) (reads : reading_of bytes ≡ Ok m) (kind : m.body.kind ≡ 24) where
  module _ (s : List ℕ) (x : Crossing) (back : registrar_read_back x ≡ registrar_message t d bytes) (code : x.code ≡ outcome_number (registrar_message t d bytes).outcome) (stays : (x.code ≡ 0 → ⊥) → x.state ≡ s) where
    abbrev rule : ConfirmationRule t d bytes m
    rule = confirmation_rule t d bytes m

    confirmed : BytesConfirmed t d bytes m s x
    confirmed =
        record {
          moves = λ e. rule.moves (record { reads = reads; kind = kind; ends = is-done _ (sym code ∙ e) });
          done = λ r c.
              let v : (v : TransactionState) × LeadsTo m v = leads m m.body.entry.status refl c.match.status in
              code ∙ ap outcome_number (rule.moved r c v.0 v.1).0.done;
          moved = λ r c v l. subst (MovedAnswer t d r c.match.id c.match.nonce v) (sym back) (rule.moved r c v l);
          repeats = λ e. rule.repeats (record { reads = reads; kind = kind; ends = is-again _ (sym code ∙ e) });
          again = λ r c. code ∙ ap outcome_number (rule.repeated r c).again;
          repeated = λ r c. subst (RepeatedAnswer t d r c.match.id c.match.nonce) (sym back) (rule.repeated r c);
          else = stays;
          refused = λ n k. code ∙ ap outcome_number (rule.else reads kind n k).0.2;
        }

confirms : (w : LentWorld) → ((c : RegistrarCall) (a : List ℕ) → LentPromise w (AtRegistrar c a)) → ConfirmsBytes w
confirms w promise bytes g b n a made m reads kind =
    let c : LentCall = AtRegistrar (RegistrarMessage bytes g b n) a in
    confirmed (table_in w) (registrar_input g b n) bytes m reads kind w.table (crossing w c) (lent_reads w c made).answer (lent_reads w c made).code (promise (RegistrarMessage bytes g b n) a).unchanged

pub lent_confirmation : LentConfirmation
lent_confirmation w all = confirms w (λ c a. lent_demand1 w (AtRegistrar c a) all)

pub lent_confirmation_after : LentConfirmationAfter
lent_confirmation_after s e calls = confirms (lent_after (lent_beginning s) calls) (λ c a. (lent_sound s e calls).promise (AtRegistrar c a))
