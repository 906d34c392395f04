-- The host steps, the error messages and the corners of the table are as 01 says.
use Rattle.std.specs.Prelude.{Ok, Err, Some, None}
use Prim.Native.Nat.{ℕ, ◌<◌, ◌≤◌}
use mathlib.Core.List.{List}
use mathlib.Core.Bool.{Bool, true, false, not, cond, ◌&&◌}
use mathlib.Core.Option.{Option, none, some}
use mathlib.Core.Path.{◌≡◌, refl, sym, ◌∙◌, ap, subst}
use native.Mathlib.Omega.{arith}
use lib.Dec.{leb, leb→le, le→leb}
use Rattle.message.specs.Read.{reading_of}
use Rattle.grammar.specs.declared.Message.{Message}
use Rattle.message.specs.declared.ReadFault.{ReadFault}
use Rattle.protocol.specs.declared.TransactionId.{TransactionId}
use Rattle.protocol.specs.declared.Nonce.{Nonce}
use Rattle.protocol.specs.declared.FreshNonce.{FreshNonce}
use Rattle.protocol.specs.declared.RegistrarInput.{RegistrarInput}
use Rattle.protocol.specs.declared.EndEntityInput.{EndEntityInput}
use Rattle.protocol.specs.declared.TransactionState.{TransactionState}
use Rattle.protocol.specs.declared.Transaction.{Transaction}
use Rattle.protocol.specs.declared.TransactionTable.{TransactionTable}
use Rattle.protocol.specs.declared.Enrolment.{Enrolment}
use Rattle.protocol.specs.Types.{FailureInfo, ToSend}
use Rattle.protocol.specs.declared.Outgoing.{Outgoing}
use Rattle.protocol.specs.declared.RegistrarAnswer.{RegistrarAnswer}
use Rattle.protocol.specs.declared.TransactionState.TheVariants as at_registrar
use Rattle.protocol.specs.declared.Outcome.TheVariants as outcome
use Rattle.protocol.specs.Bytes.{as_id, as_nonce}
use Rattle.protocol.specs.Message.{Fields, fields_of, request_number}
use Rattle.protocol.specs.Outgoing.{error_out, silent}
use Rattle.protocol.specs.Table.{lookup}
use Rattle.protocol.specs.States.{is_granted, may_issue, may_refuse, may_lapse, may_close, has_sent}
use Rattle.protocol.specs.Refusals.{bit_of, lowest_row, LowestRow, stop, pass, read_refusal, no_fault}
use Rattle.protocol.specs.RegistrarRows.{registrar_rows, confirms, one_entry}
use Rattle.protocol.specs.Registrar.{host_step, registrar_issue, registrar_refuse, registrar_lapse, registrar_close, refused_message, registrar_checked, registrar_message, registrar_fields, registrar_read}
use Rattle.protocol.specs.EndEntity.{end_entity_message, end_entity_read}
use Rattle.protocol.specs.HostRules.{host_refusal, HostRule, HostRules}
use Rattle.protocol.specs.MessageRules.{error_message, ErrorRule, UnreadRule, Corners, Tables}
use Rattle.protocol.proofs.Tests.{none_some, some_some, true_false, T→true, true→T, cases, other_than, number_is}
use Rattle.protocol.proofs.RegistrarStates.{not_asked, not_granted, MayClose, may_close_lem, not_close}
use Rattle.protocol.proofs.RegistrarPromises.{refused-bit, refused-number, done_refused, again-refused}
use Rattle.protocol.proofs.RegistrarPasses.{taken_by}
use Rattle.protocol.proofs.ConfirmationMoves.{message-at}
use Rattle.protocol.proofs.Slots.{sending_becomes, quietly_becomes}

-- ## Host steps

module _ (t : TransactionTable) (i : TransactionId) (Allowed : TransactionState → Type 0) (ok : Transaction → Bool) (yes_it : (r : Transaction) → Allowed r.state → ok r ≡ true) (no_it : (r : Transaction) → (Allowed r.state → ⊥) → ok r ≡ false) (next : Transaction → RegistrarAnswer) where
  unknown-at : (f : Option Transaction) → f ≡ none → host_step f t ok next ≡ host_refusal 30 t
  unfolding bit_of
  unknown-at none e = refl
  unknown-at (some r) e = none_some (sym e)

  done_at : (f : Option Transaction) (r : Transaction) → f ≡ some r → Allowed r.state → host_step f t ok next ≡ next r
  done_at none r e a = none_some e
  done_at (some s) r e a = rw (some_some e, yes_it r a)

  else-at : (f : Option Transaction) (r : Transaction) → f ≡ some r → (Allowed r.state → ⊥) → host_step f t ok next ≡ host_refusal 31 t
  unfolding bit_of
  else-at none r e a = none_some e
  else-at (some s) r e a = rw (some_some e, no_it r a)

  host_rule : (Next : Transaction → RegistrarAnswer → Type 0) → ((r : Transaction) → lookup t.transactions i ≡ some r → Next r (next r)) → HostRule t i Allowed Next (host_step (lookup t.transactions i) t ok next)
  host_rule Next n =
      record {
        unknown = unknown-at (lookup t.transactions i);
        done = λ r e a. subst (Next r) (sym (done_at (lookup t.transactions i) r e a)) (n r e);
        else = λ r. else-at (lookup t.transactions i) r;
      }

pub host_rules : (t : TransactionTable) (i : TransactionId) → HostRules t i
unfolding registrar_issue registrar_refuse registrar_lapse registrar_close
host_rules t i =
    record {
      issue = λ n h. host_rule t i (λ s. s ≡ at_registrar.Asked) may_issue (λ r e. rw e) (λ r. not_asked r.state) _ _ (λ r e. (sending_becomes t i r _ e _, (request_number r.kind, number_is r.kind _ refl, refl)));
      refuse = λ n. host_rule t i (λ s. s ≡ at_registrar.Asked) may_refuse (λ r e. rw e) (λ r. not_asked r.state) _ _ (λ r e. (sending_becomes t i r _ e _, (request_number r.kind, number_is r.kind _ refl, refl)));
      lapse = host_rule t i (λ s. s ≡ at_registrar.Granted) may_lapse (λ r e. rw e) (λ r. not_granted r.state) _ _ (λ r e. (quietly_becomes t i r _ e, refl));
      close = host_rule t i MayClose may_close (λ r. may_close_lem r.state) (λ r. not_close r.state) _ _ (λ r e. (quietly_becomes t i r _ e, refl));
    }

-- ## What a refused message sends

sends-at : (k : ℕ) (i : TransactionId) (n : FreshNonce) (a : Nonce) (c : FailureInfo) (t : Bool) → leb 6 k ≡ t → (j : ℕ) (b : FailureInfo) → outcome.Refused k c ≡ outcome.Refused j b → 6 ≤ j → cond t (Some (error_out i n a c)) None ≡ Some (error_message i n a b)
sends-at k i n a c true h j b e l = ap (λ (f : FailureInfo). Some (error_message i n a f)) (refused-bit k j c b e)
sends-at k i n a c false h j b e l = true_false (sym (T→true (leb 6 k) (le→leb 6 k (subst (λ (z : ℕ). 6 ≤ z) (sym (refused-number k j c b e)) l))) ∙ h)

below_at : (k : ℕ) (o : Outgoing) (t : Bool) → leb 6 k ≡ t → k < 6 → cond t (Some o) None ≡ None
below_at k o true h l = let z : 6 ≤ k = leb→le 6 k (true→T (leb 6 k) h) in absurd (omega arith)
below_at k o false h l = refl

module _ (t : TransactionTable) (d : RegistrarInput) (m : Fields) where
  abbrev Rule : RegistrarAnswer → Type 0
  Rule = ErrorRule (as_id m.id) d.nonce (as_nonce m.sender_nonce)

  not_refused : (p : ℕ) (o : ToSend) (u : TransactionTable) → Rule (record { outcome = outcome.Done; fault = no_fault; slot = record { 0 = p }; outgoing = o; table = u })
  not_refused p o u = record { from6 = λ k b e. done_refused k b e; below6 = λ k b e. done_refused k b e }

  refusing : (f : Option Transaction) (k : ℕ) → Rule (refused_message k f t d.nonce m)
  refusing f k =
      record {
        from6 = λ j b e l. sends-at k _ _ _ _ (leb 6 k) refl j b e l;
        below6 = λ j b e l. below_at k _ (leb 6 k) refl (subst (λ (z : ℕ). z < 6) (sym (refused-number k j _ b e)) l);
      }

  error_checked : (f : Option Transaction) (c : LowestRow) → lowest_row (registrar_rows t.transactions f d.verdict m) ≡ c → Rule (registrar_checked c f t d m)
  unfolding registrar_checked
  error_checked f (stop k) e = refusing f k
  error_checked f pass e =
      taken_by t d m Rule f e (λ _ _ _. not_refused _ _ _)
      (λ r _ _ _. cases Rule (is_granted r.state) _ _ (λ _. not_refused _ _ _) (λ _. record { from6 = λ k b e. again-refused k b e; below6 = λ k b e. again-refused k b e }))

-- a message that reads
pub error_rule : (t : TransactionTable) (d : RegistrarInput) (bytes : List ℕ) (m : Message) → reading_of bytes ≡ Ok m → ErrorRule (as_id (fields_of bytes m).id) d.nonce (as_nonce (fields_of bytes m).sender_nonce) (registrar_message t d bytes)
unfolding registrar_fields
error_rule t d bytes m e = rw (message-at t d bytes m e) (error_checked t d (fields_of bytes m) (lookup t.transactions (as_id (fields_of bytes m).id)) (lowest_row (registrar_rows t.transactions (lookup t.transactions (as_id (fields_of bytes m).id)) d.verdict (fields_of bytes m))) refl)

-- one that does not read sends nothing
pub unread_silent : (t : TransactionTable) (d : RegistrarInput) (bytes : List ℕ) (f : ReadFault) → reading_of bytes ≡ Err f → (registrar_message t d bytes).outgoing ≡ None
unfolding registrar_message registrar_read
unread_silent t d bytes f e = rw e

unread_at : (f : ReadFault) → UnreadRule f (outcome.Refused (read_refusal f) (bit_of (read_refusal f) false))
unfolding bit_of
unread_at f = record { one = λ e. rw e; two = λ d. rw (other_than f.number 1 d _ refl) }

pub registrar_unread : (t : TransactionTable) (d : RegistrarInput) (bytes : List ℕ) (f : ReadFault) → reading_of bytes ≡ Err f → UnreadRule f (registrar_message t d bytes).outcome
unfolding registrar_message registrar_read
registrar_unread t d bytes f e = rw e (unread_at f)

pub end_entity_unread : (x : Enrolment) (d : EndEntityInput) (bytes : List ℕ) (f : ReadFault) → reading_of bytes ≡ Err f → UnreadRule f (end_entity_message x d bytes).outcome
unfolding end_entity_message end_entity_read
end_entity_unread x d bytes f e = rw e (unread_at f)

-- ## Corners

pub corners : (r : Transaction) (m : Fields) → confirms m ≡ true → one_entry m ≡ true → Corners r m
corners r m c o =
    record {
      asked14 = λ e. rw (c, e);
      absent14 = λ e. rw (c, e) (ap not (and_none (has_sent r.state)));
      refused19 = λ e. rw (c, o, e);
      lapsed20 = λ e. rw (c, e);
    }
  where
    and_none : (b : Bool) → (b && false) ≡ false
    and_none true = refl
    and_none false = refl

pub tables : Tables
unfolding bit_of silent
tables = record { pairing = (refl, refl, refl, refl); bit20 = (refl, refl); no_bit = (refl, refl, refl, refl); unsent = refl }
