-- Every call of the registrar keeps demand 1's promise, on any table.
use Rattle.std.specs.Prelude.{Ok, Err, Some}
use Prim.Native.Nat.{ℕ}
use mathlib.Core.List.{List}
use mathlib.Core.Bool.{Bool, true, false, cond}
use mathlib.Core.Option.{Option, none, some}
use mathlib.Core.Path.{◌≡◌, refl, sym, ◌∙◌, ap, subst}
use mathlib.Core.Logic.{inl, inr}
use native.Mathlib.Omega.{arith}
use lib.Dec.{eqb}
use Rattle.message.specs.declared.ReadFault.{ReadFault}
use Rattle.message.specs.Read.{reading_of}
use Rattle.message.specs.Types.{Reading}
use Rattle.protocol.specs.declared.TransactionId.{TransactionId}
use Rattle.protocol.specs.declared.Nonce.{Nonce}
use Rattle.protocol.specs.declared.FreshNonce.{FreshNonce}
use Rattle.protocol.specs.declared.Hash.{Hash}
use Rattle.protocol.specs.declared.RegistrarInput.{RegistrarInput}
use Rattle.protocol.specs.declared.Transaction.{Transaction}
use Rattle.protocol.specs.declared.TransactionTable.{TransactionTable}
use Rattle.protocol.specs.Types.{FailureInfo, ToSend}
use Rattle.protocol.specs.declared.Outgoing.{Outgoing}
use Rattle.protocol.specs.declared.RegistrarAnswer.{RegistrarAnswer}
use Rattle.protocol.specs.declared.Outcome.TheVariants as outcome
use Rattle.protocol.specs.declared.TransactionState.TheVariants as at_registrar
use Rattle.protocol.specs.Bytes.{as_id, as_nonce, nonce_from}
use Rattle.protocol.specs.Message.{Fields, status_or0, fields_of}
use Rattle.protocol.specs.Table.{is_free, free_transaction, lookup}
use Rattle.protocol.specs.States.{is_asked, is_hashed, has_hash, is_granted, may_issue, may_refuse, may_lapse, may_close, settled_state}
use Rattle.protocol.specs.Refusals.{lowest_row, Row, stop, LowestRow, pass, read_refusal, no_fault}
use Rattle.protocol.specs.RegistrarRows.{registrar_rows}
use Rattle.protocol.specs.Registrar.{host_step, refused_quietly, registrar_issue, responded, registrar_refuse, registrar_lapse, settled, registrar_close, opened_transaction, registrar_checked, registrar_read, registrar_fields, registrar_message}
use Rattle.protocol.specs.Promises.{AtMostOne, OneOf, RegistrarPromise, UnsetZero, host_numbers, registrar_numbers}
use Rattle.protocol.proofs.Tests.{true_false, cases}
use Rattle.protocol.proofs.RegistrarPasses.{taken_by}
use Rattle.protocol.proofs.RegistrarStates.{is-asked}
use Rattle.protocol.proofs.Lookup.{is_for-id, found}
use Rattle.protocol.proofs.Changes.{Change, unique_one, one_unique, replacing, putting}
use Rattle.protocol.proofs.Rows.{one_in, numbers_of, applies-number, stops}

pub done_refused : {A : Type 0} (n : ℕ) (b : FailureInfo) → outcome.Done ≡ outcome.Refused n b → A
done_refused n b e = let z : ◌≡◌ {A = ℕ} 0 1 = cc in absurd (omega arith)

pub again-refused : {A : Type 0} (n : ℕ) (b : FailureInfo) → outcome.Again ≡ outcome.Refused n b → A
again-refused n b e = let z : ◌≡◌ {A = ℕ} 0 1 = cc in absurd (omega arith)

pub done-again : {A : Type 0} → outcome.Done ≡ outcome.Again → A
done-again e = let z : ◌≡◌ {A = ℕ} 0 1 = cc in absurd (omega arith)

refused-again : {A : Type 0} (n : ℕ) (b : FailureInfo) → outcome.Refused n b ≡ outcome.Again → A
refused-again n b e = let z : ◌≡◌ {A = ℕ} 0 1 = cc in absurd (omega arith)

pub refused-number : (k n : ℕ) (c b : FailureInfo) → outcome.Refused k c ≡ outcome.Refused n b → k ≡ n
refused-number k n c b e = cc

pub refused-bit : (k n : ℕ) (c b : FailureInfo) → outcome.Refused k c ≡ outcome.Refused n b → c ≡ b
refused-bit k n c b e = cc

-- ## The three answers

module _ (ns : List ℕ) (t : TransactionTable) where
  at_most_one : (p : ℕ) (u : TransactionTable) → Change t p u → AtMostOne t → AtMostOne u
  at_most_one p u c o = unique_one u.transactions (c.one (one_unique t.transactions o))

  -- refused: the table is the same
  refusing : (k : ℕ) (c : FailureInfo) (f : ReadFault) (o : ToSend) → OneOf k ns → RegistrarPromise ns t (record { outcome = outcome.Refused k c; fault = f; slot = record { 0 = 0 }; outgoing = o; table = t })
  refusing k c f o i =
      record {
        number = λ n b e. subst (λ (j : ℕ). OneOf j ns) (refused-number k n c b e) i;
        unchanged = λ n b e. refl;
        again = λ e. refl;
        others = λ p d. refl;
        one = λ u. u;
        unset = λ z. z;
      }

  -- done: the table changes at the slot
  doing : (p : ℕ) (o : ToSend) (u : TransactionTable) → Change t p u → RegistrarPromise ns t (record { outcome = outcome.Done; fault = no_fault; slot = record { 0 = p }; outgoing = o; table = u })
  doing p o u c =
      record {
        number = λ n b e. done_refused n b e;
        unchanged = λ n b e. done_refused n b e;
        again = λ e. done-again e;
        others = c.others;
        one = at_most_one p u c;
        unset = c.unset;
      }

  repeating : (p : ℕ) (o : Outgoing) → RegistrarPromise ns t (record { outcome = outcome.Again; fault = no_fault; slot = record { 0 = p }; outgoing = Some o; table = t })
  repeating p o =
      record {
        number = λ n b e. again-refused n b e;
        unchanged = λ n b e. again-refused n b e;
        again = λ e. refl;
        others = λ q d. refl;
        one = λ u. u;
        unset = λ z. z;
      }

-- ## The host's steps

-- a state in which nothing is unset
full : (x : Transaction) → is_free x.state ≡ false → is_asked x.state ≡ false → has_hash x ≡ true → UnsetZero x
full x f a h =
    record {
      free = λ e. true_false (sym (ap is_free e) ∙ f);
      asked = λ e. true_false (sym (ap is_asked e) ∙ a);
      refused = λ e. true_false (sym h ∙ ap is_hashed e);
    }

pub free-unset : UnsetZero free_transaction
free-unset = record { free = λ _. refl; asked = λ e. true_false (sym (ap is_asked e)); refused = λ e. true_false (ap is_free e) }

module _ (t : TransactionTable) (i : TransactionId) where
  abbrev rs : List Transaction
  rs = t.transactions

  abbrev Promise : RegistrarAnswer → Type 0
  Promise = RegistrarPromise host_numbers t

  host : (ok : Transaction → Bool) (g : Transaction → RegistrarAnswer) (f : Option Transaction) → ((r : Transaction) → f ≡ some r → ok r ≡ true → Promise (g r)) → Promise (host_step f t ok g)
  host ok g none s = refusing host_numbers t 30 _ _ _ (inl refl)
  host ok g (some r) s = cases Promise (ok r) (g r) (refused_quietly 31 t) (λ q. s r refl q) (λ _. refusing host_numbers t 31 _ _ _ (inr (inl refl)))

  own_id : (r : Transaction) → lookup rs i ≡ some r → r.id ≡ i
  own_id r h = is_for-id i r (found rs i r h)

  pub issue-promise : (n : FreshNonce) (h : Hash) → Promise (registrar_issue t i n h)
  unfolding registrar_issue
  issue-promise n h =
      host may_issue _ (lookup rs i) (λ r e q. doing host_numbers t _ _ _ (replacing t i r (responded r at_registrar.Granted (nonce_from n) h) e (λ _. own_id r e) (λ _. full _ refl refl refl)))

  -- at Asked no hash is set, so none is set at Refused
  refused-unset : (r : Transaction) (n : Nonce) → is_asked r.state ≡ true → UnsetZero r → UnsetZero (responded r at_registrar.Refused n r.hash)
  refused-unset r n q u = record { free = λ e. true_false (sym (ap is_free e)); asked = λ e. true_false (sym (ap is_asked e)); refused = λ _. (u.asked (is-asked r.state q)).1 }

  pub refuse-promise : (n : FreshNonce) → Promise (registrar_refuse t i n)
  unfolding registrar_refuse
  refuse-promise n =
      host may_refuse _ (lookup rs i) (λ r e q. doing host_numbers t _ _ _ (replacing t i r (responded r at_registrar.Refused (nonce_from n) r.hash) e (λ _. own_id r e) (refused-unset r (nonce_from n) q)))

  pub lapse-promise : Promise (registrar_lapse t i)
  unfolding registrar_lapse
  lapse-promise =
      host may_lapse _ (lookup rs i) (λ r e q. doing host_numbers t _ _ _ (replacing t i r (settled r at_registrar.Lapsed r.taken) e (λ _. own_id r e) (λ _. full _ refl refl refl)))

  pub close-promise : Promise (registrar_close t i)
  unfolding registrar_close
  close-promise = host may_close _ (lookup rs i) (λ r e q. doing host_numbers t _ _ _ (replacing t i r free_transaction e (λ f. true_false f) (λ _. free-unset)))

-- ## A message

module _ (t : TransactionTable) (d : RegistrarInput) where
  abbrev Kept : RegistrarAnswer → Type 0
  Kept = RegistrarPromise registrar_numbers t

  read_number_lem : (b : Bool) → OneOf (cond b 1 2) registrar_numbers
  read_number_lem true = inl refl
  read_number_lem false = inr (inl refl)

  row_number : (f : Option Transaction) (m : Fields) (k : ℕ) → lowest_row (registrar_rows t.transactions f d.verdict m) ≡ stop k → OneOf k registrar_numbers
  unfolding registrar_rows
  row_number f m k e =
      let rows : List Row = registrar_rows t.transactions f d.verdict m in
      one_in k (numbers_of rows) registrar_numbers (applies-number k rows (stops rows k e)) refl

  opened-unset : (m : Fields) → UnsetZero (opened_transaction d.verdict m)
  opened-unset m = record { free = λ e. true_false (sym (ap is_free e)); asked = λ _. (refl, refl); refused = λ e. true_false (ap is_asked e) }

  settled_full : (s : ℕ) (r : Transaction) (n : Nonce) → (b : Bool) → UnsetZero (settled r (cond b at_registrar.Confirmed at_registrar.Declined) n)
  settled_full s r n true = full _ refl refl refl
  settled_full s r n false = full _ refl refl refl

  checked_promise : (m : Fields) (f : Option Transaction) → lookup t.transactions (as_id m.id) ≡ f → (c : LowestRow) → lowest_row (registrar_rows t.transactions f d.verdict m) ≡ c → Kept (registrar_checked c f t d m)
  unfolding registrar_checked
  checked_promise m f h (stop k) e = refusing registrar_numbers t k _ _ _ (row_number f m k e)
  checked_promise m f h pass e =
      taken_by t d m Kept f e (λ _ n _. doing registrar_numbers t _ _ _ (putting t (opened_transaction d.verdict m) (h ∙ n) (opened-unset m)))
      (λ r _ n _.
      cases Kept (is_granted r.state) _ _
      (λ _.
      doing registrar_numbers t _ _ _
      (replacing t (as_id m.id) r (settled r (settled_state (status_or0 m.status)) (as_nonce m.sender_nonce)) (h ∙ n) (λ _. own_id t (as_id m.id) r (h ∙ n)) (λ _. settled_full (status_or0 m.status) r (as_nonce m.sender_nonce) (eqb (status_or0 m.status) 0))))
      (λ _. repeating registrar_numbers t _ _))

  read_promise : (bytes : List ℕ) (r : Reading) → Kept (registrar_read r t d bytes)
  unfolding registrar_read registrar_fields
  read_promise bytes (Err f) = refusing registrar_numbers t (read_refusal f) _ _ _ (read_number_lem (eqb f.number 1))
  read_promise bytes (Ok m) = checked_promise (fields_of bytes m) (lookup t.transactions (as_id (fields_of bytes m).id)) refl (lowest_row (registrar_rows t.transactions (lookup t.transactions (as_id (fields_of bytes m).id)) d.verdict (fields_of bytes m))) refl

  pub message-promise : (bytes : List ℕ) → Kept (registrar_message t d bytes)
  unfolding registrar_message
  message-promise bytes = read_promise bytes (reading_of bytes)
