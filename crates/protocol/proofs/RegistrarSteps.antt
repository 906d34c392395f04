-- Each of the host's steps at the registrar shows a RegistrarStep: issue, refuse, lapse and close.
use Prim.Native.Nat.{ℕ}
use mathlib.Core.List.{List}
use mathlib.Core.Bool.{Bool, true, false}
use mathlib.Core.Option.{Option, none, some}
use mathlib.Core.Path.{◌≡◌, refl, sym, ◌∙◌, ap}
use mathlib.Core.Logic.{◌⊎◌, inl, inr}
use native.Mathlib.Omega.{arith}
use Rattle.protocol.specs.declared.TransactionId.{TransactionId}
use Rattle.protocol.specs.declared.Nonce.{Nonce}
use Rattle.protocol.specs.declared.FreshNonce.{FreshNonce}
use Rattle.protocol.specs.declared.Hash.{Hash}
use Rattle.protocol.specs.declared.TransactionState.{TransactionState}
use Rattle.protocol.specs.declared.Transaction.{Transaction}
use Rattle.protocol.specs.declared.Outgoing.{Outgoing}
use Rattle.protocol.specs.declared.RegistrarAnswer.{RegistrarAnswer}
use Rattle.protocol.specs.declared.TransactionState.TheVariants.{Granted, Refused, Lapsed}
use Rattle.protocol.specs.Bytes.{nonce_from}
use Rattle.protocol.specs.Message.{pki_conf, response_to}
use Rattle.protocol.specs.Outgoing.{response_out}
use Rattle.protocol.specs.Table.{lookup, replace, is_free, free_transaction}
use Rattle.protocol.specs.States.{settled_by, has_sent, is_asked, may_issue, may_refuse, may_lapse, may_close}
use Rattle.protocol.specs.Registrar.{settled, refused_quietly, host_step, respond, responded, registrar_issue, registrar_refuse, registrar_lapse, replaced, registrar_close}
use Rattle.protocol.specs.EndEntityRows.{acknowledges}
use Rattle.protocol.specs.Run.{World, sent_by, unless_refused}
use Rattle.protocol.proofs.Tests.{some_some, cases, true_false, none_some, response_kinds}
use Rattle.protocol.proofs.RegistrarStates.{asked-unsettled, granted-unsettled, granted-sent}
use Rattle.protocol.proofs.Lookup.{is_for-id, found, replace-same, is_for_make, replace_other, is_for_other, unique_replace, replace_gone}
use Rattle.protocol.proofs.Invariant.{Inv, Acknowledged, Settled, SentNonce, SettledBy, RegistrarStep}
use Rattle.protocol.proofs.RegistrarForms.{registrar_one, Quiet, registrar_idle, quiet_none, registrar_gone}

response-kind : (k : ℕ) → response_to k ≡ pki_conf → ⊥
response-kind = response_kinds (λ (n : ℕ). n ≡ pki_conf → ⊥) (λ e. omega arith) (λ e. omega arith) (λ e. omega arith)

module _ (w : World) (v : Inv w) where
  abbrev pub recs : List Transaction
  recs = w.table.transactions

  pub own : (i : TransactionId) (r : Transaction) → lookup recs i ≡ some r → r.id ≡ i
  own i r h = is_for-id i r (found recs i r h)

  -- a record in use takes the place of one that was not settled
  pub replaces : (i : TransactionId) (r x : Transaction) (o : Option Outgoing) → lookup recs i ≡ some r → is_free x.state ≡ false → x.id ≡ i
      → ((s : ℕ) → settled_by r.state s ≡ true → ⊥)
      → ((p : Outgoing) → o ≡ some p → p.kind ≡ pki_conf → (n : Acknowledged w.past p) × Settled (record { transactions = replace recs i x }) n.message)
      → (has_sent x.state ≡ true → ((q : Outgoing) × (o ≡ some q) × (q.sender_nonce ≡ x.sent)) ⊎ SentNonce w.past x.sent)
      → ((s : ℕ) → settled_by x.state s ≡ true → SettledBy w.past i x s)
      → RegistrarStep w.past w.table (record { transactions = replace recs i x }) o none
  replaces i r x o h live same unsettled acknowledges sent settles =
      registrar_one
      w
      v
      (record { transactions = replace recs i x })
      i
      x
      o
      (λ r' s h' t. unsettled s (ap (λ (y : Transaction). settled_by y.state s) (some_some (sym h ∙ h')) ∙ t))
      (replace-same recs i x r (is_for_make i x live same) h)
      (λ j d. replace_other recs i j x (is_for_other i j x same d) d)
      (unique_replace recs i x (λ f. same) v.unique)
      acknowledges
      sent
      settles

  abbrev pub StepOf : (RegistrarAnswer → Option TransactionId) → RegistrarAnswer → Type 0
  StepOf cl a = RegistrarStep w.past w.table a.table (sent_by a.outgoing) (cl a)

  host :
      (cl : RegistrarAnswer → Option TransactionId) (ok : Transaction → Bool) (g : Transaction → RegistrarAnswer) (f : Option Transaction) →
      ((k : ℕ) → StepOf cl (refused_quietly k w.table)) → ((r : Transaction) → f ≡ some r → ok r ≡ true → StepOf cl (g r)) →
      StepOf cl (host_step f w.table ok g)
  host cl ok g none ref s = ref 30
  host cl ok g (some r) ref s = cases (StepOf cl) (ok r) (g r) (refused_quietly 31 w.table) (λ t. s r refl t) (λ _. ref 31)

  abbrev pub open_still : RegistrarAnswer → Option TransactionId
  open_still a = none

  pub idle : (k : ℕ) → StepOf open_still (refused_quietly k w.table)
  idle k = registrar_idle w v none quiet_none

  response_quiet : (k : ℕ) (i : TransactionId) (n : FreshNonce) (a : Nonce) (s : ℕ) → (response_to k ≡ pki_conf → ⊥) → Quiet (some (response_out k i n a s))
  response_quiet k i n a s d p e q = d (ap (λ (y : Outgoing). y.kind) (some_some e) ∙ q)

  responds :
      (i : TransactionId) (r : Transaction) (t : TransactionState) (status : ℕ) (n : FreshNonce) (h : Hash) → lookup recs i ≡ some r →
      is_asked r.state ≡ true → is_free t ≡ false → ((s : ℕ) → settled_by t s ≡ true → ⊥) →
      StepOf open_still (respond w.table i r t status n h)
  responds i r t status n h e a live unsettled =
      replaces
      i
      r
      (responded r t (nonce_from n) h)
      (some (response_out r.kind i n r.taken status))
      e
      live
      (own i r e)
      (λ s. asked-unsettled r.state s a)
      (λ p q k. absurd (response_quiet r.kind i n r.taken status (response-kind r.kind) p q k))
      (λ _. inl (response_out r.kind i n r.taken status, refl, refl))
      (λ s q. absurd (unsettled s q))

  pub issue-step : (i : TransactionId) (n : FreshNonce) (h : Hash) → StepOf open_still (registrar_issue w.table i n h)
  unfolding registrar_issue
  issue-step i n h =
      host
      open_still
      may_issue
      (λ r. respond w.table i r Granted 0 n h)
      (lookup recs i)
      idle
      (λ r e t. responds i r Granted 0 n h e t refl (λ s q. true_false (sym q)))

  pub refuse-step : (i : TransactionId) (n : FreshNonce) → StepOf open_still (registrar_refuse w.table i n)
  unfolding registrar_refuse
  refuse-step i n =
      host
      open_still
      may_refuse
      (λ r. respond w.table i r Refused 2 n r.hash)
      (lookup recs i)
      idle
      (λ r e t. responds i r Refused 2 n r.hash e t refl (λ s q. true_false (sym q)))

  pub lapse-step : (i : TransactionId) → StepOf open_still (registrar_lapse w.table i)
  unfolding registrar_lapse
  lapse-step i =
      host
      open_still
      may_lapse
      (λ r. replaced w.table i (settled r Lapsed r.taken))
      (lookup recs i)
      idle
      (λ r e t.
      replaces
      i
      r
      (settled r Lapsed r.taken)
      none
      e
      refl
      (own i r e)
      (λ s. granted-unsettled r.state s t)
      (λ p q k. none_some q)
      (λ _. inr (v.responded i r e (granted-sent r.state t)))
      (λ s q. true_false (sym q)))

  pub close-step : (i : TransactionId) → StepOf (λ a. unless_refused a.outcome i) (registrar_close w.table i)
  unfolding registrar_close
  close-step i =
      host
      (λ a. unless_refused a.outcome i)
      may_close
      (λ r. replaced w.table i free_transaction)
      (lookup recs i)
      idle
      (λ r e t.
      registrar_gone
      w
      v
      (record { transactions = replace recs i free_transaction })
      i
      (replace_gone recs i free_transaction refl v.unique)
      (λ j d. replace_other recs i j free_transaction refl d)
      (unique_replace recs i free_transaction (λ f. true_false f) v.unique))
