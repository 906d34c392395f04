-- The general forms of a RegistrarStep: the table is as it was, one transaction is new, one is gone.
use Prim.Native.Nat.{ℕ}
use mathlib.Core.List.{List-discrete}
use mathlib.Core.Bool.{true}
use mathlib.Core.Option.{Option, none, some}
use mathlib.Core.Path.{◌≡◌, sym, ◌∙◌, ap, subst}
use mathlib.Core.Logic.{◌⊎◌, inl, inr}
use native.Mathlib.Decide.{ℕ_discrete}
use Rattle.protocol.specs.declared.TransactionId.{TransactionId}
use Rattle.protocol.specs.declared.Transaction.{Transaction}
use Rattle.protocol.specs.declared.TransactionTable.{TransactionTable}
use Rattle.protocol.specs.declared.Outgoing.{Outgoing}
use Rattle.protocol.specs.Message.{pki_conf}
use Rattle.protocol.specs.Table.{lookup}
use Rattle.protocol.specs.States.{settled_by, has_sent}
use Rattle.protocol.specs.Run.{World, OneBoard}
use Rattle.protocol.specs.Agreement.{Issued}
use Rattle.protocol.proofs.Tests.{none_some, some_some}
use Rattle.protocol.proofs.Lookup.{Unique}
use Rattle.protocol.proofs.Invariant.{Inv, Acknowledged, Settled, RegistrarStep, SentNonce, SettledBy}

pub id_of_lem : (i j : TransactionId) → Dec (i.bytes ≡ j.bytes) → Dec (i ≡ j)
id_of_lem i j (yes e) = yes (λ k. record { bytes = e k })
id_of_lem i j (no d) = no (λ e. d (ap (λ (y : TransactionId). y.bytes) e))

pub id? : (i j : TransactionId) → Dec (i ≡ j)
id? i j = id_of_lem i j (List-discrete ℕ_discrete i.bytes j.bytes)

-- no pkiconf is sent
abbrev pub Quiet : Option Outgoing → Type 0
Quiet o = (p : Outgoing) → o ≡ some p → p.kind ≡ pki_conf → ⊥

pub quiet_none : Quiet none
quiet_none p e k = none_some e

module _ (w : World) (v : Inv w) where
  -- the table is as it was
  pub registrar_same : (o : Option Outgoing) → ((p : Outgoing) → o ≡ some p → p.kind ≡ pki_conf → (n : Acknowledged w.past p) × Settled w.table n.message) → RegistrarStep w.past w.table w.table o none
  registrar_same o n =
      record {
        stays = λ i r s h t. inl h;
        acknowledges = n;
        responded = λ i r h t. inr (v.responded i r h t);
        settled = v.settled;
        unique = v.unique;
      }

  pub registrar_idle : (o : Option Outgoing) → Quiet o → RegistrarStep w.past w.table w.table o none
  registrar_idle o q = registrar_same o (λ p e k. absurd (q p e k))

  -- the record of one id is new, and none was settled there
  module _
      (b' : TransactionTable)
      (i : TransactionId)
      (x : Transaction)
      (o : Option Outgoing)
      (before : (r : Transaction) (s : ℕ) → lookup w.table.transactions i ≡ some r → settled_by r.state s ≡ true → ⊥)
      (here : lookup b'.transactions i ≡ some x)
      (others : (j : TransactionId) → (i ≡ j → ⊥) → lookup b'.transactions j ≡ lookup w.table.transactions j)
      (uniq : Unique b'.transactions)
      (acknowledges : (p : Outgoing) → o ≡ some p → p.kind ≡ pki_conf → (n : Acknowledged w.past p) × Settled b' n.message)
      (sent : has_sent x.state ≡ true → ((q : Outgoing) × (o ≡ some q) × (q.sender_nonce ≡ x.sent)) ⊎ SentNonce w.past x.sent)
      (settles : (s : ℕ) → settled_by x.state s ≡ true → SettledBy w.past i x s)
    where
      one-stays : (j : TransactionId) (r : Transaction) (s : ℕ) → lookup w.table.transactions j ≡ some r → settled_by r.state s ≡ true → Dec (i ≡ j) → (lookup b'.transactions j ≡ some r) ⊎ (none ≡ some j)
      one-stays j r s h t (yes e) = absurd (before r s (ap (lookup w.table.transactions) e ∙ h) t)
      one-stays j r s h t (no d) = inl (others j d ∙ h)

      same_record : (j : TransactionId) (r : Transaction) → lookup b'.transactions j ≡ some r → i ≡ j → x ≡ r
      same_record j r h e = some_some (sym here ∙ ap (lookup b'.transactions) e ∙ h)

      one-responded : (j : TransactionId) (r : Transaction) → lookup b'.transactions j ≡ some r → has_sent r.state ≡ true → Dec (i ≡ j) → ((q : Outgoing) × (o ≡ some q) × (q.sender_nonce ≡ r.sent)) ⊎ SentNonce w.past r.sent
      one-responded j r h t (yes e) =
          let p : x ≡ r = same_record j r h e in
          subst (λ (y : Transaction). ((q : Outgoing) × (o ≡ some q) × (q.sender_nonce ≡ y.sent)) ⊎ SentNonce w.past y.sent) p (sent (ap (λ (y : Transaction). has_sent y.state) p ∙ t))
      one-responded j r h t (no d) = inr (v.responded j r (sym (others j d) ∙ h) t)

      one-settled : (j : TransactionId) (r : Transaction) (s : ℕ) → lookup b'.transactions j ≡ some r → settled_by r.state s ≡ true → Dec (i ≡ j) → SettledBy w.past j r s
      one-settled j r s h t (yes e) =
          let p : x ≡ r = same_record j r h e in
          let c : SettledBy w.past i x s = settles s (ap (λ (y : Transaction). settled_by y.state s) p ∙ t) in
          record {
            message = c.message;
            issued = subst (λ (y : Transaction). Issued (OneBoard y.board) c.message w.past) p c.issued;
            kind = c.kind;
            id = c.id ∙ e;
            hash = c.hash ∙ ap (λ (y : Transaction). y.hash) p;
            status = c.status;
          }
      one-settled j r s h t (no d) = v.settled j r s (sym (others j d) ∙ h) t

      pub registrar_one : RegistrarStep w.past w.table b' o none
      registrar_one =
          record {
            stays = λ j r s h t. one-stays j r s h t (id? i j);
            acknowledges = acknowledges;
            responded = λ j r h t. one-responded j r h t (id? i j);
            settled = λ j r s h t. one-settled j r s h t (id? i j);
            unique = uniq;
          }

  -- the record of one id is gone
  module _
      (b' : TransactionTable)
      (i : TransactionId)
      (here : lookup b'.transactions i ≡ none)
      (others : (j : TransactionId) → (i ≡ j → ⊥) → lookup b'.transactions j ≡ lookup w.table.transactions j)
      (uniq : Unique b'.transactions)
    where
      was : (j : TransactionId) (r : Transaction) → lookup b'.transactions j ≡ some r → Dec (i ≡ j) → lookup w.table.transactions j ≡ some r
      was j r h (yes e) = none_some (sym here ∙ ap (lookup b'.transactions) e ∙ h)
      was j r h (no d) = sym (others j d) ∙ h

      gone_stays : (j : TransactionId) (r : Transaction) → lookup w.table.transactions j ≡ some r → Dec (i ≡ j) → (lookup b'.transactions j ≡ some r) ⊎ (some i ≡ some j)
      gone_stays j r h (yes e) = inr (ap some e)
      gone_stays j r h (no d) = inl (others j d ∙ h)

      pub registrar_gone : RegistrarStep w.past w.table b' none (some i)
      registrar_gone =
          record {
            stays = λ j r s h t. gone_stays j r h (id? i j);
            acknowledges = λ p e k. none_some e;
            responded = λ j r h t. inr (v.responded j r (was j r h (id? i j)) t);
            settled = λ j r s h t. v.settled j r s (was j r h (id? i j)) t;
            unique = uniq;
          }
