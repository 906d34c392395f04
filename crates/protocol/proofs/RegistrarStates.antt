-- What the proofs read off the tables of the registrar's states. A new state is a clause in each.
use Prim.Native.Nat.{ℕ}
use mathlib.Core.Bool.{true, false}
use mathlib.Core.Path.{◌≡◌, refl, sym, ◌∙◌}
use mathlib.Core.Logic.{◌⊎◌, inl, inr}
use Rattle.protocol.specs.declared.TransactionState.{TransactionState}
use Rattle.protocol.specs.declared.TransactionState.TheVariants as at_registrar
use Rattle.protocol.specs.Table.{is_free}
use Rattle.protocol.specs.States.{settled_by, has_sent, is_asked, is_granted, settled_state, is_ended}
use Rattle.protocol.proofs.Tests.{true_false, eqb_eq}

pub in_use_lem : (t : TransactionState) → (t ≡ at_registrar.Free → ⊥) → is_free t ≡ false
in_use_lem at_registrar.Free d = absurd (d refl)
in_use_lem at_registrar.Asked d = refl
in_use_lem at_registrar.Granted d = refl
in_use_lem at_registrar.Confirmed d = refl
in_use_lem at_registrar.Declined d = refl
in_use_lem at_registrar.Refused d = refl
in_use_lem at_registrar.Lapsed d = refl

-- a settled transaction has sent its response
pub settled-sent : (t : TransactionState) (s : ℕ) → settled_by t s ≡ true → has_sent t ≡ true
settled-sent at_registrar.Free s e = true_false (sym e)
settled-sent at_registrar.Asked s e = true_false (sym e)
settled-sent at_registrar.Granted s e = refl
settled-sent at_registrar.Confirmed s e = refl
settled-sent at_registrar.Declined s e = refl
settled-sent at_registrar.Refused s e = refl
settled-sent at_registrar.Lapsed s e = refl

pub confirmed_0 : (t : TransactionState) → t ≡ at_registrar.Confirmed → settled_by t 0 ≡ true
confirmed_0 t e = rw e

pub asked-unsettled : (t : TransactionState) (s : ℕ) → is_asked t ≡ true → settled_by t s ≡ true → ⊥
asked-unsettled at_registrar.Free s a e = true_false (sym a)
asked-unsettled at_registrar.Asked s a e = true_false (sym e)
asked-unsettled at_registrar.Granted s a e = true_false (sym a)
asked-unsettled at_registrar.Confirmed s a e = true_false (sym a)
asked-unsettled at_registrar.Declined s a e = true_false (sym a)
asked-unsettled at_registrar.Refused s a e = true_false (sym a)
asked-unsettled at_registrar.Lapsed s a e = true_false (sym a)

pub granted-unsettled : (t : TransactionState) (s : ℕ) → is_granted t ≡ true → settled_by t s ≡ true → ⊥
granted-unsettled at_registrar.Free s a e = true_false (sym a)
granted-unsettled at_registrar.Asked s a e = true_false (sym a)
granted-unsettled at_registrar.Granted s a e = true_false (sym e)
granted-unsettled at_registrar.Confirmed s a e = true_false (sym a)
granted-unsettled at_registrar.Declined s a e = true_false (sym a)
granted-unsettled at_registrar.Refused s a e = true_false (sym a)
granted-unsettled at_registrar.Lapsed s a e = true_false (sym a)

pub granted-sent : (t : TransactionState) → is_granted t ≡ true → has_sent t ≡ true
granted-sent at_registrar.Free a = true_false (sym a)
granted-sent at_registrar.Asked a = true_false (sym a)
granted-sent at_registrar.Granted a = refl
granted-sent at_registrar.Confirmed a = true_false (sym a)
granted-sent at_registrar.Declined a = true_false (sym a)
granted-sent at_registrar.Refused a = true_false (sym a)
granted-sent at_registrar.Lapsed a = true_false (sym a)

pub is-confirmed : (t : TransactionState) → settled_by t 0 ≡ true → t ≡ at_registrar.Confirmed
is-confirmed at_registrar.Free e = true_false (sym e)
is-confirmed at_registrar.Asked e = true_false (sym e)
is-confirmed at_registrar.Granted e = true_false (sym e)
is-confirmed at_registrar.Confirmed e = refl
is-confirmed at_registrar.Declined e = true_false (sym e)
is-confirmed at_registrar.Refused e = true_false (sym e)
is-confirmed at_registrar.Lapsed e = true_false (sym e)

pub is-declined : (t : TransactionState) → settled_by t 2 ≡ true → t ≡ at_registrar.Declined
is-declined at_registrar.Free e = true_false (sym e)
is-declined at_registrar.Asked e = true_false (sym e)
is-declined at_registrar.Granted e = true_false (sym e)
is-declined at_registrar.Confirmed e = true_false (sym e)
is-declined at_registrar.Declined e = refl
is-declined at_registrar.Refused e = true_false (sym e)
is-declined at_registrar.Lapsed e = true_false (sym e)

pub is_free_lem : (t : TransactionState) → is_free t ≡ true → t ≡ at_registrar.Free
is_free_lem at_registrar.Free e = refl
is_free_lem at_registrar.Asked e = true_false (sym e)
is_free_lem at_registrar.Granted e = true_false (sym e)
is_free_lem at_registrar.Confirmed e = true_false (sym e)
is_free_lem at_registrar.Declined e = true_false (sym e)
is_free_lem at_registrar.Refused e = true_false (sym e)
is_free_lem at_registrar.Lapsed e = true_false (sym e)

pub is-asked : (t : TransactionState) → is_asked t ≡ true → t ≡ at_registrar.Asked
is-asked at_registrar.Free e = true_false (sym e)
is-asked at_registrar.Asked e = refl
is-asked at_registrar.Granted e = true_false (sym e)
is-asked at_registrar.Confirmed e = true_false (sym e)
is-asked at_registrar.Declined e = true_false (sym e)
is-asked at_registrar.Refused e = true_false (sym e)
is-asked at_registrar.Lapsed e = true_false (sym e)

pub is-granted : (t : TransactionState) → is_granted t ≡ true → t ≡ at_registrar.Granted
is-granted at_registrar.Free e = true_false (sym e)
is-granted at_registrar.Asked e = true_false (sym e)
is-granted at_registrar.Granted e = refl
is-granted at_registrar.Confirmed e = true_false (sym e)
is-granted at_registrar.Declined e = true_false (sym e)
is-granted at_registrar.Refused e = true_false (sym e)
is-granted at_registrar.Lapsed e = true_false (sym e)

-- a settled transaction is Confirmed or Declined
pub settled-one : (t : TransactionState) (s : ℕ) → settled_by t s ≡ true → (t ≡ at_registrar.Confirmed) ⊎ (t ≡ at_registrar.Declined)
settled-one at_registrar.Free s e = true_false (sym e)
settled-one at_registrar.Asked s e = true_false (sym e)
settled-one at_registrar.Granted s e = true_false (sym e)
settled-one at_registrar.Confirmed s e = inl refl
settled-one at_registrar.Declined s e = inr refl
settled-one at_registrar.Refused s e = true_false (sym e)
settled-one at_registrar.Lapsed s e = true_false (sym e)

pub settled-state : (s : ℕ) → (s ≡ 0) ⊎ (s ≡ 2) → settled_by (settled_state s) s ≡ true
settled-state s (inl e) = rw e
settled-state s (inr e) = rw e

pub settled_live : (s : ℕ) → (s ≡ 0) ⊎ (s ≡ 2) → is_free (settled_state s) ≡ false
settled_live s (inl e) = rw e
settled_live s (inr e) = rw e

pub settled-status : (s t : ℕ) → (s ≡ 0) ⊎ (s ≡ 2) → settled_by (settled_state s) t ≡ true → s ≡ t
settled-status s t (inl e) h = e ∙ sym (eqb_eq t 0 (rw e at h))
settled-status s t (inr e) h = e ∙ sym (eqb_eq t 2 (rw e at h))

pub not_asked : (t : TransactionState) → (t ≡ at_registrar.Asked → ⊥) → is_asked t ≡ false
not_asked at_registrar.Free d = refl
not_asked at_registrar.Asked d = absurd (d refl)
not_asked at_registrar.Granted d = refl
not_asked at_registrar.Confirmed d = refl
not_asked at_registrar.Declined d = refl
not_asked at_registrar.Refused d = refl
not_asked at_registrar.Lapsed d = refl

pub not_granted : (t : TransactionState) → (t ≡ at_registrar.Granted → ⊥) → is_granted t ≡ false
not_granted at_registrar.Free d = refl
not_granted at_registrar.Asked d = refl
not_granted at_registrar.Granted d = absurd (d refl)
not_granted at_registrar.Confirmed d = refl
not_granted at_registrar.Declined d = refl
not_granted at_registrar.Refused d = refl
not_granted at_registrar.Lapsed d = refl

-- the states that may be closed
abbrev pub MayClose : TransactionState → Type 0
MayClose s = (s ≡ at_registrar.Confirmed) ⊎ (s ≡ at_registrar.Declined) ⊎ (s ≡ at_registrar.Refused) ⊎ (s ≡ at_registrar.Lapsed)

pub may_close_lem : (t : TransactionState) → MayClose t → is_ended t ≡ true
may_close_lem t (inl e) = rw e
may_close_lem t (inr (inl e)) = rw e
may_close_lem t (inr (inr (inl e))) = rw e
may_close_lem t (inr (inr (inr e))) = rw e

pub not_close : (t : TransactionState) → (MayClose t → ⊥) → is_ended t ≡ false
not_close at_registrar.Free d = refl
not_close at_registrar.Asked d = refl
not_close at_registrar.Granted d = refl
not_close at_registrar.Confirmed d = absurd (d (inl refl))
not_close at_registrar.Declined d = absurd (d (inr (inl refl)))
not_close at_registrar.Refused d = absurd (d (inr (inr (inl refl))))
not_close at_registrar.Lapsed d = absurd (d (inr (inr (inr refl))))
