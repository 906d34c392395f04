-- What the proofs read off the tables of the end entity's states. A new state is a clause in each.
use Prim.Native.Nat.{ℕ}
use mathlib.Core.Bool.{Bool, true, false}
use mathlib.Core.Path.{◌≡◌, refl, sym}
use mathlib.Core.Logic.{inl, inr}
use lib.Dec.{eqb}
use Rattle.protocol.specs.declared.EnrolmentState.{EnrolmentState}
use Rattle.protocol.specs.declared.EnrolmentState.TheVariants.{Asked, Confirming, Declining, Sure, Declined, Failed, Unsettled}
use Rattle.protocol.specs.States.{broken_state, assured, is_waiting, decided, decision}
use Rattle.protocol.specs.Agreement.{MayBeSure}
use Rattle.protocol.proofs.Tests.{true_false, eqb_eq}

-- an enrolment in this state may have sent a certConf of status s
abbrev pub stands_for : EnrolmentState → ℕ → Bool
stands_for Asked s = false
stands_for Confirming s = eqb s 0
stands_for Declining s = eqb s 2
stands_for Sure s = eqb s 0
stands_for Declined s = eqb s 2
stands_for Failed s = false
stands_for Unsettled s = true

-- an enrolment in this state has sent a certConf of status s
abbrev pub has_confirmed : EnrolmentState → ℕ → Bool
has_confirmed Asked s = false
has_confirmed Confirming s = eqb s 0
has_confirmed Declining s = eqb s 2
has_confirmed Sure s = eqb s 0
has_confirmed Declined s = eqb s 2
has_confirmed Failed s = false
has_confirmed Unsettled s = false

-- an enrolment in this state has had its pkiconf
abbrev pub is_answered : EnrolmentState → Bool
is_answered Asked = false
is_answered Confirming = false
is_answered Declining = false
is_answered Sure = true
is_answered Declined = true
is_answered Failed = false
is_answered Unsettled = false

pub may_be_sure : (t : EnrolmentState) → stands_for t 0 ≡ true → MayBeSure t
may_be_sure Asked e = true_false (sym e)
may_be_sure Confirming e = inr (inl refl)
may_be_sure Declining e = true_false (sym e)
may_be_sure Sure e = inl refl
may_be_sure Declined e = true_false (sym e)
may_be_sure Failed e = true_false (sym e)
may_be_sure Unsettled e = inr (inr refl)

pub broken_stands : (t : EnrolmentState) (s : ℕ) → stands_for t s ≡ true → stands_for (broken_state t) s ≡ true
broken_stands Asked s e = e
broken_stands Confirming s e = refl
broken_stands Declining s e = refl
broken_stands Sure s e = e
broken_stands Declined s e = e
broken_stands Failed s e = e
broken_stands Unsettled s e = e

pub broken_confirmed : (t : EnrolmentState) (s : ℕ) → has_confirmed (broken_state t) s ≡ true → has_confirmed t s ≡ true
broken_confirmed Asked s e = e
broken_confirmed Confirming s e = true_false (sym e)
broken_confirmed Declining s e = true_false (sym e)
broken_confirmed Sure s e = e
broken_confirmed Declined s e = e
broken_confirmed Failed s e = e
broken_confirmed Unsettled s e = e

pub broken_answered : (t : EnrolmentState) → is_answered (broken_state t) ≡ true → is_answered t ≡ true
broken_answered Asked e = e
broken_answered Confirming e = e
broken_answered Declining e = e
broken_answered Sure e = e
broken_answered Declined e = e
broken_answered Failed e = e
broken_answered Unsettled e = e

pub assured_stands : (t : EnrolmentState) (s : ℕ) → stands_for t s ≡ true → stands_for (assured t) s ≡ true
assured_stands Asked s e = e
assured_stands Confirming s e = e
assured_stands Declining s e = e
assured_stands Sure s e = e
assured_stands Declined s e = e
assured_stands Failed s e = e
assured_stands Unsettled s e = e

pub assured-confirmed : (t : EnrolmentState) (s : ℕ) → has_confirmed (assured t) s ≡ true → has_confirmed t s ≡ true
assured-confirmed Asked s e = e
assured-confirmed Confirming s e = e
assured-confirmed Declining s e = e
assured-confirmed Sure s e = e
assured-confirmed Declined s e = e
assured-confirmed Failed s e = e
assured-confirmed Unsettled s e = e

pub waiting_stands : (t : EnrolmentState) (s : ℕ) → is_waiting t ≡ true → stands_for t s ≡ true → ⊥
waiting_stands Asked s a e = true_false (sym e)
waiting_stands Confirming s a e = true_false (sym a)
waiting_stands Declining s a e = true_false (sym a)
waiting_stands Sure s a e = true_false (sym a)
waiting_stands Declined s a e = true_false (sym a)
waiting_stands Failed s a e = true_false (sym a)
waiting_stands Unsettled s a e = true_false (sym a)

pub decided_stands : (a : Bool) → stands_for (decided a) (decision a) ≡ true
decided_stands true = refl
decided_stands false = refl

pub decided-status : (a : Bool) (s : ℕ) → has_confirmed (decided a) s ≡ true → decision a ≡ s
decided-status true s e = sym (eqb_eq s 0 e)
decided-status false s e = sym (eqb_eq s 2 e)

pub decided_open : (a : Bool) → is_answered (decided a) ≡ true → ⊥
decided_open true e = true_false (sym e)
decided_open false e = true_false (sym e)
