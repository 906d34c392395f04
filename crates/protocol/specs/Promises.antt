-- What demands 1 and 2 ask of every call: its refusals, the lowest row, and what it leaves untouched.
use Rattle.std.specs.Prelude.{ℕ, ◌≤◌, List, [], ◌∷◌, true, ◌≡◌, ◌⊎◌, ◌≢◌, Some}
use Rattle.std.proofs.Math.Option.{some}
use Rattle.std.proofs.Math.ListN.{get_elem?}
use Rattle.protocol.specs.declared.Outgoing.{Outgoing}
use Rattle.protocol.specs.declared.Transaction.{Transaction}
use Rattle.protocol.specs.declared.TransactionTable.{TransactionTable}
use Rattle.protocol.specs.declared.Enrolment.{Enrolment}
use Rattle.protocol.specs.Types.{FailureInfo}
use Rattle.protocol.specs.declared.Outcome.{Outcome}
use Rattle.protocol.specs.declared.RegistrarAnswer.{RegistrarAnswer}
use Rattle.protocol.specs.declared.EndEntityAnswer.{EndEntityAnswer}
use Rattle.protocol.specs.declared.Outcome.TheVariants as outcome
use Rattle.protocol.specs.declared.TransactionState.TheVariants.{Free, Asked, Refused}
use Rattle.protocol.specs.Bytes.{no_nonce, no_hash}
use Rattle.protocol.specs.Table.{free_transaction}
use Rattle.protocol.specs.Refusals.{Row}

-- ## Numbers

abbrev pub OneOf : ℕ → List ℕ → Type 0
OneOf n [] = ⊥
OneOf n (k ∷ ks) = (n ≡ k) ⊎ OneOf n ks

-- the numbers of 01's table that each call may give
abbrev pub registrar_numbers : List ℕ
registrar_numbers = 1 ∷ 2 ∷ 3 ∷ 4 ∷ 5 ∷ 6 ∷ 7 ∷ 8 ∷ 9 ∷ 10 ∷ 11 ∷ 12 ∷ 13 ∷ 14 ∷ 15 ∷ 16 ∷ 17 ∷ 18 ∷ 19 ∷ 20 ∷ []

abbrev pub end_entity_numbers : List ℕ
end_entity_numbers = 1 ∷ 2 ∷ 3 ∷ 4 ∷ 5 ∷ 6 ∷ 7 ∷ 8 ∷ 12 ∷ 14 ∷ 15 ∷ 16 ∷ 18 ∷ 20 ∷ 21 ∷ []

abbrev pub host_numbers : List ℕ
host_numbers = 30 ∷ 31 ∷ []

-- ## The table of transactions

-- no id is that of two transactions in use
abbrev pub AtMostOne : TransactionTable → Type 0
AtMostOne t =
    (p q : ℕ) (r s : Transaction)
    → get_elem? t.transactions p ≡ some r
    → get_elem? t.transactions q ≡ some s
    → r.state ≢ Free
    → s.state ≢ Free
    → r.id ≡ s.id
    → p ≡ q

-- "unset bytes are zero"
pub record UnsetZero (r : Transaction) : Type 0 where
  -- a free slot is as in the empty table
  pub free : r.state ≡ Free → r ≡ free_transaction
  -- at Asked no nonce was sent, and no hash is set; at Refused no hash is set
  pub asked : r.state ≡ Asked → (r.sent ≡ no_nonce) × (r.hash ≡ no_hash)
  pub refused : r.state ≡ Refused → r.hash ≡ no_hash

abbrev pub AllUnsetZero : TransactionTable → Type 0
AllUnsetZero t = (p : ℕ) (r : Transaction) → get_elem? t.transactions p ≡ some r → UnsetZero r

-- a call of the registrar on the table t, whose refusals have these numbers
pub record RegistrarPromise (numbers : List ℕ) (t : TransactionTable) (a : RegistrarAnswer) : Type 0 where
  -- "A refusal has a number from our table, and the desk's book [...] stays as it was."
  pub number : (n : ℕ) (b : FailureInfo) → a.outcome ≡ outcome.Refused n b → OneOf n numbers
  pub unchanged : (n : ℕ) (b : FailureInfo) → a.outcome ≡ outcome.Refused n b → a.table ≡ t
  -- "again": the table stays as it was
  pub again : a.outcome ≡ outcome.Again → a.table ≡ t
  -- no slot but the one in the answer changes
  pub others : (p : ℕ) → p ≢ a.slot.0 → get_elem? a.table.transactions p ≡ get_elem? t.transactions p
  pub one : AtMostOne t → AtMostOne a.table
  pub unset : AllUnsetZero t → AllUnsetZero a.table

-- ## The enrolment

-- a call of an end entity on the enrolment x
pub record EndEntityPromise (numbers : List ℕ) (x : Enrolment) (a : EndEntityAnswer) : Type 0 where
  -- "A refusal has a number from our table, and [...] the board's record stays as it was."
  pub number : (n : ℕ) (b : FailureInfo) → a.outcome ≡ outcome.Refused n b → OneOf n numbers
  pub unchanged : (n : ℕ) (b : FailureInfo) → a.outcome ≡ outcome.Refused n b → a.enrolment ≡ x
  -- only the registrar answers "again"
  pub never : a.outcome ≡ outcome.Again → ⊥
  -- an enrolment keeps its id and its kind
  pub id : a.enrolment.id ≡ x.id
  pub kind : a.enrolment.kind ≡ x.kind
  -- "a board never does": what it sends on a message is a certConf and no error
  pub sends : (o : Outgoing) → a.outgoing ≡ Some o → o.kind ≡ 24

-- ## The lowest row

-- the row of this number applies
abbrev pub Applies : ℕ → List Row → Type 0
Applies n [] = ⊥
Applies n (r ∷ rs) = ((r.number ≡ n) × (r.applies ≡ true)) ⊎ Applies n rs

-- "The lowest number that applies is given, and none otherwise."
pub record LowestGiven (rows : List Row) (o : Outcome) : Type 0 where
  pub given : (n : ℕ) (b : FailureInfo) → o ≡ outcome.Refused n b → Applies n rows
  pub lowest : (n : ℕ) (b : FailureInfo) → o ≡ outcome.Refused n b → (k : ℕ) → Applies k rows → n ≤ k
  pub whenever : (k : ℕ) → Applies k rows → (n : ℕ) × (b : FailureInfo) × (o ≡ outcome.Refused n b)
