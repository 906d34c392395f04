-- What the code of both ends hands on of a message: the row that refuses it as a number, and the reader's fault.
use Rattle.std.specs.Prelude.{ℕ, List, [], ◌∷◌, ◌++◌, Bool, true, cond, ◌&&◌, ◌≡◌, eqb, ltb, Option, Some, None, Ok, Err, unwrap_or}
use Rattle.std.proofs.Math.Option as math
use Rattle.message.specs.declared.ReadFault.{ReadFault}
use Rattle.message.specs.Types.{Reading}
use Rattle.protocol.specs.declared.Transaction.{Transaction}
use Rattle.protocol.specs.declared.Enrolment.{Enrolment}
use Rattle.protocol.specs.Types.{Verdict}
use Rattle.protocol.specs.Message.{Fields}
use Rattle.protocol.specs.Refusals.{Row, LowestRow, pass, stop, row, no_fault, lowest_row, head_rows}
use Rattle.protocol.specs.RegistrarRows.{transaction_rows, entry_rows}
use Rattle.protocol.specs.EndEntityRows.{answer_rows}

-- the number of the lowest row that applies
abbrev pub number_of : LowestRow → Option ℕ
number_of pass = None
number_of (stop k) = Some k

-- the reader's fault
abbrev pub fault_of : Reading → ReadFault
fault_of (Ok m) = no_fault
fault_of (Err f) = f

-- a row as the code has it
abbrev pub row_of : ℕ × Bool → Row
row_of r = row r.0 r.1

-- ## One row after the other: the number so far, 0 where no row applied yet

-- the next row: the number so far, or this one where it applies
abbrev pub or_row : ℕ → ℕ → Bool → ℕ
or_row n k b = cond (eqb n 0) (cond b k 0) n

-- the number so far, and each row after the other
unfoldable pub chain : ℕ → List Row → ℕ
chain n [] = n
chain n (r ∷ rs) = chain (or_row n r.number r.applies) rs

-- no row has the number 0
unfoldable pub all_positive : List Row → Bool
all_positive [] = true
all_positive (r ∷ rs) = ltb 0 r.number && all_positive rs

-- the number of the lowest row that applies, 0 where none does
abbrev pub number_or0 : List Row → ℕ
number_or0 rs = unwrap_or (number_of (lowest_row rs)) 0

-- a chain of rows finds the lowest; so do two, the second from the number of the first on
pub record ChainFinds : Type 0 where
  pub whole : (rs : List Row) → all_positive rs ≡ true → chain 0 rs ≡ number_or0 rs
  pub both : (rs qs : List Row) → all_positive (rs ++ qs) ≡ true → chain (chain 0 rs) qs ≡ number_or0 (rs ++ qs)
  pub from : (rs qs : List Row) → all_positive rs ≡ true → all_positive (rs ++ qs) ≡ true → chain (number_or0 rs) qs ≡ number_or0 (rs ++ qs)

-- no row of either end has the number 0
pub record NumbersPositive : Type 0 where
  pub of_head : (good : Bool) (m : Fields) → all_positive (head_rows good m) ≡ true
  pub of_transaction : (ts : List Transaction) (f : math.Option Transaction) (v : Verdict) (r : Transaction) (m : Fields) → all_positive (transaction_rows ts f v r m) ≡ true
  pub of_entry : (r : Transaction) (m : Fields) → all_positive (entry_rows r m) ≡ true
  pub of_answer : (x : Enrolment) (m : Fields) → all_positive (answer_rows x m) ≡ true
