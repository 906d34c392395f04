-- "When the desk or a board says no": the table's rows, the lowest that applies, and the bit that goes with each number.
use Rattle.std.specs.Prelude.{ℕ, List, [], ◌∷◌, Bool, true, not, cond, ◌||◌, length, eqb, Some, None}
use Rattle.std.proofs.Math.Option.{Option, none, some}
use Rattle.message.specs.declared.ReadFault.{ReadFault}
use Rattle.protocol.specs.Types.{FailureInfo}
use Rattle.protocol.specs.Message.{Fields}

-- a row: the number, and whether it applies
pub record Row : Type 0 where
  pub number : ℕ
  pub applies : Bool

abbrev pub row : ℕ → Bool → Row
row n b = record { number = n; applies = b }

pub data LowestRow : Type 0 where
  pass : LowestRow
  stop : ℕ → LowestRow

-- "the lowest number that applies is given, and none otherwise": the rows stand in the order of their numbers
unfoldable pub lowest_row : List Row → LowestRow
lowest_row [] = pass
lowest_row (r ∷ rs) = cond r.applies (stop r.number) (lowest_row rs)

-- ## The bits

-- a number of the table and its bit
pub record NumberBit : Type 0 where
  pub number : ℕ
  pub bit : FailureInfo

abbrev pub has : ℕ → FailureInfo → NumberBit
has n b = record { number = n; bit = b }

-- 01's column "bit"; the argument says whether the transaction is Confirmed at the registrar (20: "11 if Confirmed, else 2")
abbrev pub bits : Bool → List NumberBit
bits confirmed =
    has 1 (Some 5)
    ∷ has 2 (Some 5)
    ∷ has 3 (Some 22)
    ∷ has 4 (Some 5)
    ∷ has 5 (Some 18)
    ∷ has 6 (Some 1)
    ∷ has 7 (Some 1)
    ∷ has 8 (Some 2)
    ∷ has 9 (Some 2)
    ∷ has 10 (Some 21)
    ∷ has 11 (Some 24)
    ∷ has 12 (Some 2)
    ∷ has 13 (Some 23)
    ∷ has 14 (Some 13)
    ∷ has 15 (Some 2)
    ∷ has 16 (Some 2)
    ∷ has 17 (Some 2)
    ∷ has 18 (Some 2)
    ∷ has 19 (Some 4)
    ∷ has 20 (cond confirmed (Some 11) (Some 2))
    ∷ has 21 None
    ∷ has 30 None
    ∷ has 31 None
    ∷ has 32 None
    ∷ []

abbrev pub bit_in : ℕ → List NumberBit → FailureInfo
bit_in n [] = None
bit_in n (b ∷ bs) = cond (eqb n b.number) b.bit (bit_in n bs)

unfoldable pub bit_of : ℕ → (confirmed : Bool) → FailureInfo
bit_of n confirmed = bit_in n (bits confirmed)

-- ## The reading, and the rows that both ends share

-- what stands in an answer where the message reads, or there is none
abbrev pub no_fault : ReadFault
no_fault = record { number = 0; at = record { 0 = 0 }; rule = 0 }

-- 1: "length 0 or above 16,384"; 2: "not DER or not the grammar"
abbrev pub read_refusal : ReadFault → ℕ
read_refusal f = cond (eqb f.number 1) 1 2

-- a part that is absent or not 16 bytes
abbrev pub not_sixteen : Option (List ℕ) → Bool
not_sixteen none = true
not_sixteen (some b) = not (eqb (length b) 16)

-- 3: "pvno not 2 or 3"
abbrev pub other_version : Fields → Bool
other_version m = not (eqb m.version 2 || eqb m.version 3)

-- 4: "transactionID absent or not 16 bytes"
abbrev pub no_transaction_id : Fields → Bool
no_transaction_id m = not_sixteen m.id

-- 5: "senderNonce absent or not 16 bytes"
abbrev pub no_sender_nonce : Fields → Bool
no_sender_nonce m = not_sixteen m.sender_nonce

-- 6: "protectionAlg or protection absent"
abbrev pub unprotected : Fields → Bool
unprotected m = not m.protected

-- 3 to 7, the last: "verdict bad"
abbrev pub head_rows : (good : Bool) → Fields → List Row
head_rows good m = row 3 (other_version m) ∷ row 4 (no_transaction_id m) ∷ row 5 (no_sender_nonce m) ∷ row 6 (unprotected m) ∷ row 7 (not good) ∷ []
