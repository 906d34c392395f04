-- The transaction table in bytes: its slots one after the other.
use Rattle.std.specs.Prelude.{ℕ, zero, suc, ◌*◌, List, [], ◌∷◌, ◌++◌, Bool, true, cond, ◌&&◌, ◌≡◌, length, drop, get_or, eqb, ltb, Option, Some, None, unwrap_or}
use Rattle.protocol.specs.declared.Transaction.{Transaction}
use Rattle.protocol.specs.declared.TransactionState.{TransactionState}
use Rattle.protocol.specs.declared.TransactionState.TheVariants.{Free, Asked, Granted, Confirmed, Declined, Refused, Lapsed}
use Rattle.protocol.specs.declared.TransactionTable.{TransactionTable}
use Rattle.protocol.specs.Table.{capacity, empty_table}
use Rattle.packed.specs.Bytes.{part, two_at, two_bytes}
use Rattle.packed.specs.Places.{id_bytes, nonce_bytes, hash_bytes, transaction_id_at, transaction_board_at, transaction_kind_at, transaction_taken_at, transaction_sent_at, transaction_hash_at, transaction_state_at, transaction_end}

-- ## A state

abbrev pub transaction_state_number : TransactionState → ℕ
transaction_state_number Free = 0
transaction_state_number Asked = 1
transaction_state_number Granted = 2
transaction_state_number Confirmed = 3
transaction_state_number Declined = 4
transaction_state_number Refused = 5
transaction_state_number Lapsed = 6

-- of a number below 7
unfoldable pub transaction_state_of : ℕ → TransactionState
transaction_state_of n =
    cond (eqb n 0) Free (
    cond (eqb n 1) Asked (
    cond (eqb n 2) Granted (
    cond (eqb n 3) Confirmed (
    cond (eqb n 4) Declined (
    cond (eqb n 5) Refused Lapsed)))))

-- ## A transaction

abbrev pub transaction_bytes : ℕ
transaction_bytes = transaction_end

-- id, board and kind
unfoldable pub pack_request : Transaction → List ℕ
pack_request t =
    t.id.bytes ++ (
    two_bytes t.board.0 ++ (
    t.kind ∷ []))

-- nonces, hash and state
unfoldable pub pack_progress : Transaction → List ℕ
pack_progress t =
    t.taken.bytes ++ (
    t.sent.bytes ++ (
    t.hash.bytes ++ (
    transaction_state_number t.state ∷ [])))

abbrev pub pack_transaction : Transaction → List ℕ
pack_transaction t = pack_request t ++ pack_progress t

-- from the first bytes of a string
unfoldable pub transaction_of : List ℕ → Transaction
transaction_of s =
    record {
      id = record { bytes = part transaction_id_at id_bytes s };
      board = record { 0 = two_at transaction_board_at s };
      kind = get_or s transaction_kind_at 0;
      taken = record { bytes = part transaction_taken_at nonce_bytes s };
      sent = record { bytes = part transaction_sent_at nonce_bytes s };
      hash = record { bytes = part transaction_hash_at hash_bytes s };
      state = transaction_state_of (get_or s transaction_state_at 0);
    }

-- ## The table

abbrev pub table_bytes : ℕ
table_bytes = capacity * transaction_bytes

unfoldable pub pack_rows : List Transaction → List ℕ
pack_rows [] = []
pack_rows (t ∷ ts) = pack_transaction t ++ pack_rows ts

-- the first n
unfoldable pub rows_of : ℕ → List ℕ → List Transaction
rows_of zero s = []
rows_of (suc n) s = transaction_of s ∷ rows_of n (drop transaction_bytes s)

-- each of the first n state bytes is a state
unfoldable pub states_good : ℕ → List ℕ → Bool
states_good zero s = true
states_good (suc n) s = ltb (get_or s transaction_state_at 0) 7 && states_good n (drop transaction_bytes s)

abbrev pub pack_table : TransactionTable → List ℕ
pack_table t = pack_rows t.transactions

abbrev pub table_of : List ℕ → TransactionTable
table_of s = record { transactions = rows_of capacity s }

-- ## The two calls

-- where they are exactly as long as one, and every state byte is a state
unfoldable pub unpack_table : List ℕ → Option TransactionTable
unpack_table s = cond (eqb (length s) table_bytes && states_good capacity s) (Some (table_of s)) None

-- for the theorems: the table, or the empty one
abbrev pub table_held : List ℕ → TransactionTable
table_held s = unwrap_or (unpack_table s) empty_table

-- bytes of another length stay as they are
unfoldable pub pack_table_in : TransactionTable → List ℕ → List ℕ
pack_table_in t s = cond (eqb (length s) table_bytes) (pack_table t) s

-- ## For the theorems: the arrays have their lengths. Numbers need no bound there

pub record TransactionSized (t : Transaction) : Type 0 where
  pub id : length t.id.bytes ≡ id_bytes
  pub taken : length t.taken.bytes ≡ nonce_bytes
  pub sent : length t.sent.bytes ≡ nonce_bytes
  pub hash : length t.hash.bytes ≡ hash_bytes

abbrev pub AllSized : List Transaction → Type 0
AllSized [] = Unit {0}
AllSized (t ∷ ts) = TransactionSized t × AllSized ts

pub record TableSized (t : TransactionTable) : Type 0 where
  pub slots : length t.transactions ≡ capacity
  pub each : AllSized t.transactions
