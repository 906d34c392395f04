-- The transaction table (01's book): which transaction an id names, and the table with one transaction changed.
use Rattle.std.specs.Prelude.{ℕ, suc, List, [], ◌∷◌, Bool, true, false, not, cond, ◌&&◌, replicate}
use Rattle.std.proofs.Math.Option.{Option, none, some}
use Rattle.protocol.specs.declared.TransactionId.{TransactionId}
use Rattle.protocol.specs.declared.TransactionState.{TransactionState}
use Rattle.protocol.specs.declared.Transaction.{Transaction}
use Rattle.protocol.specs.declared.TransactionTable.{TransactionTable}
use Rattle.protocol.specs.declared.TransactionState.TheVariants.{Free, Asked, Granted, Confirmed, Declined, Refused, Lapsed}
use Rattle.protocol.specs.Bytes.{no_id, no_nonce, no_hash, same_id}

-- the number of slots
abbrev pub capacity : ℕ
capacity = 16

-- "a free place holds no id": what a free slot holds
abbrev pub free_transaction : Transaction
free_transaction = record { id = no_id; board = record { 0 = 0 }; kind = 0; taken = no_nonce; sent = no_nonce; hash = no_hash; state = Free }

-- "a book with every place free"
unfoldable pub empty_table : TransactionTable
empty_table = record { transactions = replicate capacity free_transaction }

abbrev pub is_free : TransactionState → Bool
is_free Free = true
is_free Asked = false
is_free Granted = false
is_free Confirmed = false
is_free Declined = false
is_free Refused = false
is_free Lapsed = false

-- the transaction is in use and has this id
abbrev pub is_for : TransactionId → Transaction → Bool
is_for i r = not (is_free r.state) && same_id r.id i

-- the transaction in use that has the id
unfoldable pub lookup : List Transaction → TransactionId → Option Transaction
lookup [] i = none
lookup (r ∷ rs) i = cond (is_for i r) (some r) (lookup rs i)

-- its slot, or the number of slots
unfoldable pub slot_of : List Transaction → TransactionId → ℕ
slot_of [] i = 0
slot_of (r ∷ rs) i = cond (is_for i r) 0 (suc (slot_of rs i))

-- the transaction in use that has the id becomes x
unfoldable pub replace : List Transaction → TransactionId → Transaction → List Transaction
replace [] i x = []
replace (r ∷ rs) i x = cond (is_for i r) (x ∷ rs) (r ∷ replace rs i x)

-- some slot is free
unfoldable pub has_free_slot : List Transaction → Bool
has_free_slot [] = false
has_free_slot (r ∷ rs) = cond (is_free r.state) true (has_free_slot rs)

-- the lowest free slot, or the number of slots
unfoldable pub free_slot : List Transaction → ℕ
free_slot [] = 0
free_slot (r ∷ rs) = cond (is_free r.state) 0 (suc (free_slot rs))

-- the lowest free slot takes x
unfoldable pub put : List Transaction → Transaction → List Transaction
put [] x = []
put (r ∷ rs) x = cond (is_free r.state) (x ∷ rs) (r ∷ put rs x)
