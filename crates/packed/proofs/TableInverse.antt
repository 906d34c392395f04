-- Packing and unpacking a table are inverse to each other.
use Rattle.std.specs.Prelude.{Some, is_some}
use Prim.Native.Nat.{ℕ, zero, suc, ◌+◌, ◌*◌, ◌<◌, ◌≤◌}
use mathlib.Core.List.{List, [], ◌∷◌, ◌++◌, append-nil, append_assoc}
use mathlib.Core.Bool.{true, ◌&&◌}
use mathlib.Core.Path.{◌≡◌, refl, sym, ◌∙◌, ap}
use native.Mathlib.Omega.{arith}
use borrow.Author.Tests.{lt-ltb, eq-eqb, ltb-true, eqb-true}
use lib.Dec.{eqb, ltb}
use lib.ListN.{length, take, drop, get_or, length-append, length-drop}
use lib.Seq.{take-add, take_all, drop_at}
use Rattle.der.proofs.Auto.{and_left, and_right}
use Rattle.protocol.specs.declared.Transaction.{Transaction}
use Rattle.protocol.specs.declared.TransactionState.{TransactionState}
use Rattle.protocol.specs.declared.TransactionState.TheVariants.{Free, Asked, Granted, Confirmed, Declined, Refused, Lapsed}
use Rattle.protocol.specs.declared.TransactionTable.{TransactionTable}
use Rattle.protocol.specs.Table.{capacity}
use Rattle.packed.specs.Bytes.{AllBytes}
use Rattle.packed.specs.Places.{id_bytes, nonce_bytes, hash_bytes, transaction_id_at, transaction_taken_at, transaction_sent_at, transaction_hash_at, transaction_state_at}
use Rattle.packed.specs.Table.{transaction_state_number, transaction_state_of, transaction_bytes, pack_request, pack_progress, pack_transaction, transaction_of, table_bytes, pack_rows, rows_of, states_good, pack_table, table_of, unpack_table, table_held, TransactionSized, AllSized, TableSized}
use Rattle.packed.proofs.Tests.{tested}
use Rattle.packed.proofs.Parts.{bytes_drop, part_length}
use Rattle.packed.proofs.Rows.{length_rows}
use Rattle.packed.proofs.FieldLaws.{Field, Bytes, Byte, Two, joined, AllFit, AllRead, read_back, joined_length, made_again}

-- ## A state

of_number : (x : TransactionState) → transaction_state_of (transaction_state_number x) ≡ x
unfolding transaction_state_of
of_number Free = refl
of_number Asked = refl
of_number Granted = refl
of_number Confirmed = refl
of_number Declined = refl
of_number Refused = refl
of_number Lapsed = refl

below : (x : TransactionState) → transaction_state_number x < 7
below Free = omega arith
below Asked = omega arith
below Granted = omega arith
below Confirmed = omega arith
below Declined = omega arith
below Refused = omega arith
below Lapsed = omega arith

number_of : (n : ℕ) → n < 7 → transaction_state_number (transaction_state_of n) ≡ n
unfolding transaction_state_of
number_of zero h = refl
number_of (suc zero) h = refl
number_of (suc (suc zero)) h = refl
number_of (suc (suc (suc zero))) h = refl
number_of (suc (suc (suc (suc zero)))) h = refl
number_of (suc (suc (suc (suc (suc zero))))) h = refl
number_of (suc (suc (suc (suc (suc (suc zero)))))) h = refl
number_of (suc (suc (suc (suc (suc (suc (suc n))))))) h = absurd (omega arith)

-- ## Unpacking what was packed

abbrev fields : Transaction → List Field
fields t =
    Bytes id_bytes t.id.bytes
    ∷ Two t.board.0
    ∷ Byte t.kind
    ∷ Bytes nonce_bytes t.taken.bytes
    ∷ Bytes nonce_bytes t.sent.bytes
    ∷ Bytes hash_bytes t.hash.bytes
    ∷ Byte (transaction_state_number t.state)
    ∷ []

all_fit : (t : Transaction) → TransactionSized t → AllFit (fields t)
all_fit t z = search

all_are : (t : Transaction) (rest : List ℕ) → pack_transaction t ++ rest ≡ joined (fields t) rest
unfolding pack_request pack_progress
all_are t rest = simp append_assoc

packed_is : (t : Transaction) → pack_transaction t ≡ joined (fields t) []
packed_is t = sym (append-nil (pack_transaction t)) ∙ all_are t []

is_read : (t : Transaction) (s : List ℕ) → AllRead 0 (fields t) s → transaction_of s ≡ t
unfolding transaction_of
is_read t s (id, (board, (kind, (taken, (sent, (hash, (state, _))))))) =
    λ i. record {
      id = record { bytes = id i };
      board = record { 0 = board i };
      kind = kind i;
      taken = record { bytes = taken i };
      sent = record { bytes = sent i };
      hash = record { bytes = hash i };
      state = (ap transaction_state_of state ∙ of_number t.state) i;
    }

state_read : (t : Transaction) (s : List ℕ) → AllRead 0 (fields t) s → get_or s transaction_state_at 0 ≡ transaction_state_number t.state
state_read t s h = cc

module _ (t : Transaction) (z : TransactionSized t) where
  packed_read : (rest : List ℕ) → AllRead 0 (fields t) (pack_transaction t ++ rest)
  packed_read rest = rw (all_are t rest) (read_back (fields t) (all_fit t z) rest)

  pub packed_length : length (pack_transaction t) ≡ transaction_bytes
  packed_length = ap length (packed_is t) ∙ joined_length (fields t) (all_fit t z) []

rows_length : (ts : List Transaction) → AllSized ts → length (pack_rows ts) ≡ length ts * transaction_bytes
unfolding pack_rows
rows_length [] z = refl
rows_length (t ∷ ts) z = omega (arith, length-append (pack_transaction t) (pack_rows ts), packed_length t z.0, rows_length ts z.1)

rows_back : (ts : List Transaction) → AllSized ts → rows_of (length ts) (pack_rows ts) ≡ ts
unfolding rows_of pack_rows
rows_back [] z = refl
rows_back (t ∷ ts) z =
    cc (is_read t _ (packed_read t z.0 (pack_rows ts)), drop_at (pack_transaction t) (pack_rows ts) transaction_bytes (packed_length t z.0), rows_back ts z.1)

states-back : (ts : List Transaction) → AllSized ts → states_good (length ts) (pack_rows ts) ≡ true
unfolding states_good pack_rows
states-back [] z = refl
states-back (t ∷ ts) z =
    let state : ltb (get_or (pack_transaction t ++ pack_rows ts) transaction_state_at 0) 7 ≡ true = rw (state_read t _ (packed_read t z.0 (pack_rows ts))) (lt-ltb _ _ (below t.state)) in
    cc (state, drop_at (pack_transaction t) (pack_rows ts) transaction_bytes (packed_length t z.0), states-back ts z.1)

pub unpack_packed : (t : TransactionTable) → TableSized t → unpack_table (pack_table t) ≡ Some t
unfolding unpack_table
unpack_packed t z =
    let size : eqb (length (pack_table t)) table_bytes ≡ true = eq-eqb _ _ (rw z.slots at (rows_length t.transactions z.each)) in
    let good : states_good capacity (pack_table t) ≡ true = rw z.slots at (states-back t.transactions z.each) in
    let rows : rows_of capacity (pack_table t) ≡ t.transactions = rw z.slots at (rows_back t.transactions z.each) in
    rw (size, good, rows)

-- ## Packing what was unpacked

transaction_again : (s : List ℕ) → AllBytes s → transaction_bytes ≤ length s → get_or s transaction_state_at 0 < 7 → pack_transaction (transaction_of s) ≡ take transaction_bytes s
unfolding transaction_of
transaction_again s b h n =
    packed_is (transaction_of s) ∙ made_again (fields (transaction_of s)) 0 s h (refl, ((refl, b), (refl, (refl, (refl, (refl, (number_of _ n, tt)))))))

rows_again : (n : ℕ) (s : List ℕ) → AllBytes s → n * transaction_bytes ≤ length s → states_good n s ≡ true → pack_rows (rows_of n s) ≡ take (n * transaction_bytes) s
unfolding pack_rows rows_of states_good
rows_again zero s b h g = refl
rows_again (suc n) s b h g =
    let first : pack_transaction (transaction_of s) ≡ take transaction_bytes s = transaction_again s b (omega arith) (ltb-true _ _ (and_left (ltb (get_or s transaction_state_at 0) 7) _ g)) in
    let others : pack_rows (rows_of n (drop transaction_bytes s)) ≡ take (n * transaction_bytes) (drop transaction_bytes s) =
    rows_again n (drop transaction_bytes s) (bytes_drop transaction_bytes s b) (omega (arith, length-drop transaction_bytes s)) (and_right (ltb (get_or s transaction_state_at 0) 7) _ g)
    in
    let size : transaction_bytes + n * transaction_bytes ≡ suc n * transaction_bytes = omega arith in
    rw (first, others, ← take-add transaction_bytes (n * transaction_bytes) s, size)

-- ## What holds where there is a table

module _ (s : List ℕ) (ok : is_some (unpack_table s) ≡ true) where
  tests : (eqb (length s) table_bytes && states_good capacity s) ≡ true
  unfolding unpack_table
  tests = tested (eqb (length s) table_bytes && states_good capacity s) (table_of s) ok

  pub table_size : length s ≡ table_bytes
  table_size = eqb-true _ _ (and_left _ (states_good capacity s) tests)

  pub table_states : states_good capacity s ≡ true
  table_states = and_right (eqb (length s) table_bytes) _ tests

  pub table_is : table_held s ≡ table_of s
  unfolding unpack_table
  table_is = rw tests refl

pub pack_unpacked : (s : List ℕ) → AllBytes s → is_some (unpack_table s) ≡ true → pack_table (table_held s) ≡ s
pack_unpacked s b ok =
    let size : length s ≡ table_bytes = table_size s ok in
    rw (table_is s ok) (rows_again capacity s b (omega arith) (table_states s ok) ∙ take_all table_bytes s (omega arith))

-- ## What is unpacked has its sizes

rows_sized : (n : ℕ) (s : List ℕ) → n * transaction_bytes ≤ length s → AllSized (rows_of n s)
unfolding rows_of transaction_of
rows_sized zero s h = tt
rows_sized (suc n) s h = (
  record { id = part_length transaction_id_at id_bytes s (omega arith); taken = part_length transaction_taken_at nonce_bytes s (omega arith); sent = part_length transaction_sent_at nonce_bytes s (omega arith); hash = part_length transaction_hash_at hash_bytes s (omega arith) },
  rows_sized n (drop transaction_bytes s) (omega (arith, length-drop transaction_bytes s)),
)

pub table_sized : (s : List ℕ) → is_some (unpack_table s) ≡ true → TableSized (table_held s)
table_sized s ok =
    let size : length s ≡ table_bytes = table_size s ok in
    rw (table_is s ok) (record { slots = length_rows capacity s; each = rows_sized capacity s (omega arith) })
