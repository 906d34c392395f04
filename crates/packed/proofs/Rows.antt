-- The table's rows as a loop comes to them, one row further.
use Prim.Native.Nat.{ℕ, zero, suc, ◌+◌, ◌-◌, ◌*◌, ◌<◌, ◌≤◌}
use mathlib.Core.List.{List, [], ◌∷◌, ◌++◌, append-nil, append_assoc}
use mathlib.Core.Bool.{Bool, true, false, ◌&&◌}
use mathlib.Core.Path.{◌≡◌, refl, sym, ◌∙◌, ap}
use native.Mathlib.Numerals.{add-one}
use native.Mathlib.Nat.{le_antisymm}
use native.Mathlib.Omega.{arith}
use lib.ListN.{length, take, drop, get_or, length-replicate}
use lib.Dec.{ltb}
use lib.Seq.{drop-drop, take-suc, take_all}
use Rattle.protocol.specs.declared.Transaction.{Transaction}
use Rattle.protocol.specs.declared.TransactionTable.{TransactionTable}
use Rattle.protocol.specs.Table.{capacity, free_transaction, empty_table}
use Rattle.packed.specs.Bytes.{Placed}
use Rattle.packed.specs.Places.{transaction_state_at}
use Rattle.packed.specs.Table.{transaction_bytes, pack_transaction, transaction_of, pack_rows, rows_of, states_good}
use Rattle.packed.proofs.Copies.{next}

-- ## Rows that are read

pub length_rows : (n : ℕ) (s : List ℕ) → length (rows_of n s) ≡ n
unfolding rows_of
length_rows zero s = refl
length_rows (suc n) s = ap suc (length_rows n (drop transaction_bytes s))

pub row_at : (n i : ℕ) (s : List ℕ) (d : Transaction) → i < n → get_or (rows_of n s) i d ≡ transaction_of (drop (i * transaction_bytes) s)
unfolding rows_of
row_at zero i s d h = absurd (omega arith)
row_at (suc n) zero s d h = refl
row_at (suc n) (suc i) s d h =
    let e : transaction_bytes + i * transaction_bytes ≡ suc i * transaction_bytes = omega arith in
    row_at n i (drop transaction_bytes s) d (omega arith) ∙ ap transaction_of (drop-drop (i * transaction_bytes) transaction_bytes s ∙ ap (λ (k : ℕ). drop k s) e)

pub empty-length : (t : TransactionTable) → t ≡ empty_table → length t.transactions ≡ capacity
unfolding empty_table
empty-length t e = rw e (length-replicate capacity free_transaction)

-- ## State bytes: of n, the first i are states

pub record Checked (n : ℕ) (s : List ℕ) (i : ℕ) : Type 0 where
  pub below : i ≤ n
  pub same : states_good n s ≡ states_good (n - i) (drop (i * transaction_bytes) s)

step : (n i at : ℕ) (s : List ℕ) (b : Bool) → n ≡ suc i → ltb (get_or (drop at s) transaction_state_at 0) 7 ≡ b → states_good n (drop at s) ≡ (b && states_good i (drop (at + transaction_bytes) s))
unfolding states_good
step n i at s b e h = rw e (cc (h, drop-drop transaction_bytes at s))

module _ {n : ℕ} {s : List ℕ} {i : ℕ} (c : Checked n s i) where
  pub check_no : i < n → ltb (get_or (drop (i * transaction_bytes) s) transaction_state_at 0) 7 ≡ false → states_good n s ≡ false
  check_no k h = c.same ∙ step (n - i) (n - i - 1) (i * transaction_bytes) s false (omega arith) h

  pub check-more : i < n → ltb (get_or (drop (i * transaction_bytes) s) transaction_state_at 0) 7 ≡ true → Checked n s (i + 1)
  check-more k h =
      let next : i * transaction_bytes + transaction_bytes ≡ (i + 1) * transaction_bytes = omega arith in
      record {
        below = omega arith;
        same = c.same ∙ step (n - i) (n - (i + 1)) (i * transaction_bytes) s true (omega arith) h ∙ ap (λ (k : ℕ). states_good (n - (i + 1)) (drop k s)) next;
      }

  pub check_all : n ≤ i → states_good n s ≡ true
  unfolding states_good
  check_all k =
      c.same ∙ (let z : n - i ≡ 0 = omega arith in rw z)

-- ## Rows that are put in: the first i of n

pub record PutRows (n : ℕ) (ts : List Transaction) (s₀ s : List ℕ) (i : ℕ) : Type 0 where
  pub below : i ≤ n
  pub put : Placed 0 (i * transaction_bytes) (pack_rows (take i ts)) s₀ s

rows_snoc : (ts : List Transaction) (t : Transaction) → pack_rows (ts ++ (t ∷ [])) ≡ pack_rows ts ++ pack_transaction t
unfolding pack_rows
rows_snoc [] t = append-nil (pack_transaction t)
rows_snoc (x ∷ ts) t = ap (λ (l : List ℕ). pack_transaction x ++ l) (rows_snoc ts t) ∙ sym (append_assoc (pack_transaction x) (pack_rows ts) (pack_transaction t))

module _ {n : ℕ} {ts : List Transaction} {s₀ s : List ℕ} {i : ℕ} (p : PutRows n ts s₀ s i) where
  pub put-row : length ts ≡ n → i < n → (d : Transaction) {s' : List ℕ} → Placed (i * transaction_bytes) transaction_bytes (pack_transaction (get_or ts i d)) s s' → PutRows n ts s₀ s' (i + 1)
  put-row sized k d {s' = s'} q =
      let next_at : i * transaction_bytes + transaction_bytes ≡ (i + 1) * transaction_bytes = omega arith in
      let more : Placed 0 (i * transaction_bytes + transaction_bytes) (pack_rows (take (i + 1) ts)) s₀ s' = rw (add-one i, take-suc ts i d (omega arith), rows_snoc) (next p.put (omega arith) q) in
      record { below = omega arith; put = rw next_at at more }

  pub put_all_rows : length ts ≡ n → n ≤ i → Placed 0 (n * transaction_bytes) (pack_rows ts) s₀ s
  put_all_rows sized k =
      let q : Placed 0 (n * transaction_bytes) (pack_rows (take n ts)) s₀ s = rw (le_antisymm p.below k) at p.put in
      rw (take_all n ts (omega arith)) at q
