-- What the steps put into a table, an enrolment or an answer has its size: parts of a message that passed rows 4 and 5, bits, and rows.
use Rattle.std.specs.Prelude.{Some, None, unwrap_or}
use Prim.Native.Nat.{ℕ, zero, suc, ◌<◌, ◌≤◌}
use mathlib.Core.List.{List, [], ◌∷◌}
use mathlib.Core.Bool.{Bool, true, false, ◌&&◌}
use mathlib.Core.Option.{Option, none, some}
use mathlib.Core.Path.{◌≡◌, refl, sym, ◌∙◌, ap, subst}
use native.Mathlib.Omega.{arith}
use borrow.Author.Tests.{ltb-true, eqb-true, ne_eqb, not-false}
use lib.ListN.{length, replicate, length-replicate}
use lib.Dec.{eqb, leb, ltb}
use Rattle.der.proofs.Auto.{and_left, and_right}
use Rattle.protocol.specs.Types.{FailureInfo}
use Rattle.protocol.specs.declared.TransactionId.{TransactionId}
use Rattle.protocol.specs.declared.Transaction.{Transaction}
use Rattle.protocol.specs.declared.TransactionTable.{TransactionTable}
use Rattle.protocol.specs.Bytes.{bytes_of, zeros}
use Rattle.protocol.specs.Table.{capacity, lookup, slot_of, free_slot, replace, put, is_for, is_free, free_transaction, empty_table}
use Rattle.protocol.specs.Refusals.{NumberBit, bits, bit_in, bit_of, Row, row, LowestRow, pass, stop, lowest_row, not_sixteen}
use Rattle.protocol.specs.Outgoing.{silent}
use Rattle.protocol.proofs.Tests.{true_false, none_some, some_some, cases}
use Rattle.packed.specs.Arrays.{unpack, bytes_or_zeros}
use Rattle.packed.specs.Outgoing.{failure_number, failure_of, OutgoingSized}
use Rattle.packed.specs.Table.{TransactionSized, AllSized, TableSized}

-- ## What is handed in: 16 or 32 bytes, whatever the host lends

pub sixteen_in : (s : List ℕ) → length (bytes_or_zeros 16 s) ≡ 16
unfolding unpack
sixteen_in s = cases (λ u. length (unwrap_or u (zeros 16)) ≡ 16) (eqb (length s) 16) _ _ (λ e. eqb-true _ _ e) (λ _. refl)

pub thirty_two_in : (s : List ℕ) → length (bytes_or_zeros 32 s) ≡ 32
unfolding unpack
thirty_two_in s = cases (λ u. length (unwrap_or u (zeros 32)) ≡ 32) (eqb (length s) 32) _ _ (λ e. eqb-true _ _ e) (λ _. refl)

-- ## The bits: none is 255

abbrev small : FailureInfo → Bool
small None = true
small (Some b) = ltb b 255

abbrev all_small : List NumberBit → Bool
all_small [] = true
all_small (b ∷ bs) = small b.bit && all_small bs

small-back : (f : FailureInfo) → small f ≡ true → failure_of (failure_number f) ≡ f
small-back None e = refl
small-back (Some b) e = let h : b < 255 = ltb-true _ _ e in rw (ne_eqb b 255 (λ q. omega arith))

in_back : (n : ℕ) (bs : List NumberBit) → all_small bs ≡ true → failure_of (failure_number (bit_in n bs)) ≡ bit_in n bs
in_back n [] e = refl
in_back n (b ∷ bs) e =
    cases (λ f. failure_of (failure_number f) ≡ f) (eqb n b.number) b.bit (bit_in n bs) (λ _. small-back b.bit (and_left (small b.bit) (all_small bs) e)) (λ _. in_back n bs (and_right (small b.bit) (all_small bs) e))

all_small_lem : (c : Bool) → all_small (bits c) ≡ true
all_small_lem true = refl
all_small_lem false = refl

pub bit-back : (n : ℕ) (c : Bool) → failure_of (failure_number (bit_of n c)) ≡ bit_of n c
unfolding bit_of
bit-back n c = in_back n (bits c) (all_small_lem c)

pub silent_sized : OutgoingSized silent
unfolding silent
silent_sized = record { id = refl; sender = refl; recip = refl; hash = refl; failure = refl }

-- ## A message: past rows 3 to 5 its id and its senderNonce have 16 bytes

abbrev pub Late : LowestRow → Type 0
Late pass = Unit {0}
Late (stop k) = leb 6 k ≡ true

pub late : (a b c : Bool) (rest : List Row) → Late (lowest_row (row 3 a ∷ row 4 b ∷ row 5 c ∷ rest)) → (b ≡ false) × (c ≡ false)
unfolding lowest_row
late true b c rest h = true_false (sym h)
late false true c rest h = true_false (sym h)
late false false true rest h = true_false (sym h)
late false false false rest h = (refl, refl)

pub sixteen : (o : Option (List ℕ)) → not_sixteen o ≡ false → length (bytes_of o) ≡ 16
sixteen none e = true_false e
sixteen (some b) e = eqb-true _ _ (not-false _ e)

-- ## Rows of the table

pub lookup_sized : (rs : List Transaction) (i : TransactionId) → AllSized rs → (r : Transaction) → lookup rs i ≡ some r → TransactionSized r
unfolding lookup
lookup_sized [] i z r e = none_some e
lookup_sized (x ∷ rs) i z r e =
    cases (λ (o : Option Transaction). o ≡ some r → TransactionSized r) (is_for i x) (some x) (lookup rs i) (λ _ q. subst TransactionSized (some_some q) z.0) (λ _ q. lookup_sized rs i z.1 r q) e

-- slots are below their number, or it
pub slot_bound : (rs : List Transaction) (i : TransactionId) → slot_of rs i ≤ length rs
unfolding slot_of
slot_bound [] i = omega arith
slot_bound (x ∷ rs) i = let h : slot_of rs i ≤ length rs = slot_bound rs i in cases (λ (n : ℕ). n ≤ suc (length rs)) (is_for i x) 0 (suc (slot_of rs i)) (λ _. omega arith) (λ _. omega arith)

pub free_bound : (rs : List Transaction) → free_slot rs ≤ length rs
unfolding free_slot
free_bound [] = omega arith
free_bound (x ∷ rs) = let h : free_slot rs ≤ length rs = free_bound rs in cases (λ (n : ℕ). n ≤ suc (length rs)) (is_free x.state) 0 (suc (free_slot rs)) (λ _. omega arith) (λ _. omega arith)

-- as many as there were, and each sized
abbrev RowsLike : List Transaction → List Transaction → Type 0
RowsLike rs us = (length us ≡ length rs) × AllSized us

replace_like : (rs : List Transaction) (i : TransactionId) (x : Transaction) → AllSized rs → TransactionSized x → RowsLike rs (replace rs i x)
unfolding replace
replace_like [] i x z h = (refl, z)
replace_like (r ∷ rs) i x z h =
    cases (RowsLike (r ∷ rs)) (is_for i r) (x ∷ rs) (r ∷ replace rs i x) (λ _. (refl, (h, z.1)))
    (λ _. let q : RowsLike rs (replace rs i x) = replace_like rs i x z.1 h in (ap suc q.0, (z.0, q.1)))

put_like : (rs : List Transaction) (x : Transaction) → AllSized rs → TransactionSized x → RowsLike rs (put rs x)
unfolding put
put_like [] x z h = (refl, z)
put_like (r ∷ rs) x z h =
    cases (RowsLike (r ∷ rs)) (is_free r.state) (x ∷ rs) (r ∷ put rs x) (λ _. (refl, (h, z.1)))
    (λ _. let q : RowsLike rs (put rs x) = put_like rs x z.1 h in (ap suc q.0, (z.0, q.1)))

module _ (t : TransactionTable) (z : TableSized t) where
  pub replace_sized : (i : TransactionId) (x : Transaction) → TransactionSized x → TableSized (record { transactions = replace t.transactions i x })
  replace_sized i x h = let q : RowsLike t.transactions (replace t.transactions i x) = replace_like t.transactions i x z.each h in record { slots = q.0 ∙ z.slots; each = q.1 }

  pub put_sized : (x : Transaction) → TransactionSized x → TableSized (record { transactions = put t.transactions x })
  put_sized x h = let q : RowsLike t.transactions (put t.transactions x) = put_like t.transactions x z.each h in record { slots = q.0 ∙ z.slots; each = q.1 }

pub free_sized : TransactionSized free_transaction
free_sized = record { id = refl; taken = refl; sent = refl; hash = refl }

replicate_sized : (n : ℕ) (x : Transaction) → TransactionSized x → AllSized (replicate n x)
replicate_sized zero x z = tt
replicate_sized (suc n) x z = (z, replicate_sized n x z)

pub empty_sized : TableSized empty_table
unfolding empty_table
empty_sized = record { slots = length-replicate capacity free_transaction; each = replicate_sized capacity free_transaction free_sized }
