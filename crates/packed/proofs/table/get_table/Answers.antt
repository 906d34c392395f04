use Prim.Native.Nat.{ℕ, ◌*◌, ◌<◌, ◌≤◌}
use mathlib.Core.Bool.{true}
use mathlib.Core.List.{List}
use mathlib.Core.Path.{◌≡◌, refl, ◌∙◌}
use native.Mathlib.Omega.{arith}
use lib.Dec.{ltb}
use lib.ListN.{length, drop, get_or}
use lib.Seq.{take_all}
use Rattle.std.specs.Prelude.{Some}
use Rattle.std.proofs.lemmas.List.{take_rest}
use Rattle.protocol.specs.Table.{capacity, free_transaction}
use Rattle.packed.specs.Places.{transaction_state_at}
use Rattle.packed.specs.Table.{transaction_bytes, transaction_of, rows_of}
use Rattle.packed.proofs.Tests.{no_answer, answered}
use Rattle.packed.proofs.Copies.{fill_more, fill_all}
use Rattle.packed.proofs.Rows.{length_rows, row_at, empty-length, check_no, check-more, check_all}
use Rattle.packed.proofs.table.get_table.Goals as goal

pub loop-i-init : goal.loop-i-init
loop-i-init c =
    (record { below = omega arith; is = refl }, record { below = omega arith; same = refl })

pub returns-in_err-table : goal.returns-in_err-table
returns-in_err-table c =
    let bad = no_answer _ _ (rw (take_rest c.args.bytes.now (c.loop-i.i * transaction_bytes)) at c.in_err-table.ensures) in
    rw (check_no c.loop-i.invariant.1 c.loop-i-test.true bad) c.from_residual.ensures

pub loop-i-preserved : goal.loop-i-preserved
loop-i-preserved c =
    let s : List ℕ = c.args.bytes.now in
    let i : ℕ = c.loop-i.i in
    let h : i < capacity = c.loop-i-test.true in
    let row : List ℕ = drop (i * transaction_bytes) s in
    let good = ltb (get_or row transaction_state_at 0) 7 in
    let n : capacity ≤ length (rows_of capacity s) = omega (arith, length_rows capacity s) in
    let read : (good ≡ true) × (transaction_of row ≡ c.in_ok-table.field-0) = answered good (rw (take_rest s (i * transaction_bytes)) at c.in_ok-table.ensures) in (
      fill_more c.loop-i.invariant.0 (empty-length _ c.empty-table.ensures) n h _ free_transaction (row_at capacity i s free_transaction h ∙ read.1),
      check-more c.loop-i.invariant.1 h read.0,
    )

pub returns : goal.returns
returns c =
    let s : List ℕ = c.args.bytes.now in
    let n : length (rows_of capacity s) ≤ capacity = omega (arith, length_rows capacity s) in
    let rows : c.loop-i.table.transactions ≡ rows_of capacity s = fill_all c.loop-i.invariant.0 (empty-length _ c.empty-table.ensures) c.loop-i-test.false ∙ take_all capacity (rows_of capacity s) n in
    rw (check_all c.loop-i.invariant.1 c.loop-i-test.false) (λ i. Some (record { transactions = rows i }))
