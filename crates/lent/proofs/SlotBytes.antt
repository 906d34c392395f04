-- A registrar's call changes no slot's bytes but those of the slot in its answer.
use Rattle.std.specs.Prelude.{is_some}
use Prim.Native.Nat.{ℕ, zero, suc, ◌+◌, ◌*◌}
use mathlib.Core.List.{List, [], ◌∷◌, ◌++◌}
use mathlib.Core.Bool.{Bool, true}
use mathlib.Core.Option.{Option, none, some}
use mathlib.Core.Path.{◌≡◌, sym, ◌∙◌, ap, subst}
use mathlib.Core.Logic.{◌≢◌}
use native.Mathlib.Omega.{arith}
use lib.ListN.{length, take, get_elem?}
use lib.Seq.{drop-nil, take_at}
use lib.Dec.{leb}
use Rattle.protocol.specs.declared.Transaction.{Transaction}
use Rattle.protocol.specs.declared.TransactionTable.{TransactionTable}
use Rattle.protocol.specs.declared.RegistrarAnswer.{RegistrarAnswer}
use Rattle.protocol.specs.Promises.{RegistrarPromise}
use Rattle.protocol.specs.Run.{run}
use Rattle.packed.specs.Bytes.{part}
use Rattle.packed.specs.Answer.{registrar_answer_bytes, registrar_answer_of}
use Rattle.packed.specs.Table.{transaction_bytes, pack_transaction, pack_rows, pack_table, pack_table_in, unpack_table, table_held, AllSized, TableSized}
use Rattle.packed.proofs.Parts.{skip}
use Rattle.packed.proofs.TableInverse.{packed_length, pack_unpacked, table_sized}
use Rattle.packed.proofs.AnswerInverse.{registrar_back}
use Rattle.duskstall.specs.Boundary.{Crossing, registrar_written, registrar_answered, registrar_crossing}
use Rattle.lent.specs.Calls.{registrar_crosses, registrar_answers, registrar_refusals}
use Rattle.lent.specs.Lent.{LentWorld, is_made, lent_after, lent_beginning, made}
use Rattle.lent.specs.SlotBytes.{slot_bytes, answer_slot, OnlyItsSlot, LentSlots, LentSlotsAfter}
use Rattle.lent.proofs.RegistrarSizes.{RegistrarSized}
use Rattle.lent.proofs.Forms.{RegistrarForm, registrar_form}
use Rattle.lent.proofs.Stand.{held_table, Stands, made_of, table_in_lem, table_read, read_table}
use Rattle.lent.proofs.Theorem.{stands}

-- ## The slots of a packed table

abbrev row_bytes : Option Transaction → List ℕ
row_bytes none = []
row_bytes (some r) = pack_transaction r

slot_is : (ts : List Transaction) → AllSized ts → (p : ℕ) → slot_bytes p (pack_rows ts) ≡ row_bytes (get_elem? ts p)
unfolding pack_rows
slot_is [] z p = ap (take transaction_bytes) (drop-nil (p * transaction_bytes))
slot_is (t ∷ ts) z zero = take_at (pack_transaction t) (pack_rows ts) transaction_bytes (packed_length t z.0)
slot_is (t ∷ ts) z (suc p) =
    let e : suc p * transaction_bytes ≡ transaction_bytes + p * transaction_bytes = omega arith in
    ap (λ (k : ℕ). part k transaction_bytes (pack_transaction t ++ pack_rows ts)) e
    ∙ skip (pack_transaction t) (pack_rows ts) transaction_bytes (packed_length t z.0) (p * transaction_bytes) transaction_bytes
    ∙ slot_is ts z.1 p

-- ## A call that is made

slot_at : (a : RegistrarAnswer) (b s : List ℕ) → registrar_answer_of b s ≡ a → answer_slot b ≡ a.slot.0
unfolding registrar_answer_of
slot_at a b s e = ap (λ (x : RegistrarAnswer). x.slot.0) e

module _ (s b : List ℕ) (again : is_some (unpack_table s) ≡ true → pack_table (table_held s) ≡ s) where
  module _ (ns : List ℕ) (f : TransactionTable → RegistrarAnswer) (promise : (t : TransactionTable) → RegistrarPromise ns t (f t)) (sized : (t : TransactionTable) → TableSized t → RegistrarSized (f t)) where
    abbrev t : TransactionTable
    t = table_held s

    abbrev Only : Crossing → Type 0
    Only x = (p : ℕ) → p ≢ answer_slot x.answer → slot_bytes p x.state ≡ slot_bytes p s

    written : is_some (unpack_table s) ≡ true → leb registrar_answer_bytes (length b) ≡ true → Only (registrar_written (f t) s b)
    written o r p d =
        let z : RegistrarSized (f t) = sized t (table_sized s o) in
        let after : pack_table_in (f t).table s ≡ pack_table (f t).table = table_in_lem s (f t).table o in
        let slot : answer_slot (registrar_written (f t) s b).answer ≡ (f t).slot.0 =
        slot_at (f t) _ (pack_table_in (f t).table s) (registrar_back (f t) b z.outgoing r z.outcome z.slot _ (held_table _ (table_read (f t).table z.table after)))
        in
        ap (slot_bytes p) after
        ∙ slot_is (f t).table.transactions z.table.each p
        ∙ ap row_bytes ((promise t).others p (λ q. d (q ∙ sym slot)))
        ∙ sym (slot_is t.transactions (table_sized s o).each p)
        ∙ ap (slot_bytes p) (again o)

    only-slot : (p : Bool) → is_made (registrar_crossing p f s b).code ≡ true → Only (registrar_crossing p f s b)
    unfolding registrar_answered
    only-slot p = made_of Only (is_some (unpack_table s)) p (leb registrar_answer_bytes (length b)) s b (registrar_written (f t) s b) (λ o _ r. written o r)

-- ## Every call

only : (w : LentWorld) → (is_some (unpack_table w.table) ≡ true → pack_table (table_held w.table) ≡ w.table) → OnlyItsSlot w
only w again c b m =
    let f : RegistrarForm c = registrar_form c in
    let e : registrar_crosses c w.table b ≡ registrar_crossing f.args (registrar_answers c) w.table b = f.crosses w.table b in
    subst (λ (x : Crossing). (p : ℕ) → p ≢ answer_slot x.answer → slot_bytes p x.state ≡ slot_bytes p w.table) (sym e)
    (only-slot w.table b again (registrar_refusals c) (registrar_answers c) f.promise f.sized f.args (subst (λ (x : Crossing). is_made x.code ≡ true) e m))

pub lent_slots : LentSlots
lent_slots w all = only w (pack_unpacked w.table all)

pub lent_slots_after : LentSlotsAfter
lent_slots_after s e calls =
    let st : Stands (lent_after (lent_beginning s) calls) (run (made (lent_beginning s) calls)) = stands s e calls in
    only (lent_after (lent_beginning s) calls) (λ _. ap pack_table (held_table _ (read_table st)) ∙ sym st.table)
