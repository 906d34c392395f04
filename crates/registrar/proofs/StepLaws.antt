-- A message's step by the slot and the copies that the code makes.
use Rattle.std.specs.Prelude.{Ok, Err, Some, None}
use Rattle.std.specs.Prelude as code
use Prim.Native.Nat.{ℕ, ◌<◌, ◌≤◌}
use mathlib.Core.List.{List}
use mathlib.Core.Bool.{Bool, true, false}
use mathlib.Core.Option.{Option, none, some, get_or}
use mathlib.Core.Path.{◌≡◌, refl, sym, ◌∙◌}
use mathlib.Core.Logic.{inl, inr}
use native.Mathlib.Omega.{arith}
use borrow.Author.Tests.{leb-true, ne_eqb}
use lib.ListN.{length}
use lib.Dec.{leb}
use Rattle.grammar.specs.declared.Message.{Message}
use Rattle.message.specs.Read.{reading_of}
use Rattle.message.specs.declared.ReadFault.{ReadFault}
use Rattle.message.specs.Types.{Reading}
use Rattle.protocol.specs.declared.TransactionId.{TransactionId}
use Rattle.protocol.specs.declared.Nonce.{Nonce}
use Rattle.protocol.specs.declared.Slot.{Slot}
use Rattle.protocol.specs.declared.Transaction.{Transaction}
use Rattle.protocol.specs.declared.TransactionTable.{TransactionTable}
use Rattle.protocol.specs.declared.RegistrarInput.{RegistrarInput}
use Rattle.protocol.specs.declared.RegistrarAnswer.{RegistrarAnswer}
use Rattle.protocol.specs.Bytes.{as_id, as_nonce}
use Rattle.grammar.specs.Span.{part_of}
use Rattle.protocol.specs.Message.{Fields, fields_of, status_or0}
use Rattle.protocol.specs.Table.{capacity, lookup, slot_of, has_free_slot, free_slot, put, free_transaction}
use Rattle.protocol.specs.States.{is_confirmed, settled_state}
use Rattle.protocol.specs.Refusals.{pass, stop, lowest_row, head_rows, bit_of, not_sixteen}
use Rattle.protocol.specs.RegistrarRows.{is_good, later_rows, registrar_rows}
use Rattle.protocol.specs.Registrar.{done_quietly, settled, confirmed_at, refused_message, confirmed_found, refused_reading, registrar_checked, registrar_fields, registrar_read, registrar_message}
use Rattle.protocol.proofs.Tests.{passes}
use Rattle.protocol.specs.Promises.{Applies}
use Rattle.protocol.proofs.Rows.{least, stops}
use Rattle.parts.specs.Parts.{sixteen_of}
use Rattle.incoming.specs.Incoming.{number_of, fault_of}
use Rattle.parts.proofs.Laws.{copy_is}
use Rattle.incoming.proofs.RowLaws.{check_append, or_else, stops_at, passes_all}
use Rattle.registrar.specs.Steps.{with_at, found_in, found_by, place_in, refusal_answer, confirmation_of, taken_at, Copied}
use Rattle.registrar.proofs.RowLaws.{found_is}
use Rattle.registrar.proofs.SlotLaws.{free-set, full, slot-set}

-- ## A request that is taken

module _ (t : TransactionTable) (x : Transaction) {o : code.Option Slot} (e : o ≡ place_in (has_free_slot t.transactions) (free_slot t.transactions)) where
  abbrev Opened : RegistrarAnswer
  Opened = done_quietly (free_slot t.transactions) (put t.transactions x)

  none-free : (b : Bool) (p : ℕ) → None ≡ place_in b p → b ≡ false
  none-free true p q = cc
  none-free false p q = refl

  the-slot : (b : Bool) (p : ℕ) (s : Slot) → Some s ≡ place_in b p → s.0 ≡ p
  the-slot true p s q = cc
  the-slot false p s q = cc

  pub open-full : length t.transactions ≡ capacity → o ≡ None → done_quietly capacity t.transactions ≡ Opened
  open-full n q = let z = full t.transactions x (none-free (has_free_slot t.transactions) (free_slot t.transactions) (sym q ∙ e)) in rw (z.0, z.1, n)

  pub open_is : {s : Slot} {u : TransactionTable} → o ≡ Some s → u ≡ with_at t s.0 x → done_quietly s.0 u.transactions ≡ Opened
  open_is {s} q w = rw (w, the-slot (has_free_slot t.transactions) (free_slot t.transactions) s (sym q ∙ e), free-set t.transactions x)

-- ## After the first five rows

confirmed-is : (f : Option Transaction) → confirmed_at f ≡ is_confirmed (get_or f free_transaction).state
confirmed-is none = refl
confirmed-is (some r) = refl

module _ (t : TransactionTable) (d : RegistrarInput) {bytes : List ℕ} {msg : Message} {i : TransactionId} {a : Nonce} (copied : Copied bytes msg i a) where
  abbrev m : Fields
  m = fields_of bytes msg

  abbrev ts : List Transaction
  ts = t.transactions

  abbrev f : Option Transaction
  f = lookup ts i

  abbrev later : RegistrarAnswer
  later = registrar_checked (lowest_row (later_rows ts f d.verdict (get_or f free_transaction) m)) f t d m

  module _ {o : code.Option (Slot × Transaction)} (eo : o ≡ found_in f (slot_of ts i)) where
    found : found_by o ≡ f
    found = rw eo (found_is f (slot_of ts i))

    module _ {n : code.Option ℕ} (en : n ≡ number_of (lowest_row (later_rows ts (found_by o) d.verdict (get_or (found_by o) free_transaction) m))) where
      later_number : n ≡ number_of (lowest_row (later_rows ts f d.verdict (get_or f free_transaction) m))
      later_number = rw found at en

      pub later_refused : {k : ℕ} {c : Bool} → c ≡ is_confirmed (get_or (found_by o) free_transaction).state → n ≡ Some k → refusal_answer k c t d.nonce i a ≡ later
      unfolding registrar_checked
      later_refused {k} ec z =
          rw (
            ec,
            found,
            stops_at (lowest_row (later_rows ts f d.verdict (get_or f free_transaction) m)) k (sym z ∙ later_number),
            confirmed-is f,
            ← copied.id,
            ← copied.nonce,
          )

      confirmed_by : (g : Option Transaction) → confirmation_of (found_in g (slot_of ts i)) t d.nonce i a (status_or0 m.status) ≡ confirmed_found g t d.nonce m
      confirmed_by none = refl
      confirmed_by (some r) =
          rw (
            ← copied.id,
            ← copied.nonce,
            slot-set ts i (settled r (settled_state (status_or0 m.status)) a),
          )

      pub later_taken : {s : ℕ} → s ≡ status_or0 m.status → n ≡ None → taken_at t o m.kind s d i a ≡ later
      unfolding registrar_checked
      later_taken es z =
          rw (
            es,
            passes_all (lowest_row (later_rows ts f d.verdict (get_or f free_transaction) m)) (sym z ∙ later_number),
            eo,
            confirmed_by f,
            ← copied.id,
            ← copied.nonce,
          )

-- ## The first five rows

-- only row 20's bit goes by the state
bit-plain : (n : ℕ) (c : Bool) → n < 20 → bit_of n false ≡ bit_of n c
unfolding bit_of
bit-plain n c h = rw (ne_eqb n 20 (λ z. omega arith))

module _ (g : Bool) (m : Fields) where
  head_below : (n : ℕ) → lowest_row (head_rows g m) ≡ stop n → n < 20
  head_below n e = by (stops (head_rows g m) n e)
    where
      by : Applies n (head_rows g m) → n < 20
      by (inl (q, z)) = omega arith
      by (inr (inl (q, z))) = omega arith
      by (inr (inr (inl (q, z)))) = omega arith
      by (inr (inr (inr (inl (q, z))))) = omega arith
      by (inr (inr (inr (inr (inl (q, z)))))) = omega arith
      by (inr (inr (inr (inr (inr z))))) = absurd z

  -- from 6 up the id and the senderNonce are there with sixteen bytes
  has-id : (n : ℕ) → lowest_row (head_rows g m) ≡ stop n → 6 ≤ n → not_sixteen m.id ≡ false
  has-id n e h = by (not_sixteen m.id) refl
    where
      by : (b : Bool) → not_sixteen m.id ≡ b → b ≡ false
      by true z = let q : n ≤ 4 = least (head_rows g m) n refl e 4 (inr (inl (refl, z))) in absurd (omega arith)
      by false z = refl

  has-nonce : (n : ℕ) → lowest_row (head_rows g m) ≡ stop n → 6 ≤ n → not_sixteen m.sender_nonce ≡ false
  has-nonce n e h = by (not_sixteen m.sender_nonce) refl
    where
      by : (b : Bool) → not_sixteen m.sender_nonce ≡ b → b ≡ false
      by true z = let q : n ≤ 5 = least (head_rows g m) n refl e 5 (inr (inr (inl (refl, z)))) in absurd (omega arith)
      by false z = refl

module _
    (t : TransactionTable) (d : RegistrarInput) (bytes : List ℕ) (m : Message)
    (i : TransactionId) (ei : i.bytes ≡ sixteen_of (part_of bytes m.header.transaction_id))
    (a : Nonce) (ea : a.bytes ≡ sixteen_of (part_of bytes m.header.sender_nonce)) where
  abbrev F : Fields
  F = fields_of bytes m

  abbrev good : Bool
  good = is_good d.verdict

  abbrev named : Option Transaction
  named = lookup t.transactions (as_id (fields_of bytes m).id)

  copied_id : not_sixteen (fields_of bytes m).id ≡ false → i ≡ as_id (fields_of bytes m).id
  unfolding fields_of
  copied_id z = let q : i.bytes ≡ _ = ei ∙ copy_is bytes m.header.transaction_id z in λ j. record { bytes = q j }

  copied_nonce : not_sixteen (fields_of bytes m).sender_nonce ≡ false → a ≡ as_nonce (fields_of bytes m).sender_nonce
  unfolding fields_of
  copied_nonce z = let q : a.bytes ≡ _ = ea ∙ copy_is bytes m.header.sender_nonce z in λ j. record { bytes = q j }

  all_rows : lowest_row (registrar_rows t.transactions named d.verdict F) ≡ or_else (lowest_row (head_rows good F)) (lowest_row (later_rows t.transactions named d.verdict (get_or named free_transaction) F))
  unfolding registrar_rows
  all_rows = check_append (head_rows good F) (later_rows t.transactions named d.verdict (get_or named free_transaction) F)

  same-refusal : (n : ℕ) → lowest_row (head_rows good F) ≡ stop n → (b : Bool) → leb 6 n ≡ b → refusal_answer n false t d.nonce i a ≡ refused_message n named t d.nonce F
  same-refusal n e true z =
      let h : 6 ≤ n = leb-true 6 n z in
      rw (bit-plain n (confirmed_at named) (head_below good F n e), ← copied_id (has-id good F n e h), ← copied_nonce (has-nonce good F n e h))
  same-refusal n e false z = rw (z, bit-plain n (confirmed_at named) (head_below good F n e))

  -- the first five rows as the code asks them, with its own answer on the verdict
  module _ {g : Bool} (eg : g ≡ is_good d.verdict) {n : code.Option ℕ} (en : n ≡ number_of (lowest_row (head_rows g (fields_of bytes m)))) where
    number_is : n ≡ number_of (lowest_row (head_rows good F))
    number_is = rw eg at en

    pub head-refused : {k : ℕ} → n ≡ Some k → refusal_answer k false t d.nonce i a ≡ registrar_fields t d (fields_of bytes m)
    unfolding registrar_fields registrar_checked
    head-refused {k} z =
        let e : lowest_row (head_rows good F) ≡ stop k = stops_at (lowest_row (head_rows good F)) k (sym z ∙ number_is) in
        same-refusal k e (leb 6 k) refl ∙ rw (all_rows, e)

    head-pass : n ≡ None → lowest_row (head_rows good F) ≡ pass
    head-pass z = passes_all (lowest_row (head_rows good F)) (sym z ∙ number_is)

    pub head_copied : n ≡ None → Copied bytes m i a
    head_copied z = record { id = copied_id (passes 4 (head_rows good F) (head-pass z)); nonce = copied_nonce (passes 5 (head_rows good F) (head-pass z)) }

    abbrev fs : Option Transaction
    fs = lookup t.transactions i

    pub head_passed : n ≡ None → registrar_checked (lowest_row (later_rows t.transactions fs d.verdict (get_or fs free_transaction) F)) fs t d F ≡ registrar_fields t d F
    unfolding registrar_fields
    head_passed z = rw (all_rows, head-pass z, (head_copied z).id)

-- ## The reading taken apart

module _ (t : TransactionTable) (d : RegistrarInput) (bytes : List ℕ) {x : Reading} (e : x ≡ reading_of bytes) where
  pub unread : {f g : ReadFault} → x ≡ Err f → g ≡ fault_of x → refused_reading g t ≡ registrar_message t d bytes
  unfolding registrar_message registrar_read
  unread q r = rw (r, ← e, q)

  pub clean : {m : Message} → x ≡ Ok m → registrar_fields t d (fields_of bytes m) ≡ registrar_message t d bytes
  unfolding registrar_message registrar_read
  clean q = rw (← e, q)
