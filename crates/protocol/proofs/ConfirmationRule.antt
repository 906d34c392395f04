-- Demand 2, the other way: a confirmation that matches is refused by no row, and moves its transaction.
use Rattle.std.specs.Prelude.{Some, None}
use Prim.Native.Nat.{ℕ}
use mathlib.Core.List.{List}
use mathlib.Core.Bool.{Bool, true, false, not, ◌&&◌, ◌||◌}
use mathlib.Core.Option.{Option, some}
use mathlib.Core.Path.{◌≡◌, refl, sym, ◌∙◌, ap, subst}
use mathlib.Core.Logic.{inl, inr}
use lib.Dec.{eqb}
use Rattle.grammar.specs.declared.Message.{Message}
use Rattle.protocol.specs.Types.{GivenStatus}
use Rattle.protocol.specs.declared.Nonce.{Nonce}
use Rattle.protocol.specs.declared.RegistrarInput.{RegistrarInput}
use Rattle.protocol.specs.declared.TransactionState.{TransactionState}
use Rattle.protocol.specs.declared.Transaction.{Transaction}
use Rattle.protocol.specs.declared.TransactionTable.{TransactionTable}
use Rattle.protocol.specs.declared.Outgoing.{Outgoing}
use Rattle.protocol.specs.declared.Outcome.{Outcome}
use Rattle.protocol.specs.declared.RegistrarAnswer.{RegistrarAnswer}
use Rattle.protocol.specs.declared.Outcome.TheVariants as outcome
use Rattle.protocol.specs.Bytes.{as_id, as_nonce, present, is_nonce, same_bytes, same_hash, same_nonce}
use Rattle.protocol.specs.Message.{fields_of, Fields, is_opening_kind, is_present, status_or0, optional_status}
use Rattle.protocol.specs.Table.{has_free_slot, lookup, slot_of, replace}
use Rattle.protocol.specs.States.{has_sent, is_hashed, has_hash, is_granted, settled_state, settled_by}
use Rattle.protocol.specs.Refusals.{pass, lowest_row, no_fault}
use Rattle.protocol.specs.RegistrarRows.{repeats, confirms, opens, one_entry, is_good, other_kind, confirms_for_another, names, confirms_other_nonce, not_one_entry, has_entries, other_request, hash_alg_too_early, other_status, other_hash, not_taken, registrar_rows}
use Rattle.protocol.specs.Registrar.{registrar_message, confirmed, done_sending}
use Rattle.protocol.specs.MessageRules.{IsRefused}
use Rattle.protocol.specs.Confirmation.{Matches, LeadsTo, Moving, MovedAnswer, Repeating, RepeatedAnswer, acknowledgement, ConfirmationRule}
use Rattle.protocol.proofs.Tests.{same_number_lem, holds_not, either, both, or_true, off_right, same_bytes_refl, off_left, true_false, is_number}
use Rattle.protocol.proofs.Carried.{part_there}
use Rattle.protocol.proofs.Rows.{check-is, skip, through}
use Rattle.protocol.proofs.RegistrarPromises.{message-promise}
use Rattle.protocol.proofs.Slots.{first-at, sending_becomes}
use Rattle.protocol.proofs.RegistrarPasses.{confirms_it}
use Rattle.protocol.proofs.HeadRows.{passes_head}
use Rattle.protocol.proofs.ConfirmationMoves.{present-part, message-at, fields_at, Ends, EndsWith, ends}

module _ (t : TransactionTable) (d : RegistrarInput) (bytes : List ℕ) (m : Message) (r : Transaction) (c : Matches t d bytes m r) where
  id-is : as_id (fields_of bytes m).id ≡ c.id
  unfolding fields_of
  id-is = ap as_id (part_there bytes m.header.transaction_id c.id.bytes (c.has_id.0, c.has_id.1))

  nonce-is : as_nonce (fields_of bytes m).sender_nonce ≡ c.nonce
  unfolding fields_of
  nonce-is = ap as_nonce (part_there bytes m.header.sender_nonce c.nonce.bytes (c.sender_nonce.0, c.sender_nonce.1))

module _ (t : TransactionTable) (d : RegistrarInput) (bytes : List ℕ) (m : Message) (r : Transaction) (c : Matches t d bytes m r) (sent_it : has_sent r.state ≡ true) (hash_set : has_hash r ≡ true) (takes : (is_granted r.state || repeats r (fields_of bytes m)) ≡ true) where
  abbrev f : Fields
  f = fields_of bytes m

  -- ## No row applies

  conf : confirms f ≡ true
  unfolding fields_of
  conf = ap (λ (k : ℕ). eqb k 24) c.kind

  no_request : opens f ≡ false
  unfolding fields_of
  no_request = ap is_opening_kind c.kind

  one_entry_lem : one_entry f ≡ true
  unfolding fields_of
  one_entry_lem = same_number_lem f.entries 1 c.entries

  good_it : is_good d.verdict ≡ true
  good_it = rw c.good

  row_8 : other_kind f ≡ false
  row_8 = holds_not (opens f || confirms f) (or_true (opens f) (confirms f) conf)

  row_13 : confirms_for_another d.verdict r f ≡ false
  row_13 = off_right (confirms f) (not (names d.verdict r.board)) (holds_not (names d.verdict r.board) (rw c.good (same_number_lem r.board.0 r.board.0 refl)))

  recip_it : is_nonce f.recip_nonce r.sent ≡ true
  unfolding fields_of
  recip_it = ap (λ (x : Option (List ℕ)). is_nonce x r.sent) (part_there bytes m.header.recip_nonce r.sent.bytes (c.recip_present, c.recip_nonce)) ∙ same_bytes_refl r.sent.bytes

  row_14 : confirms_other_nonce r f ≡ false
  row_14 = off_right (confirms f) _ (holds_not (has_sent r.state && is_nonce f.recip_nonce r.sent) (both (has_sent r.state) (is_nonce f.recip_nonce r.sent) sent_it recip_it))

  row_15 : not_one_entry f ≡ false
  row_15 = off_right (has_entries f) (not (one_entry f)) (holds_not (one_entry f) one_entry_lem)

  row_16 : other_request r f ≡ false
  unfolding fields_of
  row_16 = off_right (has_entries f && one_entry f) _ (holds_not _ (same_number_lem f.request _ (is_number r.kind f.request c.request ∙ rw conf)))

  alg_off : (b : Bool) → is_present m.body.entry.hash_alg ≡ b → (confirms f && one_entry f && b && eqb m.header.version 2) ≡ false
  alg_off true e = off_right (confirms f && one_entry f && true) (eqb m.header.version 2) (ap (λ (k : ℕ). eqb k 2) (c.hash_alg (present-part m.body.entry.hash_alg e)))
  alg_off false e = off_left (confirms f && one_entry f && false) (eqb m.header.version 2) (off_right (confirms f && one_entry f) false refl)

  row_17 : hash_alg_too_early f ≡ false
  unfolding fields_of
  row_17 = alg_off (is_present m.body.entry.hash_alg) refl

  status_in : (o : GivenStatus) → m.body.entry.status ≡ o → (eqb (status_or0 (optional_status o)) 0 || eqb (status_or0 (optional_status o)) 2) ≡ true
  status_in (Some v) e = either v 0 2 (c.status v e)
  status_in None e = refl

  row_18 : other_status f ≡ false
  unfolding fields_of
  row_18 = off_right (confirms f && one_entry f) _ (holds_not _ (status_in m.body.entry.status refl))

  same-hash : same_hash f.hash r.hash ≡ true
  unfolding fields_of
  same-hash = ap (λ (x : List ℕ). same_bytes x r.hash.bytes) c.hash ∙ same_bytes_refl r.hash.bytes

  row_19 : other_hash r f ≡ false
  row_19 = off_right (confirms f && one_entry f) _ (holds_not (has_hash r && same_hash f.hash r.hash) (both (has_hash r) (same_hash f.hash r.hash) hash_set same-hash))

  row_20 : not_taken r f ≡ false
  row_20 = off_right (confirms f) _ (holds_not (is_granted r.state || repeats r f) takes)

  passes_all : lowest_row (registrar_rows t.transactions (some r) d.verdict f) ≡ pass
  unfolding registrar_rows
  passes_all =
      check-is (passes_head bytes m c.version c.has_id c.sender_nonce c.protection c.algorithm good_it (skip row_8
      (skip (off_left (opens f) (present f.recip_nonce) no_request) (skip (off_left (opens f) true no_request) (skip (off_left (opens f) (not (has_free_slot t.transactions)) no_request)
      (skip (off_right (confirms f) false refl) (skip row_13 (skip row_14 (skip row_15 (skip row_16 (skip row_17 (skip row_18 (skip row_19 (skip row_20 through))))))))))))))

  pub passed : registrar_message t d bytes ≡ confirmed t r d.nonce f
  passed = message-at t d bytes m c.reads ∙ fields_at t d bytes m (some r) (ap (lookup t.transactions) (id-is t d bytes m r c) ∙ c.holds) pass passes_all ∙ confirms_it t d f r no_request conf

-- ## The answers

module _ (t : TransactionTable) (d : RegistrarInput) (bytes : List ℕ) (m : Message) (r : Transaction) where
  state_by : (s : TransactionState) → LeadsTo m s → settled_state (status_or0 (optional_status m.body.entry.status)) ≡ s
  state_by s (inl (e, inl q)) = rw (q, e)
  state_by s (inl (e, inr q)) = rw (q, e)
  state_by s (inr g) = rw (g.1, g.0)

  state-is : (s : TransactionState) → LeadsTo m s → settled_state (status_or0 (fields_of bytes m).status) ≡ s
  unfolding fields_of
  state-is s q = state_by s q

  pub moved : (c : Moving t d bytes m r) (s : TransactionState) → LeadsTo m s → MovedAnswer t d r c.match.id c.match.nonce s (registrar_message t d bytes)
  moved c s q =
      let g : is_granted r.state ≡ true = rw c.granted in
      let x : Transaction = record { id = r.id; board = r.board; kind = r.kind; taken = c.match.nonce; sent = r.sent; hash = r.hash; state = s } in
      let o : Outgoing = acknowledgement d c.match.id c.match.nonce in
      let e : registrar_message t d bytes ≡ done_sending (slot_of t.transactions c.match.id) (replace t.transactions c.match.id x) o =
      passed t d bytes m r c.match (rw c.granted) (rw c.granted) (ap (λ (b : Bool). b || repeats r (fields_of bytes m)) g)
      ∙ rw (g, id-is t d bytes m r c.match, nonce-is t d bytes m r c.match, state-is s q) in
      subst (MovedAnswer t d r c.match.id c.match.nonce s) (sym e) (sending_becomes t c.match.id r x c.match.holds o, refl)

  -- what the state of a repeated confirmation says
  leads_sent : (s : TransactionState) → LeadsTo m s → (has_sent s ≡ true) × (is_hashed s ≡ true) × (is_granted s ≡ false)
  leads_sent s (inl g) = (rw g.0, rw g.0, rw g.0)
  leads_sent s (inr g) = (rw g.0, rw g.0, rw g.0)

  leads_settled : (s : TransactionState) → LeadsTo m s → settled_by s (status_or0 (optional_status m.body.entry.status)) ≡ true
  leads_settled s (inl (e, inl q)) = rw (e, q)
  leads_settled s (inl (e, inr q)) = rw (e, q)
  leads_settled s (inr g) = rw (g.0, g.1)

  repeats_it : (c : Repeating t d bytes m r) → repeats r (fields_of bytes m) ≡ true
  unfolding fields_of
  repeats_it c =
      both (settled_by r.state (status_or0 (fields_of bytes m).status)) (is_nonce (fields_of bytes m).sender_nonce r.taken) (leads_settled r.state c.state)
      (ap (λ (x : Option (List ℕ)). is_nonce x r.taken) (part_there bytes m.header.sender_nonce c.match.nonce.bytes (c.match.sender_nonce.0, c.match.sender_nonce.1))
      ∙ ap (λ (n : Nonce). same_nonce n r.taken) c.nonce
      ∙ same_bytes_refl r.taken.bytes)

  pub repeated : (c : Repeating t d bytes m r) → RepeatedAnswer t d r c.match.id c.match.nonce (registrar_message t d bytes)
  repeated c =
      let l : (has_sent r.state ≡ true) × (is_hashed r.state ≡ true) × (is_granted r.state ≡ false) = leads_sent r.state c.state in
      let a : RegistrarAnswer =
      record { outcome = outcome.Again; fault = no_fault; slot = record { 0 = slot_of t.transactions c.match.id }; outgoing = Some (acknowledgement d c.match.id c.match.nonce); table = t } in
      let e : registrar_message t d bytes ≡ a =
      passed t d bytes m r c.match l.0 l.1 (or_true (is_granted r.state) (repeats r (fields_of bytes m)) (repeats_it c))
      ∙ rw (l.2, id-is t d bytes m r c.match, nonce-is t d bytes m r c.match) in
      subst (RepeatedAnswer t d r c.match.id c.match.nonce) (sym e) (record { again = refl; fault = refl; held = first-at t c.match.id r c.match.holds; sends = refl; table = refl })

-- ## The rule

-- what neither moves nor repeats is refused, and the table stays
neither-at :
    (t : TransactionTable) (d : RegistrarInput) (bytes : List ℕ) (m : Message) → ((r : Transaction) → Moving t d bytes m r → ⊥) →
    ((r : Transaction) → Repeating t d bytes m r → ⊥) → (o : Outcome) → (registrar_message t d bytes).outcome ≡ o → EndsWith t d bytes m o →
    IsRefused (registrar_message t d bytes).outcome × ((registrar_message t d bytes).table ≡ t)
unfolding EndsWith Ends
neither-at t d bytes m n k outcome.Done e g = absurd (n g.0 g.1)
neither-at t d bytes m n k outcome.Again e g = absurd (k g.0 g.1)
neither-at t d bytes m n k (outcome.Refused j b) e g = ((j, b, e), (message-promise t d bytes).unchanged j b e)

stays_at : (t : TransactionTable) (d : RegistrarInput) (bytes : List ℕ) (o : Outcome) → (registrar_message t d bytes).outcome ≡ o → ((registrar_message t d bytes).outcome ≡ outcome.Done → ⊥) → (registrar_message t d bytes).table ≡ t
stays_at t d bytes outcome.Done e n = absurd (n e)
stays_at t d bytes outcome.Again e n = (message-promise t d bytes).again e
stays_at t d bytes (outcome.Refused k b) e n = (message-promise t d bytes).unchanged k b e

pub confirmation_rule : (t : TransactionTable) (d : RegistrarInput) (bytes : List ℕ) (m : Message) → ConfirmationRule t d bytes m
unfolding EndsWith Ends
confirmation_rule t d bytes m =
    record {
      moves = λ v. subst (EndsWith t d bytes m) v.ends (ends t d bytes m v.reads v.kind);
      moved = λ r c. moved t d bytes m r c;
      repeats = λ v. subst (EndsWith t d bytes m) v.ends (ends t d bytes m v.reads v.kind);
      repeated = λ r c. repeated t d bytes m r c;
      else = λ reads kind n k. neither-at t d bytes m n k (registrar_message t d bytes).outcome refl (ends t d bytes m reads kind);
      stays = stays_at t d bytes (registrar_message t d bytes).outcome refl;
    }
