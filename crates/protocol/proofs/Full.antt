-- After any list of calls the table has as many slots as at the beginning; refusal 11 is given to a request only where all of them are in
-- use, and there unless a lower row applies.
use Rattle.std.specs.Prelude.{Ok, Err, Some}
use Prim.Native.Nat.{ℕ, zero, suc, ◌<◌}
use mathlib.Core.List.{List, [], ◌∷◌}
use mathlib.Core.Bool.{Bool, true, false, not, ◌||◌}
use mathlib.Core.Option.{Option, none, some}
use mathlib.Core.Path.{◌≡◌, refl, sym, ◌∙◌, ap}
use native.Mathlib.Omega.{arith}
use lib.ListN.{length, get_elem?, length-replicate}
use Rattle.message.specs.Read.{reading_of}
use Rattle.message.specs.Types.{Reading}
use Rattle.grammar.specs.declared.Message.{Message}
use Rattle.protocol.specs.declared.Board.{Board}
use Rattle.protocol.specs.declared.TransactionId.{TransactionId}
use Rattle.protocol.specs.declared.FreshNonce.{FreshNonce}
use Rattle.protocol.specs.declared.Hash.{Hash}
use Rattle.protocol.specs.declared.RegistrarInput.{RegistrarInput}
use Rattle.protocol.specs.declared.Transaction.{Transaction}
use Rattle.protocol.specs.declared.TransactionTable.{TransactionTable}
use Rattle.protocol.specs.declared.Enrolment.{Enrolment}
use Rattle.protocol.specs.declared.RegistrarAnswer.{RegistrarAnswer}
use Rattle.protocol.specs.declared.EndEntityAnswer.{EndEntityAnswer}
use Rattle.protocol.specs.declared.Outcome.TheVariants as outcome
use Rattle.protocol.specs.declared.TransactionState.TheVariants.{Free}
use Rattle.protocol.specs.Bytes.{present, as_id}
use Rattle.protocol.specs.Message.{Fields, fields_of}
use Rattle.protocol.specs.Table.{capacity, free_transaction, empty_table, has_free_slot, lookup}
use Rattle.protocol.specs.States.{is_granted, may_issue, may_refuse, may_lapse, may_close}
use Rattle.protocol.specs.Refusals.{LowestRow, stop, pass, lowest_row, bit_of}
use Rattle.protocol.specs.RegistrarRows.{is_good, registrar_rows, opens, confirms, opens_with_nonce, opens_full}
use Rattle.protocol.specs.Registrar.{host_step, refused_quietly, confirmed_found, registrar_issue, registrar_refuse, registrar_lapse, registrar_close, registrar_checked, registrar_fields, registrar_read, registrar_message}
use Rattle.protocol.specs.EndEntity.{end_entity_start, end_entity_message, end_entity_time_out}
use Rattle.protocol.specs.Run.{World, Call, start_did, BoardEnrolment, enrolment_did, step, Start, unless_refused, Refuse, ToRegistrar, ToEndEntity, Issue, Lapse, Close, TimeOut, after, run, beginning}
use Rattle.protocol.specs.Request.{IsRequest, Opening}
use Rattle.protocol.specs.Full.{SlotsStay, Full, Means11, FullRefuses}
use Rattle.der.proofs.Auto.{and_left, and_right}
use Rattle.protocol.proofs.Tests.{cases, both, true_false, none_some, some_some, request-kind, off_right, holds_not}
use Rattle.protocol.proofs.EndEntityPromises.{is-request}
use Rattle.protocol.proofs.FreeSlots.{room-free, free-room}
use Rattle.protocol.proofs.Slots.{replace-length, put-length}
use Rattle.protocol.proofs.Carried.{part_there, part-absent}
use Rattle.protocol.proofs.Rows.{check-is, skip, halt}
use Rattle.protocol.proofs.HeadRows.{passes_head}
use Rattle.protocol.proofs.ConfirmationMoves.{message-at, fields_at}
use Rattle.protocol.proofs.Means.{registrar_means}

-- ## The slots stay

record KeepsSlots (t : TransactionTable) (a : RegistrarAnswer) : Type 0 where
  pub slots : length a.table.transactions ≡ length t.transactions

module _ (t : TransactionTable) where
  abbrev Keeps : RegistrarAnswer → Type 0
  Keeps = KeepsSlots t

  host_keeps : (i : TransactionId) (ok : Transaction → Bool) (g : Transaction → RegistrarAnswer) (f : Option Transaction) → lookup t.transactions i ≡ f
      → ((r : Transaction) → Keeps (g r)) → Keeps (host_step f t ok g)
  host_keeps i ok g none h s = record { slots = refl }
  host_keeps i ok g (some r) h s = cases Keeps (ok r) (g r) (refused_quietly 31 t) (λ _. s r) (λ _. record { slots = refl })

  issue_keeps : (i : TransactionId) (n : FreshNonce) (h : Hash) → Keeps (registrar_issue t i n h)
  unfolding registrar_issue
  issue_keeps i n h = host_keeps i may_issue _ _ refl (λ r. record { slots = replace-length t.transactions i _ })

  refuse_keeps : (i : TransactionId) (n : FreshNonce) → Keeps (registrar_refuse t i n)
  unfolding registrar_refuse
  refuse_keeps i n = host_keeps i may_refuse _ _ refl (λ r. record { slots = replace-length t.transactions i _ })

  lapse_keeps : (i : TransactionId) → Keeps (registrar_lapse t i)
  unfolding registrar_lapse
  lapse_keeps i = host_keeps i may_lapse _ _ refl (λ r. record { slots = replace-length t.transactions i _ })

  close_keeps : (i : TransactionId) → Keeps (registrar_close t i)
  unfolding registrar_close
  close_keeps i = host_keeps i may_close _ _ refl (λ r. record { slots = replace-length t.transactions i _ })

  module _ (d : RegistrarInput) where
    found_keeps : (m : Fields) (f : Option Transaction) → Keeps (confirmed_found f t d.nonce m)
    found_keeps m none = record { slots = refl }
    found_keeps m (some r) = cases Keeps (is_granted r.state) _ _ (λ _. record { slots = replace-length t.transactions (as_id m.id) _ }) (λ _. record { slots = refl })

    checked_keeps : (m : Fields) (f : Option Transaction) (c : LowestRow) → Keeps (registrar_checked c f t d m)
    unfolding registrar_checked
    checked_keeps m f (stop k) = record { slots = refl }
    checked_keeps m f pass = cases Keeps (opens m) _ _ (λ _. record { slots = put-length t.transactions _ }) (λ _. cases Keeps (confirms m) _ _ (λ _. found_keeps m f) (λ _. record { slots = refl }))

    read_keeps : (bytes : List ℕ) (r : Reading) → Keeps (registrar_read r t d bytes)
    unfolding registrar_read registrar_fields
    read_keeps bytes (Err f) = record { slots = refl }
    read_keeps bytes (Ok m) = checked_keeps (fields_of bytes m) _ _

    message_keeps : (bytes : List ℕ) → Keeps (registrar_message t d bytes)
    unfolding registrar_message
    message_keeps bytes = read_keeps bytes (reading_of bytes)

abbrev slots : World → ℕ
slots w = length w.table.transactions

start-stays : (w : World) (c : Call) (b : Board) (a : EndEntityAnswer) (d : Option TransactionId) → slots (start_did w c b a d) ≡ slots w
start-stays w c b a none = refl
start-stays w c b a (some i) = refl

enrolment-stays : (w : World) (c : Call) (k : ℕ) (f : Enrolment → EndEntityAnswer) (x : Option BoardEnrolment) → slots (enrolment_did w c k x f) ≡ slots w
enrolment-stays w c k f none = refl
enrolment-stays w c k f (some x) = refl

step_stays : (w : World) (c : Call) → slots (step w c) ≡ slots w
unfolding step
step_stays w (Start b k i n) = start-stays w (Start b k i n) b (end_entity_start k i n) (unless_refused (end_entity_start k i n).outcome i)
step_stays w (ToRegistrar bytes d) = (message_keeps w.table d bytes).slots
step_stays w (ToEndEntity k bytes d) = enrolment-stays w (ToEndEntity k bytes d) k (λ x. end_entity_message x d bytes) (get_elem? w.enrolments k)
step_stays w (Issue i h n) = (issue_keeps w.table i n h).slots
step_stays w (Refuse i n) = (refuse_keeps w.table i n).slots
step_stays w (Lapse i) = (lapse_keeps w.table i).slots
step_stays w (Close i) = (close_keeps w.table i).slots
step_stays w (TimeOut k) = enrolment-stays w (TimeOut k) k end_entity_time_out (get_elem? w.enrolments k)

after-stays : (cs : List Call) (w : World) → slots (after w cs) ≡ slots w
unfolding after
after-stays [] w = refl
after-stays (c ∷ cs) w = after-stays cs (step w c) ∙ step_stays w c

pub slots_stay : SlotsStay
unfolding empty_table
slots_stay calls = after-stays calls beginning ∙ length-replicate capacity free_transaction

-- ## Refusal 11

at_slot : (rs : List Transaction) (p : ℕ) → p < length rs → (r : Transaction) × (get_elem? rs p ≡ some r)
at_slot [] p h = absurd (omega arith)
at_slot (r ∷ rs) zero h = (r, refl)
at_slot (r ∷ rs) (suc p) h = at_slot rs p (omega arith)

in_table : (rs : List Transaction) (p : ℕ) (r : Transaction) → get_elem? rs p ≡ some r → p < length rs
in_table [] p r e = none_some e
in_table (x ∷ rs) zero r e = omega arith
in_table (x ∷ rs) (suc p) r e = let h : p < length rs = in_table rs p r e in omega arith

module _ (t : TransactionTable) (size : length t.transactions ≡ capacity) where
  all_in_use : has_free_slot t.transactions ≡ false → Full t
  all_in_use e p h =
      let x : (r : Transaction) × (get_elem? t.transactions p ≡ some r) = at_slot t.transactions p (omega arith) in
      (x.0, x.1, λ f. true_false (sym (free-room t.transactions p x.0 x.1 f) ∙ e))

  none_free : Full t → has_free_slot t.transactions ≡ false
  none_free w = by (has_free_slot t.transactions) refl
    where
      by : (b : Bool) → has_free_slot t.transactions ≡ b → b ≡ false
      by false e = refl
      by true e =
          let x : (p : ℕ) × (r : Transaction) × (get_elem? t.transactions p ≡ some r) × (r.state ≡ Free) = room-free t.transactions e in
          let h : x.0 < length t.transactions = in_table t.transactions x.0 x.1 x.2 in
          let y : (r : Transaction) × (get_elem? t.transactions x.0 ≡ some r) × (r.state ≡ Free → ⊥) = w x.0 (omega arith) in
          absurd (y.2 (ap (λ (r : Transaction). r.state) (some_some (sym y.1 ∙ x.2)) ∙ x.3))

  module _ (bytes : List ℕ) (m : Message) where
    to_11 : opens_full t.transactions (fields_of bytes m) ≡ true → IsRequest m.body.kind × Full t
    unfolding fields_of
    to_11 a = (is-request m.body.kind (and_left (opens (fields_of bytes m)) (not (has_free_slot t.transactions)) a), all_in_use (not_true (has_free_slot t.transactions) (and_right (opens (fields_of bytes m)) (not (has_free_slot t.transactions)) a)))
      where
        not_true : (b : Bool) → not b ≡ true → b ≡ false
        not_true true e = sym e
        not_true false e = refl

    from_11 : IsRequest m.body.kind × Full t → opens_full t.transactions (fields_of bytes m) ≡ true
    unfolding fields_of
    from_11 (k, w) = both (opens (fields_of bytes m)) (not (has_free_slot t.transactions)) (request-kind m.body.kind k) (ap not (none_free w))

bit_11 : (c : Bool) → bit_of 11 c ≡ Some 24
unfolding bit_of
bit_11 true = refl
bit_11 false = refl

pub registrar_means_11 : Means11
unfolding registrar_rows
registrar_means_11 calls d bytes m e =
    registrar_means 11 (run calls).table d bytes m e _ (Some 24) bit_11 refl
    (λ a h. to_11 (run calls).table (slots_stay calls) bytes m a)
    (λ w. from_11 (run calls).table (slots_stay calls) bytes m w)

-- ## A request on a full table

module _ (t : TransactionTable) (size : length t.transactions ≡ capacity) (full : Full t) (other : TransactionTable) (d : RegistrarInput) (bytes : List ℕ) (m : Message) (b : Board) (c : Opening other d bytes m b) where
  abbrev f : Fields
  f = fields_of bytes m

  recip_off : opens_with_nonce f ≡ false
  unfolding fields_of
  recip_off = off_right (opens f) (present f.recip_nonce) (ap present (part-absent bytes m.header.recip_nonce c.no_recip_nonce))

  kind_off : not (opens f || confirms f) ≡ false
  unfolding fields_of
  kind_off = holds_not (opens f || confirms f) (ap (λ (z : Bool). z || confirms f) (request-kind m.body.kind c.kind))

  good_it : is_good d.verdict ≡ true
  good_it = rw c.good

  lowest_11 : lowest_row (registrar_rows t.transactions none d.verdict f) ≡ stop 11
  unfolding registrar_rows
  lowest_11 =
      check-is
      (passes_head bytes m c.version c.has_id c.sender_nonce c.protection c.algorithm good_it
      (skip kind_off (skip recip_off (skip (off_right (opens f) false refl) (halt (from_11 t size bytes m (c.kind, full)))))))

  id-is : as_id f.id ≡ c.id
  unfolding fields_of
  id-is = ap as_id (part_there bytes m.header.transaction_id c.id.bytes (c.has_id.0, c.has_id.1))

  refused_11 : lookup t.transactions c.id ≡ none → (registrar_message t d bytes).outcome ≡ outcome.Refused 11 (Some 24)
  unfolding registrar_checked
  refused_11 u =
      ap (λ (a : RegistrarAnswer). a.outcome) (message-at t d bytes m c.reads ∙ fields_at t d bytes m none (ap (lookup t.transactions) id-is ∙ u) (stop 11) lowest_11)
      ∙ ap (outcome.Refused 11) (bit_11 false)

pub full_refuses : FullRefuses
full_refuses calls d bytes m b other c w u = refused_11 (run calls).table (slots_stay calls) w other d bytes m b c u
