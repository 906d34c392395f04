-- A request opens a transaction exactly when no row applies, in 01's words, and in the lowest free slot.
use Rattle.std.specs.Prelude.{Ok, Some, None}
use Prim.Native.Nat.{ℕ}
use mathlib.Core.List.{List}
use mathlib.Core.Bool.{Bool, true, false, not, cond, ◌&&◌, ◌||◌}
use mathlib.Core.Option.{Option, none, some}
use mathlib.Core.Path.{◌≡◌, refl, sym, ◌∙◌, ap, subst}
use mathlib.Core.Logic.{inl, inr}
use native.Mathlib.Decide.{ℕ_discrete}
use lib.ListN.{get_elem?}
use lib.Dec.{eqb}
use Rattle.message.specs.Read.{reading_of}
use Rattle.grammar.specs.declared.Span.{Span}
use Rattle.grammar.specs.declared.Message.{Message}
use Rattle.protocol.specs.declared.Board.{Board}
use Rattle.protocol.specs.Types.{Verdict}
use Rattle.protocol.specs.declared.RegistrarInput.{RegistrarInput}
use Rattle.protocol.specs.declared.Transaction.{Transaction}
use Rattle.protocol.specs.declared.TransactionTable.{TransactionTable}
use Rattle.protocol.specs.declared.RegistrarAnswer.{RegistrarAnswer}
use Rattle.protocol.specs.declared.TransactionState.TheVariants as at_registrar
use Rattle.protocol.specs.declared.Outcome.TheVariants as outcome
use Rattle.protocol.specs.Bytes.{present, as_id, as_nonce, no_nonce, no_hash}
use Rattle.grammar.specs.Span.{part_of}
use Rattle.protocol.specs.Message.{optional_part, Fields, fields_of, is_present, is_opening_kind, request_number}
use Rattle.protocol.specs.Table.{put, lookup, has_free_slot, free_slot, free_transaction}
use Rattle.protocol.specs.Refusals.{lowest_row, Row, pass, LowestRow, stop}
use Rattle.protocol.specs.RegistrarRows.{is_good, registrar_rows, one_entry, has_entries, opens, confirms, opens_with_nonce, other_request}
use Rattle.protocol.specs.Registrar.{registrar_checked, registrar_message, opened_transaction, done_quietly}
use Rattle.protocol.specs.Confirmation.{Sixteen}
use Rattle.protocol.specs.Request.{IsRequest, Opening, Opened, RequestRule}
use Rattle.der.proofs.Auto.{and_left, and_right}
use Rattle.protocol.proofs.Tests.{true_false, eqb_eq, not_false, passes, request-kind, and_false, one_of, both, off_left, off_right, holds_not, same_number_lem, number_0}
use Rattle.protocol.proofs.Carried.{part_there, part-absent}
use Rattle.protocol.proofs.RegistrarPasses.{passes_7, room, opens_it, taken_by}
use Rattle.protocol.proofs.Rows.{check-is, skip, through}
use Rattle.protocol.proofs.RegistrarPromises.{done_refused}
use Rattle.protocol.proofs.HeadRows.{passes_head}
use Rattle.protocol.proofs.ConfirmationMoves.{sixteen, present-part, message-at, fields_at}
use Rattle.protocol.proofs.Slots.{put_only}
use Rattle.protocol.proofs.FreeSlots.{room-free, free-room, put_there, was_free_lem, lowest-free}

good-names : (v : Verdict) → is_good v ≡ true → (b : Board) × (v ≡ Some b)
good-names None e = true_false (sym e)
good-names (Some b) e = (b, refl)

absent_test : (bytes : List ℕ) (s : Span) → present (optional_part bytes s) ≡ false → s.start.0 ≡ 0
absent_test bytes s e = go (eqb s.start.0 0) refl e
  where
    go : (b : Bool) → eqb s.start.0 0 ≡ b → present (cond (not b) (some (part_of bytes s)) none) ≡ false → s.start.0 ≡ 0
    go true q z = eqb_eq s.start.0 0 q
    go false q z = true_false z

request_other : (k : ℕ) → IsRequest k → eqb k 24 ≡ false
request_other k (inl e) = rw e
request_other k (inr (inl e)) = rw e
request_other k (inr (inr (inl e))) = rw e
request_other k (inr (inr (inr e))) = rw e

-- the kinds whose entries are counted, among the requests: all but p10cr
counted : (k : ℕ) → IsRequest k → (k ≡ 4 → ⊥) → (eqb k 0 || eqb k 2 || eqb k 7 || eqb k 24) ≡ true
counted k (inl e) d = rw e
counted k (inr (inl e)) d = rw e
counted k (inr (inr (inl e))) d = absurd (d e)
counted k (inr (inr (inr e))) d = rw e

p10cr_off : (k : ℕ) → k ≡ 4 → (eqb k 0 || eqb k 2 || eqb k 7 || eqb k 24) ≡ false
p10cr_off k e = rw e

module _ (t : TransactionTable) (d : RegistrarInput) (bytes : List ℕ) (m : Message) where
  abbrev f : Fields
  f = fields_of bytes m

  abbrev rs : List Transaction
  rs = t.transactions

  -- row 16 asks for 0 in every request that has an entry
  asked_0 : confirms f ≡ false → (m.body.kind ≡ 4 → ⊥) → request_number (cond (confirms f) 0 f.kind) ≡ 0
  unfolding fields_of
  asked_0 e z = rw e (number_0 m.body.kind z)

  -- ## Only if

  module _ (reads : reading_of bytes ≡ Ok m) (kind : IsRequest m.body.kind) (h : lookup rs (as_id f.id) ≡ none) (e : lowest_row (registrar_rows rs none d.verdict f) ≡ pass) where
    abbrev rows : List Row
    rows = registrar_rows rs none d.verdict f

    opening : Opening t d bytes m (good-names d.verdict (not_false _ (passes_7 rs none d.verdict f e))).0
    unfolding fields_of registrar_rows
    opening =
        let p : (is_present m.protection && is_present m.header.protection_alg) ≡ true = not_false _ (passes 6 rows e) in
        let i : Sixteen bytes m.header.transaction_id (part_of bytes m.header.transaction_id) = sixteen bytes m.header.transaction_id (passes 4 rows e) in
        let n : Sixteen bytes m.header.sender_nonce (part_of bytes m.header.sender_nonce) = sixteen bytes m.header.sender_nonce (passes 5 rows e) in
        let o : is_opening_kind m.body.kind ≡ true = request-kind m.body.kind kind in
        let g : (q : ℕ) × (x : Transaction) × (get_elem? rs q ≡ some x) × (x.state ≡ at_registrar.Free) = room-free rs (room rs none d.verdict f e o) in
        let one : (m.body.kind ≡ 4 → ⊥) → one_entry f ≡ true = λ z. not_false (one_entry f) (and_false (has_entries f) (not (one_entry f)) (passes 15 rows e) (counted m.body.kind kind z)) in
        record {
          reads = reads;
          version = one_of f.version 2 3 (not_false _ (passes 3 rows e));
          id = record { bytes = part_of bytes m.header.transaction_id };
          has_id = i;
          nonce = record { bytes = part_of bytes m.header.sender_nonce };
          sender_nonce = n;
          protection = present-part m.protection (and_left (is_present m.protection) (is_present m.header.protection_alg) p);
          algorithm = present-part m.header.protection_alg (and_right (is_present m.protection) (is_present m.header.protection_alg) p);
          good = (good-names d.verdict (not_false _ (passes_7 rs none d.verdict f e))).1;
          kind = kind;
          no_recip_nonce = absent_test bytes m.header.recip_nonce (and_false (is_opening_kind m.body.kind) (present f.recip_nonce) (passes 9 rows e) o);
          unknown = ap (λ (x : Option (List ℕ)). lookup rs (as_id x)) (sym (part_there bytes m.header.transaction_id _ (i.0, refl))) ∙ h;
          slot = g.0;
          held = g.1;
          holds = g.2;
          free = g.3;
          entries = λ z. eqb_eq f.entries 1 (one z);
          request = λ z. eqb_eq f.request _ (not_false _ (and_false (has_entries f && one_entry f) _ (passes 16 rows e) (both (has_entries f) (one_entry f) (counted m.body.kind kind z) (one z)))) ∙ asked_0 (request_other m.body.kind kind) z;
        }

  opens_by :
      reading_of bytes ≡ Ok m → IsRequest m.body.kind → (g : Option Transaction) → lookup rs (as_id f.id) ≡ g →
      (c : LowestRow) → lowest_row (registrar_rows rs g d.verdict f) ≡ c → (registrar_checked c g t d f).outcome ≡ outcome.Done →
      (b : Board) × Opening t d bytes m b
  unfolding registrar_checked fields_of
  opens_by reads kind g h (stop k) e = λ q. done_refused k _ (sym q)
  opens_by reads kind g h pass e =
      taken_by t d f (λ (a : RegistrarAnswer). a.outcome ≡ outcome.Done → (b : Board) × Opening t d bytes m b) g e (λ o n p _. (_, opening reads kind (h ∙ n) p))
      (λ r c n p _. true_false (sym c ∙ request_other m.body.kind kind))

  opens-only : reading_of bytes ≡ Ok m → IsRequest m.body.kind → (registrar_message t d bytes).outcome ≡ outcome.Done → (b : Board) × Opening t d bytes m b
  opens-only reads kind q =
      let g : Option Transaction = lookup rs (as_id f.id) in
      let c : LowestRow = lowest_row (registrar_rows rs g d.verdict f) in
      opens_by reads kind g refl c refl (ap (λ (a : RegistrarAnswer). a.outcome) (sym (message-at t d bytes m reads ∙ fields_at t d bytes m g refl c refl)) ∙ q)

  -- ## If

  module _ (b : Board) (c : Opening t d bytes m b) where
    no_conf : confirms f ≡ false
    unfolding fields_of
    no_conf = request_other m.body.kind c.kind

    request_it : opens f ≡ true
    unfolding fields_of
    request_it = request-kind m.body.kind c.kind

    room_it : has_free_slot rs ≡ true
    room_it = free-room rs c.slot c.held c.holds c.free

    entries_off : Dec (m.body.kind ≡ 4) → (has_entries f && not (one_entry f)) ≡ false
    unfolding fields_of
    entries_off (yes e) = off_left (has_entries f) (not (one_entry f)) (p10cr_off m.body.kind e)
    entries_off (no z) = off_right (has_entries f) (not (one_entry f)) (holds_not (one_entry f) (same_number_lem f.entries 1 (c.entries z)))

    request_off : Dec (m.body.kind ≡ 4) → other_request free_transaction f ≡ false
    unfolding fields_of
    request_off (yes e) = off_left (has_entries f && one_entry f) _ (off_left (has_entries f) (one_entry f) (p10cr_off m.body.kind e))
    request_off (no z) = off_right (has_entries f && one_entry f) _ (holds_not _ (same_number_lem f.request _ (c.request z ∙ sym (asked_0 no_conf z))))

    good_it : is_good d.verdict ≡ true
    good_it = rw c.good

    recip_off : opens_with_nonce f ≡ false
    unfolding fields_of
    recip_off = off_right (opens f) (present f.recip_nonce) (ap present (part-absent bytes m.header.recip_nonce c.no_recip_nonce))

    conf_off : (x y z : Bool) → (confirms f && x && y && z) ≡ false
    conf_off x y z = off_left (confirms f && x && y) z (off_left (confirms f && x) y (off_left (confirms f) x no_conf))

    passes_all : lowest_row (registrar_rows rs none d.verdict f) ≡ pass
    unfolding registrar_rows
    passes_all =
        check-is
        (passes_head bytes m c.version c.has_id c.sender_nonce c.protection c.algorithm good_it (skip (holds_not (opens f || confirms f) (ap (λ (z : Bool). z || confirms f) request_it)) (skip recip_off
        (skip (off_right (opens f) false refl) (skip (off_right (opens f) (not (has_free_slot rs)) (holds_not (has_free_slot rs) room_it))
        (skip (off_left (confirms f) true no_conf) (skip (off_left (confirms f) _ no_conf) (skip (off_left (confirms f) _ no_conf) (skip (entries_off (ℕ_discrete m.body.kind 4)) (skip (request_off (ℕ_discrete m.body.kind 4))
        (skip (conf_off (one_entry f) f.hash_alg _) (skip (off_left (confirms f && one_entry f) _ (off_left (confirms f) (one_entry f) no_conf)) (skip (off_left (confirms f && one_entry f) _ (off_left (confirms f) (one_entry f) no_conf)) (skip (off_left (confirms f) _ no_conf) through))))))))))))))

    id-is : as_id f.id ≡ c.id
    unfolding fields_of
    id-is = ap as_id (part_there bytes m.header.transaction_id c.id.bytes (c.has_id.0, c.has_id.1))

    nonce-is : as_nonce f.sender_nonce ≡ c.nonce
    unfolding fields_of
    nonce-is = ap as_nonce (part_there bytes m.header.sender_nonce c.nonce.bytes (c.sender_nonce.0, c.sender_nonce.1))

    abbrev new : Transaction
    new = record { id = c.id; board = b; kind = m.body.kind; taken = c.nonce; sent = no_nonce; hash = no_hash; state = at_registrar.Asked }

    new_is : opened_transaction d.verdict f ≡ new
    unfolding fields_of
    new_is = rw c.good (λ i. record { id = id-is i; board = b; kind = m.body.kind; taken = nonce-is i; sent = no_nonce; hash = no_hash; state = at_registrar.Asked })

    answer-is : registrar_message t d bytes ≡ done_quietly (free_slot rs) (put rs new)
    answer-is = message-at t d bytes m c.reads ∙ fields_at t d bytes m none (ap (lookup rs) id-is ∙ c.unknown) pass passes_all ∙ opens_it t d f none request_it ∙ ap (λ (x : Transaction). done_quietly (free_slot rs) (put rs x)) new_is

    opened_it : Opened t m.body.kind b c.id c.nonce (done_quietly (free_slot rs) (put rs new))
    opened_it =
        record {
          done = refl;
          fault = refl;
          silently = refl;
          asked = put_only t new (put_there rs new room_it);
          was_free = was_free_lem rs room_it;
          lowest = lowest-free rs;
        }

pub request_rule : (t : TransactionTable) (d : RegistrarInput) (bytes : List ℕ) (m : Message) → RequestRule t d bytes m
request_rule t d bytes m =
    record {
      opens = opens-only t d bytes m;
      opened = λ b c. subst (Opened t m.body.kind b c.id c.nonce) (sym (answer-is t d bytes m b c)) (opened_it t d bytes m b c);
    }
