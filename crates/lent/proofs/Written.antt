-- What the exported call writes is a message issued by the end whose answer held the order.
use Rattle.std.specs.Prelude.{Ok, Err, Some, None, is_some, unwrap_or}
use Prim.Native.Nat.{ℕ, ◌+◌, ◌<◌, ◌≤◌, ◌^◌}
use mathlib.Core.List.{List, ◌++◌}
use mathlib.Core.Bool.{Bool, true, false, cond, ◌&&◌, true≢false}
use mathlib.Core.Path.{◌≡◌, refl, sym, ◌∙◌, ap, subst}
use mathlib.Core.Logic.{◌≢◌}
use native.Mathlib.Omega.{arith}
use borrow.Author.Tests.{eq-eqb, eqb-true, eqb-false}
use lib.ListN.{length, take, drop, get_or, length-drop, take-append-drop, get_or-append}
use lib.Seq.{take-append_seam, drop-append_seam, take-append-le, drop-append-le}
use lib.Dec.{eqb, lit<, lit≤}
use Rattle.der.proofs.Auto.{and_right}
use Rattle.grammar.specs.declared.Span.{Span}
use Rattle.message.specs.Read.{reading_of}
use Rattle.protocol.specs.declared.Outgoing.{Outgoing}
use Rattle.protocol.specs.Bytes.{zeros, bytes_of}
use Rattle.protocol.specs.Message.{is_present, optional_part}
use Rattle.protocol.specs.Run.{World}
use Rattle.protocol.specs.Agreement.{Issued}
use Rattle.packed.specs.Bytes.{AllBytes, part, four_at, two_at}
use Rattle.packed.specs.Places.{id_bytes, nonce_bytes, hash_bytes, outgoing_kind_at, outgoing_id_at, outgoing_sender_nonce_at, outgoing_has_recip_nonce_at, outgoing_recip_nonce_at, outgoing_has_status_at, outgoing_status_at, outgoing_hash_at, outgoing_failure_at, outgoing_has_number_at, outgoing_number_at}
use Rattle.packed.specs.Outgoing.{failure_of, outgoing_bytes, outgoing_of, unpack_outgoing, outgoing_held}
use Rattle.packed.proofs.Parts.{part_length}
use Rattle.encoding.specs.Message.{encode}
use Rattle.encoding.specs.ReadBack.{Bytes, BytesIf, GivenTyped, OrderTyped}
use Rattle.encoding.specs.WriteRules.{RefusalRules}
use Rattle.encoding.proofs.Inverse.{bytes-part}
use Rattle.encoding.proofs.Orders.{orders_fit}
use Rattle.encoding.proofs.Refusals.{refusals}
use Rattle.encoding.proofs.Written as encoded
use Rattle.given.specs.declared.GivenSpans.{GivenSpans}
use Rattle.given.specs.Numbers.{given_count, spans_of}
use Rattle.given.specs.Spans.{given_of, spans_inside}
use Rattle.writer.specs.Types.{Written}
use Rattle.writer.specs.Write.{write_refusal, write_answer, buffer_after}
use Rattle.writer.specs.WriteRules.{WriteRules}
use Rattle.writer.proofs.WriteRules.{writes}
use Rattle.duskstall.specs.Write.{not_written, written_number, write_args, write_number, write_buffer}
use Rattle.lent.specs.Lent.{LentEvent, events_of, lent_after, lent_beginning, made}
use Rattle.lent.specs.Header.{IssuedBytes}
use Rattle.lent.specs.Written.{AllGivenInPlace, RightLengths, in_high_bits, WriteAnswers, AllWriteAnswers, BytesWritten, HandedOutFits}
use Rattle.lent.proofs.Sent.{sent-issued, issued-back}
use Rattle.lent.proofs.Theorem.{lent_runs}

-- ## What the types say

module _ (src : List ℕ) (bytes : AllBytes src) (s : Span) where
  some_bytes : (b : Bool) → is_present s ≡ b → BytesIf (optional_part src s)
  some_bytes true e = rw e (bytes-part src s.start.0 s.len bytes)
  some_bytes false e = rw e tt

  all_bytes : (b : Bool) → is_present s ≡ b → Bytes (bytes_of (optional_part src s))
  all_bytes true e = rw e (bytes-part src s.start.0 s.len bytes)
  all_bytes false e = rw e (λ i. lit< tt)

given_typed : (src : List ℕ) (g : GivenSpans) → AllBytes src → g.version < 2 ^ 32 → GivenTyped (given_of src g)
given_typed src g bytes low = record {
  version = low;
  sender = all_bytes src bytes g.sender _ refl;
  recipient = all_bytes src bytes g.recipient _ refl;
  protection_alg = some_bytes src bytes g.protection_alg _ refl;
  free_text = some_bytes src bytes g.free_text _ refl;
  general_info = some_bytes src bytes g.general_info _ refl;
  request = some_bytes src bytes g.request _ refl;
  certificate = some_bytes src bytes g.certificate _ refl;
}

four_low : (s : List ℕ) (k : ℕ) → AllBytes s → four_at k s < 2 ^ 32
four_low s k bytes = omega (arith, bytes k, bytes (k + 1), bytes (k + 2), bytes (k + 2 + 1))

order_typed : (out : List ℕ) → AllBytes out → length out ≡ outgoing_bytes → OrderTyped (outgoing_of out)
unfolding outgoing_of
order_typed out bytes size = record {
  recip_nonce = part_length outgoing_recip_nonce_at 16 out (omega arith);
  status = four_low out outgoing_status_at bytes;
  hash = part_length outgoing_hash_at 32 out (omega arith);
  number = four_low out outgoing_number_at bytes;
}

-- ## The order, from the first bytes

module _ (out rest : List ℕ) (size : length out ≡ outgoing_bytes) where
  part_same : (k n : ℕ) → k + n ≤ outgoing_bytes → part k n (out ++ rest) ≡ part k n out
  part_same k n h =
      ap (take n) (drop-append-le k out rest (omega arith)) ∙ take-append-le n (drop k out) rest (omega (arith, length-drop k out))

  byte-same : (k : ℕ) → k < outgoing_bytes → get_or (out ++ rest) k 0 ≡ get_or out k 0
  byte-same k h = get_or-append out rest 0 k (omega arith)

  two-same : (k : ℕ) → k + 1 < outgoing_bytes → two_at k (out ++ rest) ≡ two_at k out
  two-same k h = omega (arith, byte-same k (omega arith), byte-same (k + 1) h)

  four_same : (k : ℕ) → k + 2 + 1 < outgoing_bytes → four_at k (out ++ rest) ≡ four_at k out
  four_same k h = omega (arith, two-same k (omega arith), two-same (k + 2) h)

  flag_same : (k : ℕ) → k < outgoing_bytes → eqb (get_or (out ++ rest) k 0) 1 ≡ eqb (get_or out k 0) 1
  flag_same k h = ap (λ (x : ℕ). eqb x 1) (byte-same k h)

  order_same : outgoing_of (out ++ rest) ≡ outgoing_of out
  unfolding outgoing_of
  order_same i = record {
    kind = byte-same outgoing_kind_at (lit< tt) i;
    id = record { bytes = part_same outgoing_id_at id_bytes (lit≤ tt) i };
    sender_nonce = record { bytes = part_same outgoing_sender_nonce_at nonce_bytes (lit≤ tt) i };
    has_recip_nonce = flag_same outgoing_has_recip_nonce_at (lit< tt) i;
    recip_nonce = record { bytes = part_same outgoing_recip_nonce_at nonce_bytes (lit≤ tt) i };
    contents = record {
      has_status = flag_same outgoing_has_status_at (lit< tt) i;
      status = four_same outgoing_status_at (lit< tt) i;
      hash = record { bytes = part_same outgoing_hash_at hash_bytes (lit≤ tt) i };
      failure = failure_of (byte-same outgoing_failure_at (lit< tt) i);
      has_number = flag_same outgoing_has_number_at (lit< tt) i;
      number = four_same outgoing_number_at (lit< tt) i;
    };
  }

first-bytes : (u out : List ℕ) → length out ≡ outgoing_bytes → take outgoing_bytes u ≡ out → outgoing_of u ≡ outgoing_of out
first-bytes u out size e =
    ap outgoing_of (sym (take-append-drop outgoing_bytes u) ∙ ap (λ (l : List ℕ). l ++ drop outgoing_bytes u) e) ∙ order_same out (drop outgoing_bytes u) size

-- ## The call that wrote

module _ (out given : List ℕ) where
  order_is : write_args out given ≡ true → (outgoing_held out ≡ outgoing_of out) × (length out ≡ outgoing_bytes)
  unfolding unpack_outgoing
  order_is = by (eqb (length out) outgoing_bytes) refl
    where
      by : (b : Bool) → eqb (length out) outgoing_bytes ≡ b → is_some (cond b (Some (outgoing_of out)) None) && eqb (length given) given_count ≡ true
          → (unwrap_or (cond b (Some (outgoing_of out)) None) (outgoing_of (zeros outgoing_bytes)) ≡ outgoing_of out) × (length out ≡ outgoing_bytes)
      by true e q = (refl, eqb-true (length out) outgoing_bytes e)
      by false e q = absurd (true≢false (sym q))

  right_args : RightLengths out given → write_args out given ≡ true
  unfolding unpack_outgoing
  right_args h = rw (eq-eqb (length out) outgoing_bytes h.0) (eq-eqb (length given) given_count h.1)

  args_right_lengths : write_args out given ≡ true → RightLengths out given
  args_right_lengths e = ((order_is e).1, eqb-true (length given) given_count (and_right (is_some (unpack_outgoing out)) _ e))

module _ (out given src buf : List ℕ) (v n : ℕ) (low : n < 2 ^ 32) where
  -- the lengths were right
  args_right : write_number out v given src buf ≡ n → write_args out given ≡ true
  unfolding write_number
  args_right = by (write_args out given) refl
    where
      by : (b : Bool) → write_args out given ≡ b
          → cond b (written_number (write_answer src (spans_of v given) (outgoing_held out) buf)) (not_written 252) ≡ n → b ≡ true
      by true e q = refl
      by false e q = absurd (omega (arith, q, low))

  -- the answer has a size, and no refusal
  unrefused : (g : GivenSpans) (o : Outgoing) → written_number (write_answer src g o buf) ≡ n → (write_refusal src g o buf ≡ 0) × (write_answer src g o buf ≡ Ok n)
  unfolding write_answer
  unrefused g o = by (eqb (write_refusal src g o buf) 0) refl
    where
      by : (b : Bool) → eqb (write_refusal src g o buf) 0 ≡ b
          → written_number (cond b (Ok (length (encode (given_of src g) o))) (Err (write_refusal src g o buf))) ≡ n
          → (write_refusal src g o buf ≡ 0) × (cond b (Ok (length (encode (given_of src g) o))) (Err (write_refusal src g o buf)) ≡ Ok n)
      by true e q = (eqb-true (write_refusal src g o buf) 0 e, ap Ok q)
      by false e q = absurd (eqb-false (write_refusal src g o buf) 0 e (omega (arith, q, low)))

-- BYTES WRITTEN
pub bytes-written : BytesWritten
unfolding write_number write_buffer
bytes-written out given src buf v n out-bytes src-bytes v_low is low =
    let g : GivenSpans = spans_of v given in
    let o : Outgoing = outgoing_of out in
    let x : List ℕ = encode (given_of src g) o in
    let args : write_args out given ≡ true = args_right out given src buf v n low is in
    let order = order_is out given args in
    let number : written_number (write_answer src g o buf) ≡ n =
    ap (λ (y : Outgoing). written_number (write_answer src g y buf)) (sym order.0) ∙ (simp args at is) in
    let u = unrefused out given src buf v n low g o number in
    let rules = writes src g o buf in
    let w = rules.written n u.1 in
    let after : write_buffer out v given src buf ≡ x ++ drop n buf = rw args (ap (λ (y : Outgoing). buffer_after src g y buf) order.0 ∙ w.1) in
    let result : take n (write_buffer out v given src buf) ≡ x = ap (take n) after ∙ rw w.0 (take-append_seam x (drop (length x) buf)) in
    let unhindered = (refusals (spans_inside src g) (given_of src g) o (length buf)).written.0 u.0 in
    let typed = given_typed src g src-bytes v_low in
    let types = order_typed out out-bytes order.1 in
    record {
      size = w.0;
      limit = omega (arith, w.0, unhindered.0);
      room = omega (arith, w.0, unhindered.1);
      result = result;
      others = ap (drop n) after ∙ rw w.0 (drop-append_seam x (drop (length x) buf));
      back = encoded.written (spans_inside src g) (given_of src g) o (length buf) typed types u.0;
      issued = λ p past s.
          let sent = sent-issued p (λ y. take outgoing_bytes y ≡ out) past s in
          let gave : Issued p o (events_of past) = subst (λ (y : Outgoing). Issued p y (events_of past)) (first-bytes sent.0 out order.1 sent.1) sent.2 in
          let there = encoded.issued (spans_inside src g) (given_of src g) o (length buf) typed types u.0 p (events_of past) gave in
          subst (λ (y : List ℕ). IssuedBytes p y (reading_of y) past) (sym result) (issued-back p x (reading_of x) past there);
    }

-- ## What the call does, whatever it is handed

-- GIVEN IN PLACE
pub given_in_place : AllGivenInPlace
given_in_place v s src = record {
  version = refl;
  sender = refl;
  recipient = refl;
  message_time = refl;
  protection_alg = refl;
  sender_kid = refl;
  recip_kid = refl;
  free_text = refl;
  general_info = refl;
  protection = refl;
  request = refl;
  certificate = refl;
}

module _ (src : List ℕ) (g : GivenSpans) (o : Outgoing) (buf : List ℕ) where
  -- what a call on values says, in the number that is returned
  answered : (a : Written) (after : List ℕ) → WriteRules src g o buf a after
      → (k : ℕ)
      × RefusalRules (spans_inside src g) (given_of src g) o (length buf) k
      × (k ≢ 0 → (written_number a ≡ in_high_bits k) × (after ≡ buf))
      × (k ≡ 0 → (written_number a ≡ length (encode (given_of src g) o)) × (after ≡ encode (given_of src g) o ++ drop (written_number a) buf))
  answered (Ok n) after r = (0, r.refusal, (λ z. absurd (z refl)), λ z. r.written n refl)
  answered (Err k) after r = (k, r.refusal, (λ z. (refl, (r.refused k refl).0)), λ z. absurd ((r.refused k refl).1 z))

-- WRITE ANSWERS
pub write_answers : AllWriteAnswers
unfolding write_number write_buffer
write_answers out given src buf v = by (write_args out given) refl
  where
    by : (b : Bool) → write_args out given ≡ b
        → WriteAnswers out given src buf
        (cond b (buffer_after src (spans_of v given) (outgoing_held out) buf) buf) v
        (cond b (written_number (write_answer src (spans_of v given) (outgoing_held out) buf)) (not_written 252))
    by true e =
        let g : GivenSpans = spans_of v given in
        subst (λ (y : Outgoing). WriteAnswers out given src buf (buffer_after src g y buf) v (written_number (write_answer src g y buf)))
        (sym (order_is out given e).0)
        (record {
          lengths = λ wrong. absurd (wrong (args_right_lengths out given e));
          answer = λ right. answered src g (outgoing_of out) buf (write_answer src g (outgoing_of out) buf) (buffer_after src g (outgoing_of out) buf) (writes src g (outgoing_of out) buf);
        })
    by false e = record {
      lengths = λ wrong. (refl, refl);
      answer = λ right. absurd (true≢false (sym (right_args out given right) ∙ e));
    }

-- HANDED OUT FITS
pub handed_out_fits : HandedOutFits
handed_out_fits s e calls p out sent size =
    let past : List LentEvent = (lent_after (lent_beginning s) calls).past in
    let q = sent-issued p (λ o. take outgoing_bytes o ≡ out) past sent in
    let gave : Issued p (outgoing_of out) (events_of past) = subst (λ (y : Outgoing). Issued p y (events_of past)) (first-bytes q.0 out size q.1) q.2 in
    orders_fit (made (lent_beginning s) calls) p (outgoing_of out) (subst (λ (w : World). Issued p (outgoing_of out) w.past) (lent_runs s e calls).same gave)
