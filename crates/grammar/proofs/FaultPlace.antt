-- A fault of the grammar lies in the message or at its end: whatever the bytes, no rule takes a cursor past the end, a broken one neither.
use Rattle.std.specs.Prelude.{Ok, Err}
use Prim.Native.Nat.{ℕ, ◌-◌, ◌≤◌}
use mathlib.Core.List.{List}
use mathlib.Core.Path.{◌≡◌, refl, sym}
use mathlib.Core.Bool.{◌||◌}
use native.Mathlib.Omega.{arith}
use lib.ListN.{length}
use lib.Dec.{ltb, eqb}
use Rattle.der.specs.Types.{Head}
use Rattle.der.proofs.HeadLaws.{cond-case}
use Rattle.grammar.specs.declared.cursor.Cursor.{Cursor}
use Rattle.grammar.specs.declared.parts.Each.{Each}
use Rattle.grammar.specs.declared.parts.Each.TheVariants.{Text, Certificate, Info}
use Rattle.grammar.specs.declared.parts.Status.{Status}
use Rattle.grammar.specs.declared.entries.EntryKind.{EntryKind}
use Rattle.grammar.specs.declared.entries.EntryKind.TheVariants as of
use Rattle.grammar.specs.declared.entries.Entries.{Entries}
use Rattle.grammar.specs.declared.pki_body.Contents.{Contents}
use Rattle.grammar.specs.Cursor.{is_ok, head_in, tag_at, fault_at, if_tag, need_of, any_of, none_of, maybe_of, rest_of, done_of, enter_of, leave_of, content_of, small_integer_of, left_at}
use Rattle.grammar.specs.Parts.{found_of, typed_of, all_by, sequence_by, one_of, sequence_of, optional_field, field_of, typed_field, any_field, sequence_field, maybe_text, last_bit_set, fail_info_of, status_of, maybe_status}
use Rattle.grammar.specs.Header.{name_tag, name_of, names_of, options_of, ids_of, header_of}
use Rattle.grammar.specs.Entries.{request_of, choice_of, key_pair, maybe_key_pair, response_of, cert_status_of, entry_of, no_entries, next, entries_of}
use Rattle.grammar.specs.Body.{at_least_one, requests_of, responses_of, confirmations_of, error_of, p10cr_of, other_of, contents_of, body_tag, body_of}
use Rattle.grammar.specs.Message.{start_at, message_of}
use Rattle.grammar.proofs.CursorLaws.{head_in_parent}
use Rattle.grammar.proofs.Places.{repeat_keeps}

-- all of a cursor's offsets are at most n
pub record Within (n : ℕ) (c : Cursor) : Type 0 where
  pub at : c.at ≤ n
  pub end : c.end ≤ n
  pub from : c.from ≤ n
  pub to : c.to ≤ n

module _ (m : List ℕ) (n : ℕ) where
  abbrev In : Cursor → Type 0
  In c = Within n c

  -- ## The verbs

  fault : (c : Cursor) → In c → In (fault_at c)
  fault c w = record { at = w.at; end = w.end; from = w.from; to = w.to }

  tag : (t : ℕ) (c : Cursor) (h : Head) → h ≡ head_in m c.at c.end → In c → In (if_tag t c h)
  tag t c (Err rule) e w = fault c w
  tag t c (Ok hd) e w =
      cond-case In (eqb hd.tag t)
      (let p = head_in_parent m c.at c.end (sym e) in
      let z = w.end in
      record { at = omega arith; end = z; from = omega arith; to = omega arith })
      (fault c w)

  need : (t : ℕ) (c : Cursor) → In c → In (need_of m t c)
  unfolding need_of
  need t c w = cond-case In (is_ok c) (tag t c (head_in m c.at c.end) refl w) w

  any : (c : Cursor) → In c → In (any_of m c)
  unfolding any_of
  any c w = need (tag_at m c) c w

  none : (c : Cursor) → In c → In (none_of c)
  none c w = record { at = w.at; end = w.end; from = omega arith; to = omega arith }

  maybe : (t : ℕ) (c : Cursor) → In c → In (maybe_of m t c)
  unfolding maybe_of
  maybe t c w = cond-case In (eqb (tag_at m c) t) (need t c w) (none c w)

  rest : (c : Cursor) → In c → In (rest_of m c)
  unfolding rest_of
  rest c w = cond-case In (ltb c.at c.end) (any c w) (none c w)

  done : (c : Cursor) → In c → In (done_of c)
  unfolding done_of
  done c w = cond-case In (ltb c.at c.end) (fault c w) w

  enter : (c : Cursor) → In c → In (enter_of c)
  unfolding enter_of
  enter c w = cond-case In (is_ok c) (record { at = w.from; end = w.to; from = omega arith; to = omega arith }) w

  leave : (o i : Cursor) → In o → In i → In (leave_of o i)
  unfolding leave_of
  leave o i v w = cond-case In (is_ok i) v w

  found : (o i : Cursor) → In o → In i → In (found_of o i)
  unfolding found_of
  found o i v w = cond-case In (is_ok i) (record { at = v.at; end = v.end; from = w.from; to = w.to }) w

  small : (c : Cursor) → In c → In (small_integer_of m c)
  unfolding small_integer_of
  small c w = cond-case In (ltb 4 ((need_of m 0x02 c).to - (need_of m 0x02 c).from)) (fault c w) (need 0x02 c w)

  -- an element with this tag, and something in it
  inside : (t : ℕ) (f : Cursor → Cursor) → ((c : Cursor) → In c → In (f c)) → (c : Cursor) → In c → In (leave_of (need_of m t c) (done_of (f (enter_of (need_of m t c)))))
  inside t f g c w = leave _ _ (need t c w) (done _ (g _ (enter _ (need t c w))))

  -- ## Parts

  typed : (c : Cursor) → In c → In (typed_of m c)
  unfolding typed_of
  typed c w = inside 0x30 (λ k. rest_of m (need_of m 0x06 k)) (λ k v. rest _ (need 0x06 k v)) c w

  one : (e : Each) (c : Cursor) → In c → In (one_of m e c)
  unfolding one_of
  one Text c w = need 0x0C c w
  one Certificate c w = need 0x30 c w
  one Info c w = typed c w

  all : (e : Each) (c : Cursor) → In c → In (all_by (one_of m e) c)
  unfolding all_by
  all e c w = repeat_keeps (λ k. k) (one_of m e) In (one e) (left_at c) c w

  sequence : (e : Each) (c : Cursor) → In c → In (sequence_of m e c)
  unfolding sequence_of sequence_by
  sequence e c w = leave _ _ (need 0x30 c w) (all e _ (one e _ (enter _ (need 0x30 c w))))

  -- [n] OPTIONAL around what stays inside, by a way out that does
  optional : (out : Cursor → Cursor → Cursor) → ((o i : Cursor) → In o → In i → In (out o i)) → (t : ℕ) (f : Cursor → Cursor) → ((c : Cursor) → In c → In (f c)) → (c : Cursor) → In c → In (optional_field out m t f c)
  optional out back t f g c w = cond-case In (eqb (tag_at m c) t) (back _ _ (need t c w) (done _ (g _ (enter _ (need t c w))))) (none c w)

  field : (t i : ℕ) (c : Cursor) → In c → In (field_of m t i c)
  unfolding field_of
  field t i = optional found_of found t (need_of m i) (need i)

  typed_field_lem : (t : ℕ) (c : Cursor) → In c → In (typed_field m t c)
  unfolding typed_field
  typed_field_lem t = optional leave_of leave t (typed_of m) typed

  any_field_lem : (t : ℕ) (c : Cursor) → In c → In (any_field m t c)
  unfolding any_field
  any_field_lem t = optional leave_of leave t (any_of m) any

  sequence_field_lem : (t : ℕ) (e : Each) (c : Cursor) → In c → In (sequence_field m t e c)
  unfolding sequence_field
  sequence_field_lem t e = optional leave_of leave t (sequence_of m e) (sequence e)

  text : (c : Cursor) → In c → In (maybe_text m c)
  unfolding maybe_text
  text c w = cond-case In (eqb (tag_at m c) 0x30) (sequence Text c w) (none c w)

  fail_info : (c : Cursor) → In c → In (fail_info_of m c)
  unfolding fail_info_of
  fail_info c w =
      cond-case In (eqb (tag_at m c) 0x03)
      (cond-case In (last_bit_set (content_of m (need_of m 0x03 c))) (need 0x03 c w) (fault c w)) (none c w)

  status : (c : Cursor) → In c → In (status_of m c).cur
  unfolding status_of
  status c w = inside 0x30 (λ k. fail_info_of m (maybe_text m (small_integer_of m k))) (λ k v. fail_info _ (text _ (small k v))) c w

  maybe_status_lem : (c : Cursor) → In c → In (maybe_status m c).cur
  unfolding maybe_status
  maybe_status_lem c w = cond-case (λ (s : Status). In s.cur) (eqb (tag_at m c) 0x30) (status c w) w

  -- ## The header

  name : (c : Cursor) → In c → In (name_of m c)
  unfolding name_of
  name c w = cond-case In (name_tag (tag_at m c)) (need (tag_at m c) c w) (fault c w)

  names : (c : Cursor) → In c → In (names_of m c).cur
  unfolding names_of
  names c w = name _ (name _ (small c w))

  options : (c : Cursor) → In c → In (options_of m c).cur
  unfolding options_of
  options c w = field 0xA3 0x04 _ (field 0xA2 0x04 _ (typed_field_lem 0xA1 _ (field 0xA0 0x18 c w)))

  ids : (c : Cursor) → In c → In (ids_of m c).cur
  unfolding ids_of
  ids c w = sequence_field_lem 0xA8 Info _ (sequence_field_lem 0xA7 Text _ (field 0xA6 0x04 _ (field 0xA5 0x04 _ (field 0xA4 0x04 c w))))

  header : (c : Cursor) → In c → In (header_of m c).cur
  unfolding header_of
  header c w = leave _ _ (need 0x30 c w) (done _ (ids _ (options _ (names _ (enter _ (need 0x30 c w))))))

  -- ## Entries

  request : (c : Cursor) → In c → In (request_of m c).cur
  unfolding request_of
  request c w =
      let s = need 0x30 c w in
      let q = need 0x30 _ (enter _ s) in
      leave _ _ s (leave _ _ q (small _ (enter _ q)))

  choice : (c : Cursor) → In c → In (choice_of m c)
  unfolding choice_of
  choice c w = cond-case In (eqb (tag_at m c) 0xA0) (inside 0xA0 (need_of m 0x30) (need 0x30) c w) (none _ (inside 0xA1 (any_of m) any c w))

  key_pair_lem : (c : Cursor) → In c → In (key_pair m c)
  unfolding key_pair
  key_pair_lem c w =
      let s = need 0x30 c w in
      let k = choice _ (enter _ s) in
      let d = done _ (any_field_lem 0xA1 _ (any_field_lem 0xA0 _ k)) in
      found _ _ (leave _ _ s d) (leave _ _ k d)

  maybe_key_pair_lem : (c : Cursor) → In c → In (maybe_key_pair m c)
  unfolding maybe_key_pair
  maybe_key_pair_lem c w = cond-case In (eqb (tag_at m c) 0x30) (key_pair_lem c w) (none c w)

  response : (c : Cursor) → In c → In (response_of m c).cur
  unfolding response_of
  response c w =
      let s = need 0x30 c w in leave _ _ s (done _ (maybe 0x04 _ (maybe_key_pair_lem _ (status _ (small _ (enter _ s))))))

  cert_status_lem : (c : Cursor) → In c → In (cert_status_of m c).cur
  unfolding cert_status_of
  cert_status_lem c w =
      let s = need 0x30 c w in leave _ _ s (done _ (typed_field_lem 0xA0 _ (maybe_status_lem _ (small _ (need 0x04 _ (enter _ s))))))

  entry : (k : EntryKind) (c : Cursor) → In c → In (entry_of m k c).cur
  unfolding entry_of
  entry of.Request c w = request c w
  entry of.Response c w = response c w
  entry of.Status c w = cert_status_lem c w

  entries : (k : EntryKind) (c : Cursor) → In c → In (entries_of m k c).cur
  unfolding entries_of
  entries k c w =
      repeat_keeps (λ (e : Entries). e.cur) (next m k) (λ (e : Entries). In e.cur) (λ e p. entry k e.cur p) (left_at c) (no_entries c) w

  -- ## The body and the message

  at_least_one_lem : (e : Entries) → In e.cur → In (at_least_one e)
  unfolding at_least_one
  at_least_one_lem e w = cond-case In (eqb e.count 0) (fault e.cur w) w

  requests : (c : Cursor) → In c → In (requests_of m c).cur
  unfolding requests_of
  requests c w = let s = need 0x30 c w in leave _ _ s (at_least_one_lem _ (entries of.Request _ (enter _ s)))

  responses : (c : Cursor) → In c → In (responses_of m c).cur
  unfolding responses_of
  responses c w =
      let s = need 0x30 c w in
      let q = need 0x30 _ (sequence_field_lem 0xA1 Certificate _ (enter _ s)) in
      leave _ _ s (done _ (leave _ _ q (entries of.Response _ (enter _ q))))

  confirmations : (c : Cursor) → In c → In (confirmations_of m c).cur
  unfolding confirmations_of
  confirmations c w = let s = need 0x30 c w in leave _ _ s (entries of.Status _ (enter _ s))

  error : (c : Cursor) → In c → In (error_of m c).cur
  unfolding error_of
  error c w = let s = need 0x30 c w in leave _ _ s (done _ (text _ (maybe 0x02 _ (status _ (enter _ s)))))

  abbrev InContents : Contents → Type 0
  InContents i = In i.cur

  p10cr : (c : Cursor) → In c → InContents (p10cr_of m c)
  unfolding p10cr_of
  p10cr c w = any c w

  other : (k : ℕ) (c : Cursor) → In c → InContents (other_of m k c)
  unfolding other_of
  other k c w = cond-case InContents (eqb k 4) (p10cr c w) (cond-case InContents (eqb k 19) (need 0x05 c w) (any c w))

  contents : (k : ℕ) (c : Cursor) → In c → InContents (contents_of m k c)
  unfolding contents_of
  contents k c w =
      cond-case InContents (eqb k 0) (requests c w)
      (cond-case InContents (eqb k 1) (responses c w)
      (cond-case InContents (eqb k 2) (requests c w)
      (cond-case InContents (eqb k 3) (responses c w)
      (cond-case InContents (eqb k 7) (requests c w)
      (cond-case InContents (eqb k 8) (responses c w)
      (cond-case InContents (eqb k 23) (error c w)
      (cond-case InContents (eqb k 24) (confirmations c w) (other k c w))))))))

  body-tag : (c : Cursor) → In c → In (body_tag m c)
  unfolding body_tag
  body-tag c w = cond-case In (ltb (tag_at m c) 0xA0 || ltb 0xBA (tag_at m c)) (fault c w) (need (tag_at m c) c w)

  body : (c : Cursor) → In c → In (body_of m c).cur
  unfolding body_of
  body c w = let b = body-tag c w in leave _ _ b (done _ (contents (tag_at m c - 0xA0) _ (enter _ b)))

  message : In (start_at (length m)) → (message_of m).at.0 ≤ n
  unfolding message_of
  message w =
      let s = need 0x30 _ w in
      (done _ (leave _ _ s (done _ (sequence_field_lem 0xA1 Certificate _ (field 0xA0 0x03 _ (body _ (header _ (enter _ s)))))))).at

-- WHERE THE GRAMMAR STOPS: in the message or at its end, whether it is broken there or not
pub grammar_in : (m : List ℕ) → (message_of m).at.0 ≤ length m
unfolding start_at
grammar_in m =
    let w : Within (length m) (start_at (length m)) = record { at = omega arith; end = omega arith; from = omega arith; to = omega arith } in
    message m (length m) w
