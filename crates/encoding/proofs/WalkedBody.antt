-- The same of the body and the whole message: a request, a certificate and a protection that were found pass their tests (36) alone.
use Prim.Native.Nat.{ℕ, ◌-◌, ◌/◌, ◌%◌, ◌≤◌, ◌<◌}
use mathlib.Core.Path.{◌≡◌, refl, sym, ◌∙◌, ap, subst}
use mathlib.Core.List.{List, [], ◌++◌, append-nil}
use mathlib.Core.Bool.{Bool, true, ◌||◌, true≢false}
use mathlib.Core.Option.{Option, none, some}
use native.Mathlib.Omega.{arith}
use borrow.Author.Tests.{eq-eqb, ltb-false}
use lib.ListN.{length, length-append}
use lib.Dec.{ltb, eqb}
use Rattle.der.specs.Content.{bit_string_ok}
use Rattle.der.specs.Element.{constructed, is_element}
use Rattle.der.proofs.Auto.{or_false_left, or_false_right}
use Rattle.der.proofs.HeadLaws.{cond_both, cond-case}
use Rattle.der.proofs.OneForm.{Bytes}
use Rattle.grammar.specs.declared.Span.{Span}
use Rattle.grammar.specs.declared.Entry.{Entry}
use Rattle.grammar.specs.declared.Message.{Message}
use Rattle.grammar.specs.declared.cursor.Cursor.{Cursor}
use Rattle.grammar.specs.declared.parts.Each.TheVariants.{Certificate}
use Rattle.grammar.specs.declared.entries.Entries.{Entries}
use Rattle.grammar.specs.declared.entries.EntryKind.{EntryKind}
use Rattle.grammar.specs.declared.entries.EntryKind.TheVariants as of
use Rattle.grammar.specs.Cursor.{is_ok, tag_at, need_of, any_of, maybe_of, done_of, enter_of, leave_of, small_integer_of, left_at}
use Rattle.grammar.specs.Span.{span_from, part_of}
use Rattle.grammar.specs.Parts.{found_span, whole_span, outer_span, found_of, field_of, any_field, sequence_of, sequence_field, status_of}
use Rattle.grammar.specs.Entries.{no_entry, request_of, choice_of, key_pair, maybe_key_pair, response_of, entry_of, no_entries, next, entries_of, only_of}
use Rattle.grammar.specs.Body.{at_least_one, requests_of, responses_of, p10cr_of, contents_of, body_tag, body_of}
use Rattle.grammar.specs.Header.{header_of}
use Rattle.grammar.specs.Message.{start_at, message_of}
use Rattle.grammar.proofs.CursorLaws.{untrue}
use Rattle.grammar.proofs.Places.{NoFault, Took, ended, left, at_leave, need_takes, maybe_steps, repeat_keeps}
use Rattle.grammar.proofs.PartPlaces.{field_steps, sequence_field_steps, status-takes}
use Rattle.grammar.proofs.BodyPlaces.{body-takes}
use Rattle.grammar.proofs.EntryPlaces.{maybe_pair_steps, entry_takes}
use Rattle.protocol.specs.Message.{is_present, optional_part}
use Rattle.encoding.specs.Element.{element}
use Rattle.encoding.specs.Fits.{if_given, is_absent, request_message_fits, certificate_fits}
use Rattle.encoding.proofs.Holds.{Holds}
use Rattle.encoding.proofs.Only.{between_is}
use Rattle.encoding.proofs.Sound.{SoundAt}
use Rattle.encoding.proofs.Apart.{good_below, good-alone, one-element}
use Rattle.encoding.proofs.Alone.{request-fits, certificate_here, bits_here}
use Rattle.encoding.proofs.Message.{start-holds}
use Rattle.encoding.proofs.Requests.{request-only}
use Rattle.encoding.proofs.Walked.{HeaderFits, header-fits, part-fits, Stands, Passes, need_passes, enter_stands, inside-fits, optional-fits, small_stands}

module _ (m : List ℕ) (bytes : Bytes m) (few : length m < 65536) where
  -- the cursor is right, and the part that an entry names passes the test
  abbrev EntryFits : (List ℕ → Bool) → Span → Type 0
  EntryFits test s = if_given test (optional_part m s) ≡ true

  -- ## 4 p10cr

  pub p10cr-fits : (c : Cursor) → Stands m bytes few 14 c → NoFault (p10cr_of m c).cur
      → EntryFits (is_element 14) (p10cr_of m c).entry.request
  unfolding p10cr_of any_of
  p10cr-fits c s k =
      let tag : ℕ = tag_at m c in
      let p = need_passes m bytes few 13 tag c s k in
      let e : List ℕ = element tag p.content in
      let sound : SoundAt 14 e = good-alone 13 tag p.content p.small p.good in
      part-fits m (is_element 14) (whole_span c (need_of m tag c))
      (ap (is_element 14) p.whole ∙ one-element 14 tag p.content e refl p.good.tags p.size sound)

  -- ## Entries one after another

  -- what each entry's rule leaves and finds, the last entry has
  entries_fit : (d : ℕ) (what : EntryKind) (test : List ℕ → Bool) (part : Entry → Span) → EntryFits test (part no_entry)
      → ((c : Cursor) → Stands m bytes few d c → NoFault (entry_of m what c).cur
      → Stands m bytes few d (entry_of m what c).cur × EntryFits test (part (entry_of m what c).entry))
      → (c : Cursor) → Stands m bytes few d c → NoFault (entries_of m what c).cur → EntryFits test (part (only_of (entries_of m what c)))
  unfolding entries_of
  entries_fit d what test part blank each c s k =
      let P : Entries → Type 0 = λ (e : Entries). NoFault e.cur → Stands m bytes few d e.cur × EntryFits test (part e.last) in
      let all : P (entries_of m what c) =
      repeat_keeps (λ (e : Entries). e.cur) (next m what) P
      (λ e f j. each e.cur (f (entry_takes m what e.cur j).along.ok).0 j) (left_at c) (no_entries c) (λ j. (s, blank)) in
      cond-case (λ (e : Entry). EntryFits test (part e)) (eqb (entries_of m what c).count 1) (all k).1 blank

  -- ## 0 ir, 2 cr, 7 kur

  request-item : (c : Cursor) → Stands m bytes few 13 c → NoFault (request_of m c).cur
      → Stands m bytes few 13 (request_of m c).cur × EntryFits request_message_fits (request_of m c).entry.request
  unfolding request_of
  request-item c st k =
      let s : Cursor = need_of m 0x30 c in
      let q : Cursor = need_of m 0x30 (enter_of s) in
      let r : Cursor = leave_of s (leave_of q (small_integer_of m (enter_of q))) in
      let l = left s (leave_of q (small_integer_of m (enter_of q))) k in
      let p = need_passes m bytes few 12 0x30 c st (subst NoFault l.1 k) in
      let t = request-only m bytes c st.left st.holds k in
      let here : Holds m c (t.part ++ t.rest) = subst (Holds m c) t.is st.holds in
      let end : r.end ≡ c.end = (at_leave (Took c) _ (need_takes m 0x30 c) k).along.end in
      let is : part_of m (whole_span c s) ≡ t.part =
      ap (λ (j : Cursor). part_of m (whole_span c j)) (sym l.1) ∙ between_is m t.part t.rest c r here t.left end in
      let one : t.part ≡ element 0x30 p.content = sym is ∙ p.whole in
      let small : length t.part < 65536 = omega (arith, here.size, here.high, length-append t.part t.rest) in
      let sound : SoundAt 13 t.part = subst (SoundAt 13) (sym one) (good-alone 12 0x30 p.content p.small p.good) in (
        subst (Stands m bytes few 13) (sym l.1) p.after,
        part-fits m request_message_fits (whole_span c s) (ap request_message_fits is ∙ request-fits t.part small t.shape sound),
      )

  at_least_one_lem : (e : Entries) → NoFault (at_least_one e) → NoFault e.cur
  unfolding at_least_one
  at_least_one_lem e = cond-case (λ (c : Cursor). NoFault c → NoFault e.cur) (eqb e.count 0) untrue (λ k. k)

  pub requests_fit : (c : Cursor) → Stands m bytes few 14 c → NoFault (requests_of m c).cur
      → EntryFits request_message_fits (requests_of m c).entry.request
  unfolding requests_of entry_of
  requests_fit c st k =
      let s : Cursor = need_of m 0x30 c in
      let e : Entries = entries_of m of.Request (enter_of s) in
      let l = left s (at_least_one e) k in
      let p = need_passes m bytes few 13 0x30 c st (subst NoFault l.1 k) in
      entries_fit 13 of.Request request_message_fits (λ (x : Entry). x.request) refl request-item (enter_of s)
      (enter_stands m bytes few p refl) (at_least_one_lem e l.0)

  -- ## 1 ip, 3 cp, 8 kup

  choice_fits : (c : Cursor) → Stands m bytes few 10 c → NoFault (choice_of m c) → EntryFits certificate_fits (found_span (choice_of m c))
  unfolding choice_of
  choice_fits c s =
      cond_both (λ (r : Cursor). NoFault r → EntryFits certificate_fits (found_span r)) (eqb (tag_at m c) 0xA0)
      (λ q k. (inside-fits m bytes few 9 0xA0 (need_of m 0x30) certificate_fits c refl (certificate_here m bytes few) s k).1)
      (λ q k. refl)

  found-is : (o i : Cursor) → NoFault (found_of o i) → NoFault o × NoFault i × (found_span (found_of o i) ≡ found_span i) × ((found_of o i).at ≡ o.at)
  unfolding found_of
  found-is o i =
      cond_both (λ (r : Cursor). NoFault r → NoFault o × NoFault i × (found_span r ≡ found_span i) × (r.at ≡ o.at)) (is_ok i)
      (λ q k. (k, q, refl, refl)) (λ q k. untrue (sym q ∙ k))

  pair_fits : (c : Cursor) → Stands m bytes few 11 c → NoFault (key_pair m c) → EntryFits certificate_fits (found_span (key_pair m c))
  unfolding key_pair
  pair_fits c st k =
      let s : Cursor = need_of m 0x30 c in
      let h : Cursor = choice_of m (enter_of s) in
      let d : Cursor = done_of (any_field m 0xA1 (any_field m 0xA0 h)) in
      let f = found-is (leave_of s d) (leave_of h d) k in
      let ls = left s d f.0 in
      let lh = left h d f.1 in
      let p = need_passes m bytes few 10 0x30 c st (subst NoFault ls.1 f.0) in
      let w = choice_fits (enter_of s) (enter_stands m bytes few p refl) (subst NoFault lh.1 f.1) in
      subst (EntryFits certificate_fits) (sym (f.2 ∙ ap found_span lh.1)) w

  maybe_pair_fits : (c : Cursor) → Stands m bytes few 11 c → NoFault (maybe_key_pair m c) → EntryFits certificate_fits (found_span (maybe_key_pair m c))
  unfolding maybe_key_pair
  maybe_pair_fits c s =
      cond_both (λ (r : Cursor). NoFault r → EntryFits certificate_fits (found_span r)) (eqb (tag_at m c) 0x30)
      (λ q. pair_fits c s) (λ q k. refl)

  status_stands : (c : Cursor) → Stands m bytes few 11 c → NoFault (status_of m c).cur → Stands m bytes few 11 (status_of m c).cur
  unfolding status_of
  status_stands c s = at_leave (Stands m bytes few 11) _ (λ j. (need_passes m bytes few 10 0x30 c s j).after)

  response-item : (c : Cursor) → Stands m bytes few 12 c → NoFault (response_of m c).cur
      → Stands m bytes few 12 (response_of m c).cur × EntryFits certificate_fits (response_of m c).entry.certificate
  unfolding response_of
  response-item c st k =
      let s : Cursor = need_of m 0x30 c in
      let n : Cursor = small_integer_of m (enter_of s) in
      let i : Cursor = (status_of m n).cur in
      let q : Cursor = maybe_key_pair m i in
      let x : Cursor = maybe_of m 0x04 q in
      let l = left s (done_of x) k in
      let kq : NoFault q = (maybe_steps m 0x04 q (ended x l.0).0).along.ok in
      let ki : NoFault i = (maybe_pair_steps m i kq).along.ok in
      let kn : NoFault n = (status-takes m n ki).along.ok in
      let p = need_passes m bytes few 11 0x30 c st (subst NoFault l.1 k) in
      let sn = small_stands m bytes few 10 (enter_of s) (enter_stands m bytes few p refl) kn in (
        subst (Stands m bytes few 12) (sym l.1) p.after,
        maybe_pair_fits i (status_stands n sn ki) kq,
      )

  pub responses_fit : (c : Cursor) → Stands m bytes few 14 c → NoFault (responses_of m c).cur
      → EntryFits certificate_fits (responses_of m c).entry.certificate
  unfolding responses_of entry_of sequence_field
  responses_fit c st k =
      let s : Cursor = need_of m 0x30 c in
      let a : Cursor = sequence_field m 0xA1 Certificate (enter_of s) in
      let q : Cursor = need_of m 0x30 a in
      let e : Entries = entries_of m of.Response (enter_of q) in
      let l = left s (done_of (leave_of q e.cur)) k in
      let lq = left q e.cur (ended (leave_of q e.cur) l.0).0 in
      let kq : NoFault q = subst NoFault lq.1 (ended (leave_of q e.cur) l.0).0 in
      let ka : NoFault a = (need_takes m 0x30 a kq).along.ok in
      let p = need_passes m bytes few 13 0x30 c st (subst NoFault l.1 k) in
      let sa =
      optional-fits m bytes few 12 0xA1 (sequence_of m Certificate) (λ x. true) (enter_of s) refl (λ i x h j w. refl)
      (enter_stands m bytes few p refl) ka in
      let pq = need_passes m bytes few 12 0x30 a sa.0 kq in
      entries_fit 12 of.Response certificate_fits (λ (x : Entry). x.certificate) refl response-item (enter_of q)
      (enter_stands m bytes few pq refl) lq.0

  -- ## The protection

  -- [0] around a BIT STRING
  pub record Protects (e : List ℕ) : Type 0 where
    pub content : List ℕ
    pub is : e ≡ element 0xA0 (element 0x03 content ++ [])
    pub bits : bit_string_ok content ≡ true

  nothing : {X : Type 0} (e : List ℕ) → ◌≡◌ {A = Option (List ℕ)} none (some e) → X
  nothing e q = absurd (true≢false (ap is_absent q))

  -- what a span shows, if it shows something
  shown_by : (s : Span) (P : List ℕ → Type 0) (e : List ℕ) → P (part_of m s) → optional_part m s ≡ some e → P e
  shown_by s P e p =
      cond-case (λ (o : Option (List ℕ)). o ≡ some e → P e) (is_present s)
      (λ q. let same : part_of m s ≡ e = cc q in subst P same p) (nothing e)

  protection_in : (c r : Cursor) → Stands m bytes few 15 c → r.at ≡ (need_of m 0xA0 c).at → NoFault (need_of m 0xA0 c)
      → NoFault (done_of (need_of m 0x03 (enter_of (need_of m 0xA0 c)))) → (e : List ℕ) → optional_part m (outer_span c r) ≡ some e → Protects e
  protection_in c r s at ko ki e =
      let o : Cursor = need_of m 0xA0 c in
      let p = need_passes m bytes few 14 0xA0 c s ko in
      let b = bits_here m bytes few (enter_of o) p.content p.into ki (good_below p.good refl) in
      let is : part_of m (whole_span c r) ≡ element 0xA0 (element 0x03 b.0 ++ []) =
      ap (λ (j : ℕ). part_of m (span_from c.at j)) at ∙ p.whole
      ∙ ap (element 0xA0) (b.1 ∙ sym (append-nil (element 0x03 b.0))) in
      cond-case (λ (z : Span). optional_part m z ≡ some e → Protects e) (eqb r.from 0) (nothing e)
      (shown_by (whole_span c r) Protects e (record { content = b.0; is = is; bits = b.2 }))

  protection-fits : (c : Cursor) → Stands m bytes few 15 c → NoFault (field_of m 0xA0 0x03 c) → (e : List ℕ)
      → optional_part m (outer_span c (field_of m 0xA0 0x03 c)) ≡ some e → Protects e
  unfolding field_of
  protection-fits c s k e =
      let o : Cursor = need_of m 0xA0 c in
      let i : Cursor = done_of (need_of m 0x03 (enter_of o)) in
      cond_both (λ (r : Cursor). NoFault r → optional_part m (outer_span c r) ≡ some e → Protects e) (eqb (tag_at m c) 0xA0)
      (λ q j. let f = found-is o i j in protection_in c (found_of o i) s f.3 f.0 f.1 e)
      (λ q j. nothing e) k

  -- ## The body

  constructed-tag : (t : ℕ) → 0xA0 ≤ t → t ≤ 0xBA → constructed t ≡ true
  constructed-tag t h k = eq-eqb (t / 32 % 2) 1 (omega arith)

  tag_passes : (c : Cursor) → Stands m bytes few 15 c → NoFault (body_tag m c)
      → Passes m bytes few 14 (tag_at m c) c (body_tag m c) × (constructed (tag_at m c) ≡ true)
  unfolding body_tag
  tag_passes c s =
      let t : ℕ = tag_at m c in
      cond_both (λ (r : Cursor). NoFault r → Passes m bytes few 14 t c r × (constructed t ≡ true)) (ltb t 0xA0 || ltb 0xBA t)
      (λ q. untrue)
      (λ q k. (
        need_passes m bytes few 14 t c s k,
        constructed-tag t (ltb-false t 0xA0 (or_false_left _ (ltb 0xBA t) q)) (ltb-false 0xBA t (or_false_right (ltb t 0xA0) _ q)),
      ))

  -- an entry is what the kind's rule found, before whole elements with 14 levels left
  pub record BodyWalked (k : ℕ) (e : Entry) : Type 0 where
    pub at : Cursor
    pub stands : Stands m bytes few 14 at
    pub ok : NoFault (contents_of m k at).cur
    pub is : e ≡ (contents_of m k at).entry

  body_walked : (c : Cursor) → Stands m bytes few 15 c → NoFault (body_of m c).cur
      → Stands m bytes few 15 (body_of m c).cur × BodyWalked (body_of m c).body.kind (body_of m c).body.entry
  unfolding body_of
  body_walked c s k =
      let b : Cursor = body_tag m c in
      let i : Cursor = (contents_of m (tag_at m c - 0xA0) (enter_of b)).cur in
      let l = left b (done_of i) k in
      let t = tag_passes c s (subst NoFault l.1 k) in (
        subst (Stands m bytes few 15) (sym l.1) t.0.after,
        record { at = enter_of b; stands = enter_stands m bytes few t.0 t.1; ok = (ended i l.0).0; is = refl },
      )

  -- ## The message

  pub record MessageWalked (f : Message) : Type 0 where
    pub header : HeaderFits m bytes few f.header
    pub body : BodyWalked f.body.kind f.body.entry
    pub protection : (e : List ℕ) → optional_part m f.protection ≡ some e → Protects e

  -- WALKED: where the grammar is met by whole elements, each part that was found passes its test
  pub message_walked : SoundAt 16 m → (message_of m).met ≡ true → MessageWalked (message_of m).found
  unfolding message_of
  message_walked sound k =
      let c₀ : Cursor = start_at (length m) in
      let s : Cursor = need_of m 0x30 c₀ in
      let c : Cursor = enter_of s in
      let h : Cursor = (header_of m c).cur in
      let b : Cursor = (body_of m h).cur in
      let p : Cursor = field_of m 0xA0 0x03 b in
      let x : Cursor = sequence_field m 0xA1 Certificate p in
      let o = ended (leave_of s (done_of x)) k in
      let l = left s (done_of x) o.0 in
      let kp : NoFault p = (sequence_field_steps m 0xA1 Certificate p (ended x l.0).0).along.ok in
      let kb : NoFault b = (field_steps m 0xA0 0x03 b kp).along.ok in
      let kh : NoFault h = (body-takes m h kb).along.ok in
      let start : Stands m bytes few 16 c₀ = record { left = m; holds = start-holds m; sound = sound } in
      let t = need_passes m bytes few 15 0x30 c₀ start (subst NoFault l.1 o.0) in
      let header = header-fits m bytes few c (enter_stands m bytes few t refl) kh in
      let body = body_walked h header.0 kb in
      record { header = header.1; body = body.1; protection = protection-fits b body.0 kp }
