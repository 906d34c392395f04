-- Where the body's rules go: caPubs and the only entry's spans lie in the bytes of the body.
use Prim.Native.Nat.{ℕ, ◌-◌, ◌≤◌}
use mathlib.Core.Path.{ap}
use mathlib.Core.List.{List}
use mathlib.Core.Bool.{◌||◌}
use native.Mathlib.Omega.{arith}
use lib.Dec.{ltb, eqb}
use Rattle.der.proofs.HeadLaws.{cond-case}
use Rattle.grammar.specs.declared.Body.{Body}
use Rattle.grammar.specs.declared.cursor.Cursor.{Cursor}
use Rattle.grammar.specs.declared.parts.Each.TheVariants.{Certificate}
use Rattle.grammar.specs.declared.entries.Entries.{Entries}
use Rattle.grammar.specs.declared.entries.EntryKind.{EntryKind}
use Rattle.grammar.specs.declared.entries.EntryKind.TheVariants as of
use Rattle.grammar.specs.declared.pki_body.Contents.{Contents}
use Rattle.grammar.specs.Cursor.{tag_at, need_of, any_of, done_of, enter_of, leave_of}
use Rattle.grammar.specs.Parts.{sequence_field}
use Rattle.grammar.specs.Entries.{entries_of, only_of}
use Rattle.grammar.specs.Body.{at_least_one, requests_of, responses_of, confirmations_of, error_of, plain, p10cr_of, other_of, contents_of, body_tag, body_of}
use Rattle.grammar.proofs.CursorLaws.{untrue}
use Rattle.grammar.proofs.Places.{NoFault, wide, Went, Took, Takes, ◌then◌, need_takes, any-takes, ended, left, at_leave, Nest, nest}
use Rattle.grammar.proofs.PartPlaces.{Between, no_span_lem, whole_span_lem, found_span_lem, sequence_field_steps}
use Rattle.grammar.proofs.EntryPlaces.{EntryIn, no_entry_lem, entry_wide, entries_in, only_in_lem}

-- what a body holds: one element, and its spans absent or in that element's bytes
pub record ContentsIn (c : Cursor) (k : Contents) : Type 0 where
  pub took : Took c k.cur
  pub pubs : Between c.at k.cur.at k.ca_pubs
  pub entry : EntryIn c.at k.cur.at k.entry

abbrev pub Holds : Cursor → Contents → Type 0
Holds c k = NoFault k.cur → ContentsIn c k

-- all that an element holds lies in the bytes of the element
in_element : {c s x : Cursor} (i : Cursor) (o : NoFault (leave_of s i)) → Nest c s x → (c.at ≤ s.from) × (s.to ≤ (leave_of s i).at)
in_element {c} {s} i o v = omega (arith, v.took, ap (λ (j : Cursor). j.at) (left s i o).1)

-- a SEQUENCE of entries, and nothing else
entries_hold : (m : List ℕ) (what : EntryKind) (c i : Cursor) → (NoFault i → NoFault (entries_of m what (enter_of (need_of m 0x30 c))).cur) → NoFault (leave_of (need_of m 0x30 c) i) → EntryIn c.at (leave_of (need_of m 0x30 c) i).at (only_of (entries_of m what (enter_of (need_of m 0x30 c))))
entries_hold m what c i f k =
    let s : Cursor = need_of m 0x30 c in
    let w = entries_in m what (enter_of s) (f (left s i k).0) in
    let v : Nest c s (entries_of m what (enter_of s)).cur = nest (need_takes m 0x30 c) w.along in
    let b = in_element i k v in
    entry_wide (omega (arith, v.start)) (omega (arith, v.to)) (only_in_lem w)

at_least_one_lem : (e : Entries) → NoFault (at_least_one e) → NoFault e.cur
unfolding at_least_one
at_least_one_lem e = cond-case (λ (c : Cursor). NoFault c → NoFault e.cur) (eqb e.count 0) untrue (λ k. k)

requests_hold : (m : List ℕ) (c : Cursor) → Holds c (requests_of m c)
unfolding requests_of
requests_hold m c k =
    let e : Entries = entries_of m of.Request (enter_of (need_of m 0x30 c)) in
    record { took = at_leave (Took c) _ (need_takes m 0x30 c) k; pubs = no_span_lem; entry = entries_hold m of.Request c (at_least_one e) (at_least_one_lem e) k }

confirmations_hold : (m : List ℕ) (c : Cursor) → Holds c (confirmations_of m c)
unfolding confirmations_of
confirmations_hold m c k =
    record { took = at_leave (Took c) _ (need_takes m 0x30 c) k; pubs = no_span_lem; entry = entries_hold m of.Status c _ (λ o. o) k }

responses_hold : (m : List ℕ) (c : Cursor) → Holds c (responses_of m c)
unfolding responses_of
responses_hold m c k =
    let s : Cursor = need_of m 0x30 c in
    let a : Cursor = sequence_field m 0xA1 Certificate (enter_of s) in
    let q : Cursor = need_of m 0x30 a in
    let e : Entries = entries_of m of.Response (enter_of q) in
    let x : Cursor = leave_of q e.cur in
    let l = left s (done_of x) k in
    let kx : NoFault x = (ended x l.0).0 in
    let tq : Took a x = at_leave (Took a) e.cur (need_takes m 0x30 a) kx in
    let wa : Went (enter_of s) a = sequence_field_steps m 0xA1 Certificate (enter_of s) tq.along.ok in
    let v : Nest c s x = nest (need_takes m 0x30 c) (wa.along then tq.along) in
    let b = in_element (done_of x) k v in
    let low : c.at ≤ (enter_of s).at = omega (arith, v.start) in
    let high : x.at ≤ (leave_of s (done_of x)).at = omega (arith, v.to) in
    record {
      took = at_leave (Took c) _ (need_takes m 0x30 c) k;
      pubs = found_span_lem (omega arith) (omega (arith, tq.along.on)) wa;
      entry = entry_wide (omega (arith, wa.along.on)) high (entries_hold m of.Response a e.cur (λ o. o) kx);
    }

error_holds : (m : List ℕ) (c : Cursor) → Holds c (error_of m c)
unfolding error_of
error_holds m c k =
    record { took = at_leave (Took c) _ (need_takes m 0x30 c) k; pubs = no_span_lem; entry = record { cert_hash = no_span_lem; hash_alg = no_span_lem; certificate = no_span_lem; request = no_span_lem } }

plain-holds : {c r : Cursor} → Takes c r → Holds c (plain r)
plain-holds f k = record { took = f k; pubs = no_span_lem; entry = no_entry_lem }

p10cr-holds : (m : List ℕ) (c : Cursor) → Holds c (p10cr_of m c)
unfolding p10cr_of
p10cr-holds m c k =
    let t : Took c (any_of m c) = any-takes m c k in
    record { took = t; pubs = no_span_lem; entry = record { cert_hash = no_span_lem; hash_alg = no_span_lem; certificate = no_span_lem; request = whole_span_lem (omega arith) t.along.on (omega arith) } }

other_holds : (m : List ℕ) (kind : ℕ) (c : Cursor) → Holds c (other_of m kind c)
unfolding other_of
other_holds m kind c =
    cond-case (Holds c) (eqb kind 4) (p10cr-holds m c) (cond-case (Holds c) (eqb kind 19) (plain-holds (need_takes m 0x05 c)) (plain-holds (any-takes m c)))

pub contents_hold : (m : List ℕ) (kind : ℕ) (c : Cursor) → Holds c (contents_of m kind c)
unfolding contents_of
contents_hold m kind c =
    let P : Contents → Type 0 = Holds c in
    let requests : P (requests_of m c) = requests_hold m c in
    let responses : P (responses_of m c) = responses_hold m c in
    cond-case P (eqb kind 0) requests
    (cond-case P (eqb kind 1) responses
    (cond-case P (eqb kind 2) requests
    (cond-case P (eqb kind 3) responses
    (cond-case P (eqb kind 7) requests
    (cond-case P (eqb kind 8) responses
    (cond-case P (eqb kind 23) (error_holds m c)
    (cond-case P (eqb kind 24) (confirmations_hold m c) (other_holds m kind c))))))))

-- ## The whole body

pub tag-takes : (m : List ℕ) (c : Cursor) → Takes c (body_tag m c)
unfolding body_tag
tag-takes m c = cond-case (Takes c) (ltb (tag_at m c) 0xA0 || ltb 0xBA (tag_at m c)) untrue (need_takes m (tag_at m c) c)

pub body-takes : (m : List ℕ) (c : Cursor) → Takes c (body_of m c).cur
unfolding body_of
body-takes m c = at_leave (Took c) _ (tag-takes m c)

-- the spans of a body, each absent or between a and b
pub record BodyIn (a b : ℕ) (k : Body) : Type 0 where
  pub pubs : Between a b k.ca_pubs
  pub entry : EntryIn a b k.entry

-- every span of a body lies in the bytes of its element
pub body_in : (m : List ℕ) (c : Cursor) → NoFault (body_of m c).cur → BodyIn c.at (body_of m c).cur.at (body_of m c).body
unfolding body_of
body_in m c k =
    let t : Cursor = body_tag m c in
    let i : Contents = contents_of m (tag_at m c - 0xA0) (enter_of t) in
    let l = left t (done_of i.cur) k in
    let w : ContentsIn (enter_of t) i = contents_hold m (tag_at m c - 0xA0) (enter_of t) (ended i.cur l.0).0 in
    let v : Nest c t i.cur = nest (tag-takes m c) w.took.along in
    let b = in_element (done_of i.cur) k v in
    let low : c.at ≤ (enter_of t).at = omega (arith, v.start) in
    let high : i.cur.at ≤ (leave_of t (done_of i.cur)).at = omega (arith, v.to) in
    record { pubs = wide low high w.pubs; entry = entry_wide low high w.entry }
