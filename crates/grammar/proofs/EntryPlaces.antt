-- Where a body's entries go: each of an entry's four spans lies in the bytes of the entry.
use Prim.Native.Nat.{ℕ, ◌≤◌}
use mathlib.Core.Path.{◌≡◌, ap, subst}
use mathlib.Core.List.{List}
use native.Mathlib.Omega.{arith}
use lib.Dec.{eqb}
use Rattle.der.proofs.HeadLaws.{cond-case}
use Rattle.grammar.specs.declared.Entry.{Entry}
use Rattle.grammar.specs.declared.cursor.Cursor.{Cursor}
use Rattle.grammar.specs.declared.entries.Item.{Item}
use Rattle.grammar.specs.declared.entries.Entries.{Entries}
use Rattle.grammar.specs.declared.entries.EntryKind.{EntryKind}
use Rattle.grammar.specs.declared.entries.EntryKind.TheVariants as of
use Rattle.grammar.specs.Cursor.{tag_at, need_of, any_of, none_of, maybe_of, done_of, enter_of, leave_of, small_integer_of, left_at}
use Rattle.grammar.specs.Parts.{any_field, typed_field, status_of, maybe_status}
use Rattle.grammar.specs.Entries.{no_entry, request_of, choice_of, key_pair, maybe_key_pair, response_of, cert_status_of, entry_of, no_entries, next, entries_of, only_of}
use Rattle.grammar.proofs.Places.{NoFault, wide, On, Went, Took, Steps, Takes, still, ◌then◌, took_went, steps, need_takes, none_steps, maybe_steps, small-takes, ended, left, at_leave, Nest, nest, found_steps, repeat_keeps, Placed, took_kept}
use Rattle.grammar.proofs.PartPlaces.{Between, no_span_lem, whole_span_lem, found_span_lem, status-takes, maybe_status_goes, typed_field_steps}

-- ## What a response may hold

pub choice_steps : (m : List ℕ) (c : Cursor) → Steps c (choice_of m c)
unfolding choice_of
choice_steps m c =
    cond-case (Steps c) (eqb (tag_at m c) 0xA0) (steps (at_leave (Took c) _ (need_takes m 0xA0 c)))
    (λ k. let e : Cursor = leave_of (need_of m 0xA1 c) (done_of (any_of m (enter_of (need_of m 0xA1 c)))) in
    let t : Took c e = at_leave (Took c) _ (need_takes m 0xA1 c) k in
    let w : Went e (none_of e) = none_steps e k in
    record { along = t.along then w.along; span = wide (omega arith) (omega arith) w.span })

pub pair_steps : (m : List ℕ) (c : Cursor) → Steps c (key_pair m c)
unfolding key_pair
pair_steps m c =
    let s : Cursor = need_of m 0x30 c in
    let k : Cursor = choice_of m (enter_of s) in
    let d : Cursor = done_of (any_field m 0xA1 (any_field m 0xA0 k)) in
    found_steps {s = s} (at_leave (Took c) d (need_takes m 0x30 c)) (λ o. (left s d o).1) (at_leave (Went (enter_of s)) d (choice_steps m (enter_of s)))

pub maybe_pair_steps : (m : List ℕ) (c : Cursor) → Steps c (maybe_key_pair m c)
unfolding maybe_key_pair
maybe_pair_steps m c = cond-case (Steps c) (eqb (tag_at m c) 0x30) (pair_steps m c) (none_steps c)

-- ## An entry

-- the four spans of an entry, each absent or between a and b
pub record EntryIn (a b : ℕ) (e : Entry) : Type 0 where
  pub cert_hash : Between a b e.cert_hash
  pub hash_alg : Between a b e.hash_alg
  pub certificate : Between a b e.certificate
  pub request : Between a b e.request

pub no_entry_lem : {a b : ℕ} → EntryIn a b no_entry
no_entry_lem = record { cert_hash = no_span_lem; hash_alg = no_span_lem; certificate = no_span_lem; request = no_span_lem }

pub entry_wide : {a b a' b' : ℕ} {e : Entry} → a' ≤ a → b ≤ b' → EntryIn a b e → EntryIn a' b' e
entry_wide h k w = record { cert_hash = wide h k w.cert_hash; hash_alg = wide h k w.hash_alg; certificate = wide h k w.certificate; request = wide h k w.request }

pub entry_takes : (m : List ℕ) (what : EntryKind) (c : Cursor) → Takes c (entry_of m what c).cur
unfolding entry_of request_of response_of cert_status_of
entry_takes m of.Request c = at_leave (Took c) _ (need_takes m 0x30 c)
entry_takes m of.Response c = at_leave (Took c) _ (need_takes m 0x30 c)
entry_takes m of.Status c = at_leave (Took c) _ (need_takes m 0x30 c)

-- every span of an entry lies in the bytes of its element
abbrev pub ItemIn : Cursor → Item → Type 0
ItemIn c i = NoFault i.cur → EntryIn c.at i.cur.at i.entry

request_in : (m : List ℕ) (c : Cursor) → ItemIn c (request_of m c)
unfolding request_of
request_in m c k =
    let s : Cursor = need_of m 0x30 c in
    let l = left s (leave_of (need_of m 0x30 (enter_of s)) (small_integer_of m (enter_of (need_of m 0x30 (enter_of s))))) k in
    let t : Took c s = need_takes m 0x30 c (subst NoFault l.1 k) in
    record { cert_hash = no_span_lem; hash_alg = no_span_lem; certificate = no_span_lem; request = whole_span_lem (omega arith) t.along.on (omega (arith, ap (λ (j : Cursor). j.at) l.1)) }

response_in : (m : List ℕ) (c : Cursor) → ItemIn c (response_of m c)
unfolding response_of
response_in m c k =
    let s : Cursor = need_of m 0x30 c in
    let n : Cursor = small_integer_of m (enter_of s) in
    let i : Cursor = (status_of m n).cur in
    let q : Cursor = maybe_key_pair m i in
    let x : Cursor = maybe_of m 0x04 q in
    let l = left s (done_of x) k in
    let wx : Went q x = maybe_steps m 0x04 q (ended x l.0).0 in
    let wq : Went i q = maybe_pair_steps m i wx.along.ok in
    let ti : Took n i = status-takes m n wq.along.ok in
    let tn : Took (enter_of s) n = small-takes m (enter_of s) ti.along.ok in
    let b : (leave_of s (done_of x)).at ≡ s.at = ap (λ (j : Cursor). j.at) l.1 in
    let v : Nest c s x = nest (need_takes m 0x30 c) (tn.along then ti.along then wq.along then wx.along) in
    let low : c.at ≤ i.at = omega (arith, v.start, v.took.low, tn.along.on, ti.along.on) in
    let high : q.at ≤ (leave_of s (done_of x)).at = omega (arith, wx.along.on, v.to, v.took.high, b) in
    record { cert_hash = no_span_lem; hash_alg = no_span_lem; certificate = found_span_lem (omega arith) high wq; request = no_span_lem }

status_in : (m : List ℕ) (c : Cursor) → ItemIn c (cert_status_of m c)
unfolding cert_status_of
status_in m c k =
    let s : Cursor = need_of m 0x30 c in
    let h : Cursor = need_of m 0x04 (enter_of s) in
    let n : Cursor = small_integer_of m h in
    let i : Cursor = (maybe_status m n).cur in
    let a : Cursor = typed_field m 0xA0 i in
    let l = left s (done_of a) k in
    let wa : Went i a = typed_field_steps m 0xA0 i (ended a l.0).0 in
    let wi : On n i = maybe_status_goes m n wa.along.ok in
    let tn : Took h n = small-takes m h wi.ok in
    let th : Took (enter_of s) h = need_takes m 0x04 (enter_of s) tn.along.ok in
    let b : (leave_of s (done_of a)).at ≡ s.at = ap (λ (j : Cursor). j.at) l.1 in
    let v : Nest c s a = nest (need_takes m 0x30 c) (th.along then tn.along then wi then wa.along) in
    let low : c.at ≤ (enter_of s).at = omega (arith, v.start, v.took.low) in
    let upto : h.at ≤ i.at = omega (arith, tn.along.on, wi.on) in
    let high : a.at ≤ (leave_of s (done_of a)).at = omega (arith, v.to, v.took.high, b) in
    record {
      cert_hash = found_span_lem (omega arith) (omega (arith, wa.along.on)) (took_went th);
      hash_alg = found_span_lem (omega (arith, th.along.on)) high wa;
      certificate = no_span_lem;
      request = no_span_lem;
    }

pub entry_in : (m : List ℕ) (what : EntryKind) (c : Cursor) → ItemIn c (entry_of m what c)
unfolding entry_of
entry_in m of.Request c = request_in m c
entry_in m of.Response c = response_in m c
entry_in m of.Status c = status_in m c

-- ## Entries one after another

pub record EntriesIn (c : Cursor) (e : Entries) : Type 0 where
  pub along : On c e.cur
  pub last : EntryIn c.at e.cur.at e.last

next_in : (m : List ℕ) (what : EntryKind) (c : Cursor) (e : Entries) → (NoFault e.cur → EntriesIn c e) → NoFault (next m what e).cur → EntriesIn c (next m what e)
next_in m what c e f k =
    let t : Took e.cur (next m what e).cur = entry_takes m what e.cur k in
    let w = f t.along.ok in
    record { along = w.along then t.along; last = entry_wide w.along.on (omega arith) (entry_in m what e.cur k) }

pub entries_in : (m : List ℕ) (what : EntryKind) (c : Cursor) → NoFault (entries_of m what c).cur → EntriesIn c (entries_of m what c)
unfolding entries_of
entries_in m what c =
    repeat_keeps (λ (e : Entries). e.cur) (next m what) (λ (e : Entries). NoFault e.cur → EntriesIn c e) (next_in m what c) (left_at c) (no_entries c)
    (λ k. record { along = still k; last = no_entry_lem })

pub entries_kept : {n : ℕ} (m : List ℕ) (what : EntryKind) (c : Cursor) → Placed n c → Placed n (entries_of m what c).cur
unfolding entries_of
entries_kept {n} m what c =
    repeat_keeps (λ (e : Entries). e.cur) (next m what) (λ (e : Entries). Placed n e.cur) (λ e. took_kept (entry_takes m what e.cur)) (left_at c) (no_entries c)

pub only_in_lem : {c : Cursor} {e : Entries} → EntriesIn c e → EntryIn c.at e.cur.at (only_of e)
only_in_lem {c} {e} w = cond-case (EntryIn c.at e.cur.at) (eqb e.count 1) w.last no_entry_lem
