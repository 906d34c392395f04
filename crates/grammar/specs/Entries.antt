-- The entries of a body (document 01, "The parts of a message"; RFC 9810 5.3.4, 5.3.18 and RFC 4211 for CertReqMsg).
use Rattle.std.specs.Prelude.{ℕ, ◌+◌, List, false, cond, eqb, None}
use Rattle.grammar.specs.declared.Span.{Span}
use Rattle.grammar.specs.declared.Entry.{Entry}
use Rattle.grammar.specs.declared.cursor.Cursor.{Cursor}
use Rattle.grammar.specs.declared.parts.Status.{Status}
use Rattle.grammar.specs.declared.entries.Item.{Item}
use Rattle.grammar.specs.declared.entries.Entries.{Entries}
use Rattle.grammar.specs.declared.entries.EntryKind.{EntryKind}
use Rattle.grammar.specs.declared.entries.EntryKind.TheVariants as of
use Rattle.grammar.specs.Cursor.{tag_at, need_of, any_of, none_of, maybe_of, done_of, enter_of, leave_of, value_of, small_integer_of, left_at, repeat}
use Rattle.grammar.specs.Span.{no_span}
use Rattle.grammar.specs.Parts.{found_span, whole_span, found_of, any_field, typed_field, status_of, maybe_status}

abbrev pub no_entry : Entry
no_entry = record { number = 0; status = None; cert_hash = no_span; hash_alg = no_span; certificate = no_span; request = no_span }

-- Each of these sets a part of an entry and leaves the others: certReqId; the status; the hash and its algorithm; the certificate; the request.
abbrev pub with_number : ℕ → Entry → Entry
with_number n e = record { number = n; status = e.status; cert_hash = e.cert_hash; hash_alg = e.hash_alg; certificate = e.certificate; request = e.request }

abbrev pub with_status : Status → Entry → Entry
with_status i e = record { number = e.number; status = i.status; cert_hash = e.cert_hash; hash_alg = e.hash_alg; certificate = e.certificate; request = e.request }

abbrev pub with_hash : Span → Span → Entry → Entry
with_hash h a e = record { number = e.number; status = e.status; cert_hash = h; hash_alg = a; certificate = e.certificate; request = e.request }

abbrev pub with_certificate : Span → Entry → Entry
with_certificate s e = record { number = e.number; status = e.status; cert_hash = e.cert_hash; hash_alg = e.hash_alg; certificate = s; request = e.request }

abbrev pub with_request : Span → Entry → Entry
with_request s e = record { number = e.number; status = e.status; cert_hash = e.cert_hash; hash_alg = e.hash_alg; certificate = e.certificate; request = s }

-- A request message: a SEQUENCE that begins with a SEQUENCE that begins with INTEGER certReqId; the rest generic.
unfoldable pub request_of : List ℕ → Cursor → Item
request_of m c =
    let s : Cursor = need_of m 0x30 c in
    let q : Cursor = need_of m 0x30 (enter_of s) in
    let n : Cursor = small_integer_of m (enter_of q) in
    record {
      cur = leave_of s (leave_of q n);
      entry = with_request (whole_span c s) (with_number (value_of m n) no_entry);
    }

-- CertOrEncCert: [0] one certificate or [1] one element. The span is the plain certificate, or none.
unfoldable pub choice_of : List ℕ → Cursor → Cursor
choice_of m c =
    let plain : Cursor = need_of m 0xA0 c in
    let encrypted : Cursor = need_of m 0xA1 c in
    cond (eqb (tag_at m c) 0xA0)
    (leave_of plain (done_of (need_of m 0x30 (enter_of plain))))
    (none_of (leave_of encrypted (done_of (any_of m (enter_of encrypted)))))

-- CertifiedKeyPair: SEQUENCE of CertOrEncCert, then optional [0], [1], one generic element inside each
unfoldable pub key_pair : List ℕ → Cursor → Cursor
key_pair m c =
    let s : Cursor = need_of m 0x30 c in
    let k : Cursor = choice_of m (enter_of s) in
    let d : Cursor = done_of (any_field m 0xA1 (any_field m 0xA0 k)) in
    found_of (leave_of s d) (leave_of k d)

unfoldable pub maybe_key_pair : List ℕ → Cursor → Cursor
maybe_key_pair m c = cond (eqb (tag_at m c) 0x30) (key_pair m c) (none_of c)

-- CertResponse: certReqId, status info, optional key pair, optional OCTET STRING
unfoldable pub response_of : List ℕ → Cursor → Item
response_of m c =
    let s : Cursor = need_of m 0x30 c in
    let n : Cursor = small_integer_of m (enter_of s) in
    let i : Status = status_of m n in
    let k : Cursor = maybe_key_pair m i.cur in
    record {
      cur = leave_of s (done_of (maybe_of m 0x04 k));
      entry = with_certificate (found_span k) (with_status i (with_number (value_of m n) no_entry));
    }

-- CertStatus: OCTET STRING certHash, INTEGER certReqId, optional status info, optional [0] AlgorithmIdentifier hashAlg
unfoldable pub cert_status_of : List ℕ → Cursor → Item
cert_status_of m c =
    let s : Cursor = need_of m 0x30 c in
    let h : Cursor = need_of m 0x04 (enter_of s) in
    let n : Cursor = small_integer_of m h in
    let i : Status = maybe_status m n in
    let a : Cursor = typed_field m 0xA0 i.cur in
    record {
      cur = leave_of s (done_of a);
      entry = with_hash (found_span h) (found_span a) (with_status i (with_number (value_of m n) no_entry));
    }

unfoldable pub entry_of : List ℕ → EntryKind → Cursor → Item
entry_of m of.Request c = request_of m c
entry_of m of.Response c = response_of m c
entry_of m of.Status c = cert_status_of m c

-- none yet
abbrev pub no_entries : Cursor → Entries
no_entries c = record { cur = c; count = 0; last = no_entry }

-- one entry more
abbrev pub next : List ℕ → EntryKind → Entries → Entries
next m what e = let i : Item = entry_of m what e.cur in record { cur = i.cur; count = e.count + 1; last = i.entry }

-- entries one after another up to the parent's end
unfoldable pub entries_of : List ℕ → EntryKind → Cursor → Entries
entries_of m what c = repeat (λ (e : Entries). e.cur) (next m what) (left_at c) (no_entries c)

-- an entry is looked at only where there is just one
abbrev pub only_of : Entries → Entry
only_of e = cond (eqb e.count 1) e.last no_entry
