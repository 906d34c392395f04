-- PKIBody (document 01, "The parts of a message"; RFC 9810 5.1.2, 5.3): a context tag 0 to 26, constructed, one element inside.
use Rattle.std.specs.Prelude.{ℕ, ◌-◌, List, cond, ◌||◌, ltb, eqb}
use Rattle.grammar.specs.declared.Span.{Span}
use Rattle.grammar.specs.declared.cursor.Cursor.{Cursor}
use Rattle.grammar.specs.declared.parts.Each.TheVariants.{Certificate}
use Rattle.grammar.specs.declared.parts.Status.{Status}
use Rattle.grammar.specs.declared.entries.Entries.{Entries}
use Rattle.grammar.specs.declared.entries.EntryKind.TheVariants as of
use Rattle.grammar.specs.declared.pki_body.Contents.{Contents}
use Rattle.grammar.specs.declared.pki_body.BodyRead.{BodyRead}
use Rattle.grammar.specs.Cursor.{tag_at, fault_at, need_of, any_of, maybe_of, done_of, enter_of, leave_of}
use Rattle.grammar.specs.Span.{no_span}
use Rattle.grammar.specs.Parts.{found_span, whole_span, sequence_field, maybe_text, status_of}
use Rattle.grammar.specs.Entries.{no_entry, with_status, with_request, entries_of, only_of}

abbrev pub from_entries : Cursor → Span → Entries → Contents
from_entries c pubs e = record { cur = c; entries = e.count; ca_pubs = pubs; entry = only_of e }

-- with none, one is missing at the parent's end
unfoldable pub at_least_one : Entries → Cursor
at_least_one e = cond (eqb e.count 0) (fault_at e.cur) e.cur

-- 0 ir, 2 cr, 7 kur: SEQUENCE of one or more request messages
unfoldable pub requests_of : List ℕ → Cursor → Contents
requests_of m c =
    let s : Cursor = need_of m 0x30 c in
    let e : Entries = entries_of m of.Request (enter_of s) in
    from_entries (leave_of s (at_least_one e)) no_span e

-- 1 ip, 3 cp, 8 kup: SEQUENCE of optional caPubs [1] SEQUENCE of one or more certificates, then a SEQUENCE of responses
unfoldable pub responses_of : List ℕ → Cursor → Contents
responses_of m c =
    let s : Cursor = need_of m 0x30 c in
    let a : Cursor = sequence_field m 0xA1 Certificate (enter_of s) in
    let q : Cursor = need_of m 0x30 a in
    let e : Entries = entries_of m of.Response (enter_of q) in
    from_entries (leave_of s (done_of (leave_of q e.cur))) (found_span a) e

-- 24 certConf: SEQUENCE of certificate statuses
unfoldable pub confirmations_of : List ℕ → Cursor → Contents
confirmations_of m c =
    let s : Cursor = need_of m 0x30 c in
    let e : Entries = entries_of m of.Status (enter_of s) in
    from_entries (leave_of s e.cur) no_span e

-- 23 error: SEQUENCE of status info, optional INTEGER, optional free text
unfoldable pub error_of : List ℕ → Cursor → Contents
error_of m c =
    let s : Cursor = need_of m 0x30 c in
    let i : Status = status_of m (enter_of s) in
    record {
      cur = leave_of s (done_of (maybe_text m (maybe_of m 0x02 i.cur)));
      entries = 0;
      ca_pubs = no_span;
      entry = with_status i no_entry;
    }

abbrev pub plain : Cursor → Contents
plain c = record { cur = c; entries = 0; ca_pubs = no_span; entry = no_entry }

-- 4 p10cr: one well-formed element, the request
unfoldable pub p10cr_of : List ℕ → Cursor → Contents
p10cr_of m c =
    let e : Cursor = any_of m c in
    record {
      cur = e;
      entries = 0;
      ca_pubs = no_span;
      entry = with_request (whole_span c e) no_entry;
    }

-- 19 pkiconf: NULL. Other kinds: one well-formed element.
unfoldable pub other_of : List ℕ → ℕ → Cursor → Contents
other_of m kind c = cond (eqb kind 4) (p10cr_of m c) (cond (eqb kind 19) (plain (need_of m 0x05 c)) (plain (any_of m c)))

unfoldable pub contents_of : List ℕ → ℕ → Cursor → Contents
contents_of m kind c =
    cond (eqb kind 0) (requests_of m c)
    (cond (eqb kind 1) (responses_of m c)
    (cond (eqb kind 2) (requests_of m c)
    (cond (eqb kind 3) (responses_of m c)
    (cond (eqb kind 7) (requests_of m c)
    (cond (eqb kind 8) (responses_of m c)
    (cond (eqb kind 23) (error_of m c)
    (cond (eqb kind 24) (confirmations_of m c) (other_of m kind c))))))))

unfoldable pub body_tag : List ℕ → Cursor → Cursor
body_tag m c = let t : ℕ = tag_at m c in cond (ltb t 0xA0 || ltb 0xBA t) (fault_at c) (need_of m t c)

-- PKIBody ::= CHOICE, its kind being the number of its tag
unfoldable pub body_of : List ℕ → Cursor → BodyRead
body_of m c =
    let kind : ℕ = tag_at m c - 0xA0 in
    let b : Cursor = body_tag m c in
    let i : Contents = contents_of m kind (enter_of b) in
    record {
      cur = leave_of b (done_of i.cur);
      body = record { kind = kind; entries = i.entries; ca_pubs = i.ca_pubs; entry = i.entry };
    }
