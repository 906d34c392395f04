-- PKIMessage by its grammar (document 01, "The parts of a message"; RFC 9810 5.1).
use Rattle.std.specs.Prelude.{ℕ, List, length}
use Rattle.grammar.specs.declared.cursor.Cursor.{Cursor}
use Rattle.grammar.specs.declared.parts.Each.TheVariants.{Certificate}
use Rattle.grammar.specs.declared.pki_header.HeaderRead.{HeaderRead}
use Rattle.grammar.specs.declared.pki_body.BodyRead.{BodyRead}
use Rattle.grammar.specs.declared.pki_message.MessageRead.{MessageRead}
use Rattle.grammar.specs.Cursor.{is_ok, need_of, done_of, enter_of, leave_of}
use Rattle.grammar.specs.Parts.{whole_span, outer_span, field_of, sequence_field}
use Rattle.grammar.specs.Header.{header_of}
use Rattle.grammar.specs.Body.{body_of}

-- at the message's first byte
unfoldable pub start_at : ℕ → Cursor
start_at end = record { at = 0; end = end; from = 0; to = 0; rule = 0 }

-- PKIMessage ::= SEQUENCE of header, body, optional protection [0] BIT STRING, optional extraCerts [1] SEQUENCE of one or more
-- certificates. Nothing after it.
unfoldable pub message_of : List ℕ → MessageRead
message_of m =
    let s : Cursor = need_of m 0x30 (start_at (length m)) in
    let c : Cursor = enter_of s in
    let h : HeaderRead = header_of m c in
    let b : BodyRead = body_of m h.cur in
    let p : Cursor = field_of m 0xA0 0x03 b.cur in
    let x : Cursor = sequence_field m 0xA1 Certificate p in
    let e : Cursor = done_of (leave_of s (done_of x)) in
    record {
      met = is_ok e;
      at = record { 0 = e.at };
      found =
          record {
            header_span = whole_span c h.cur;
            body_span = whole_span h.cur b.cur;
            protection = outer_span b.cur p;
            extra_certs = outer_span p x;
            header = h.header;
            body = b.body;
          };
    }
