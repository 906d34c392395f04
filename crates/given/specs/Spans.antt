-- What the caller gives, as spans over bytes that it lends.
use Rattle.std.specs.Prelude.{ℕ, ◌+◌, List, Bool, cond, ◌&&◌, length, leb, eqb}
use Rattle.grammar.specs.declared.Span.{Span}
use Rattle.protocol.specs.Bytes.{bytes_of}
use Rattle.protocol.specs.Message.{optional_part}
use Rattle.encoding.specs.Given.{Given}
use Rattle.given.specs.declared.GivenSpans.{GivenSpans}

-- the parts that the spans name, as much of each as the bytes have; one that starts at 0 is absent, as in a reading
abbrev pub given_of : List ℕ → GivenSpans → Given
given_of src g =
    record {
      version = g.version;
      sender = bytes_of (optional_part src g.sender);
      recipient = bytes_of (optional_part src g.recipient);
      message_time = optional_part src g.message_time;
      protection_alg = optional_part src g.protection_alg;
      sender_kid = optional_part src g.sender_kid;
      recip_kid = optional_part src g.recip_kid;
      free_text = optional_part src g.free_text;
      general_info = optional_part src g.general_info;
      protection = optional_part src g.protection;
      request = optional_part src g.request;
      certificate = optional_part src g.certificate;
    }

-- the span lies in the bytes; an absent one has no length
abbrev pub span_inside : List ℕ → Span → Bool
span_inside src s = cond (eqb s.start.0 0) (eqb s.len 0) (leb (s.start.0 + s.len) (length src))

unfoldable pub header_inside : List ℕ → GivenSpans → Bool
header_inside src g =
    span_inside src g.sender
    && (span_inside src g.recipient
    && (span_inside src g.message_time
    && (span_inside src g.protection_alg
    && (span_inside src g.sender_kid
    && (span_inside src g.recip_kid
    && (span_inside src g.free_text
    && span_inside src g.general_info))))))

-- each of them
unfoldable pub spans_inside : List ℕ → GivenSpans → Bool
spans_inside src g =
    header_inside src g
    && (span_inside src g.protection
    && (span_inside src g.request
    && span_inside src g.certificate))
