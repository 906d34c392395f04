-- The spans as numbers of a lent array: two for each, its start and its length.
use Rattle.std.specs.Prelude.{ℕ, ◌+◌, ◌*◌, List, get_or}
use Rattle.grammar.specs.declared.Span.{Span}
use Rattle.given.specs.declared.GivenSpans.{GivenSpans}

-- how many numbers there are
abbrev pub given_count : ℕ
given_count = 22

-- the k-th span
abbrev pub span_at : List ℕ → ℕ → Span
span_at s k = record { start = record { 0 = get_or s (2 * k) 0 }; len = get_or s (2 * k + 1) 0 }

abbrev pub spans_of : (version : ℕ) → List ℕ → GivenSpans
spans_of v s =
    record {
      version = v;
      sender = span_at s 0;
      recipient = span_at s 1;
      message_time = span_at s 2;
      protection_alg = span_at s 3;
      sender_kid = span_at s 4;
      recip_kid = span_at s 5;
      free_text = span_at s 6;
      general_info = span_at s 7;
      protection = span_at s 8;
      request = span_at s 9;
      certificate = span_at s 10;
    }
