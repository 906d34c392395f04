-- The spans in words of their own: each of the eleven is absent, or lies in the lent bytes behind their first.
use Rattle.std.specs.Prelude.{ℕ, ◌+◌, ◌<◌, ◌≤◌, List, true, ◌≡◌, ◌⊎◌, ◌↔◌, length}
use Rattle.grammar.specs.declared.Span.{Span}
use Rattle.given.specs.declared.GivenSpans.{GivenSpans}
use Rattle.given.specs.Spans.{spans_inside}

abbrev pub SpanRight : List ℕ → Span → Type 0
SpanRight src s = ((s.start.0 ≡ 0) × (s.len ≡ 0)) ⊎ ((0 < s.start.0) × (s.start.0 + s.len ≤ length src))

pub record SpansRight (src : List ℕ) (g : GivenSpans) : Type 0 where
  pub sender : SpanRight src g.sender
  pub recipient : SpanRight src g.recipient
  pub message_time : SpanRight src g.message_time
  pub protection_alg : SpanRight src g.protection_alg
  pub sender_kid : SpanRight src g.sender_kid
  pub recip_kid : SpanRight src g.recip_kid
  pub free_text : SpanRight src g.free_text
  pub general_info : SpanRight src g.general_info
  pub protection : SpanRight src g.protection
  pub request : SpanRight src g.request
  pub certificate : SpanRight src g.certificate

abbrev pub InsideExactly : Type 0
InsideExactly = (src : List ℕ) (g : GivenSpans) → (spans_inside src g ≡ true) ↔ SpansRight src g
