-- Parts of a message: where one stands, and its bytes.
use Rattle.std.specs.Prelude.{ℕ, ◌-◌, List, take, drop}
use Rattle.grammar.specs.declared.Span.{Span}

-- from one offset up to another
abbrev pub span_from : ℕ → ℕ → Span
span_from a b = record { start = record { 0 = a }; len = b - a }

-- an absent part
abbrev pub no_span : Span
no_span = span_from 0 0

-- the part of the message that a span names: as much of it as the message has
abbrev pub part_of : List ℕ → Span → List ℕ
part_of m s = take s.len (drop s.start.0 m)
