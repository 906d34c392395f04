-- The bytes that a clean reading's spans stand for.
use Rattle.std.specs.Prelude.{Ok}
use Prim.Native.Nat.{ℕ, ◌≤◌}
use mathlib.Core.Path.{◌≡◌}
use mathlib.Core.List.{List}
use native.Mathlib.Omega.{arith}
use lib.ListN.{length}
use Rattle.grammar.specs.declared.Span.{Span}
use Rattle.grammar.specs.declared.Message.{Message}
use Rattle.grammar.specs.Span.{span_from, part_of}
use Rattle.grammar.proofs.PartBytes.{part_length}
use Rattle.grammar.proofs.Places.{Spot}
use Rattle.grammar.proofs.Places.Spot.{absent, present}
use Rattle.grammar.proofs.Found.{Inside}
use Rattle.grammar.proofs.Spans.{spans_of, All, all_of, spans_inside_lem}
use Rattle.message.specs.Read.{reading_of}
use Rattle.message.proofs.ReadingLaws.{clean_places}

-- nothing of the span is cut off: it has as many bytes as it says
abbrev pub Exact : List ℕ → Span → Type 0
Exact m s = length (part_of m s) ≡ s.len

ends_by : {n from to : ℕ} → Spot 0 n from to → to ≤ n
ends_by (absent p q) = omega arith
ends_by (present p q r) = r

-- any span inside the message
pub inside-bytes : (m : List ℕ) (s : Span) → Inside (span_from 0 (length m)) s → Exact m s
inside-bytes m s i = part_length m s (omega (arith, ends_by i))

-- SAME PARTS: of each span of a clean reading the bytes handed out are the message's, from its start on and as many as its length
pub same_parts : (m : List ℕ) (x : Message) → reading_of m ≡ Ok x → All (Exact m) (spans_of x)
same_parts m x e = all_of (inside-bytes m) (spans_inside_lem (clean_places m x e))
