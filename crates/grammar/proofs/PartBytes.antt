-- The bytes of a part: how many there are where it does not reach past the message's end.
use Prim.Native.Nat.{ℕ, ◌+◌, ◌≤◌}
use mathlib.Core.List.{List}
use mathlib.Core.Path.{◌≡◌}
use native.Mathlib.Omega.{arith}
use lib.ListN.{length, drop, length-drop, length-take}
use Rattle.grammar.specs.declared.Span.{Span}
use Rattle.grammar.specs.Span.{part_of}

-- a part inside the message has as many bytes as its span says
pub part_length : (m : List ℕ) (s : Span) → s.start.0 + s.len ≤ length m → length (part_of m s) ≡ s.len
part_length m s h = omega (arith, length-take s.len (drop s.start.0 m), length-drop s.start.0 m)
