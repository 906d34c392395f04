-- A type that the definitions name as src/ does: antt has no name for an alias.
use Rattle.std.specs.Prelude.{ℕ, Result}

-- so many bytes are written, or the call is refused by this number
abbrev pub Written : Type 0
Written = Result ℕ ℕ
