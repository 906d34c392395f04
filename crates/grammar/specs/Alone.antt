-- A part by itself, as one who writes a message is given it.
use Rattle.std.specs.Prelude.{ℕ, List, Bool, length}
use Rattle.grammar.specs.declared.cursor.Cursor.{Cursor}
use Rattle.grammar.specs.Cursor.{is_ok, done_of}
use Rattle.grammar.specs.Message.{start_at}

-- the rule takes all of the part
abbrev pub alone : (List ℕ → Cursor → Cursor) → List ℕ → Bool
alone rule e = is_ok (done_of (rule e (start_at (length e))))
