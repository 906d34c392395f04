-- Definitions that only follow the code: a reader of the paper need not look at them.
use Rattle.std.specs.Prelude.{ℕ, ◌≡◌, ◌+◌, List}
use Rattle.grammar.specs.declared.cursor.Cursor.{Cursor}
use Rattle.grammar.specs.Cursor.{need_of, done_of, enter_of, leave_of}

-- past an optional field (`field_of`) where both lengths are short, and it ends at `to`
abbrev pub past_field : Cursor → ℕ → Cursor
past_field c to = record { at = to; end = c.end; from = c.at + 4; to = to; rule = 0 }

-- a closure's calls, of which `post` tells, compute f
abbrev pub Computes : (Cursor → Cursor → Type 0) → (Cursor → Cursor) → Type 0
Computes post f = (k r : Cursor) → post k r → r ≡ f k

-- an element with this tag, which holds what `inside` reads and nothing after it
abbrev pub around_of : List ℕ → ℕ → (Cursor → Cursor) → Cursor → Cursor
around_of m tag inside c = let o : Cursor = need_of m tag c in leave_of o (done_of (inside (enter_of o)))
