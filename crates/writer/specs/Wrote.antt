-- What a piece that is put in does to the cursor.
use Rattle.std.specs.Prelude.{ℕ, List, ◌≡◌}
use Rattle.writer.specs.declared.put.Cursor.{Cursor}
use Rattle.writer.specs.Puts.{Puts}

-- x is put into the cursor's buffer, where it has room, and the cursor stands behind it; it is over the same buffer as before
pub record Wrote (x : List ℕ) (c c' : Cursor) : Type 0 where
  pub same : c'.buf.ghost_name ≡ c.buf.ghost_name
  pub puts : Puts c.at c'.at x c.buf.now c'.buf.now
