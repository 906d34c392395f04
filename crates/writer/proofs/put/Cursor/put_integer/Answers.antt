-- The bytes that are needed.
use borrow.Author.Rules.{rules}
use mathlib.Core.Path.{◌∙◌}
use Rattle.writer.proofs.Integers.{integer-put, four-is}
use Rattle.writer.proofs.put.Cursor.put_integer.Goals as goal

pub returns : goal.returns
returns c =
    integer-put _ (c.from-from.ensures ∙ c.unneeded.ensures.0) (rw (c.to_be_bytes-four.ensures ∙ four-is _ (search rules)) at c.put_element.ensures)
