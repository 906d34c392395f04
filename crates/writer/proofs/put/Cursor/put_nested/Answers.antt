-- The tag, then the element.
use Rattle.encoding.specs.Element.{field}
use Rattle.writer.proofs.Wrote.{around, last}
use Rattle.writer.proofs.Sizes.{size-around, size-last}
use Rattle.writer.proofs.put.Cursor.put_nested.Goals as goal

pub returns : goal.returns
unfolding field
returns c =
    around _ (size-last (size-around _ c.size.ensures c.around.ensures)) c.put_head.ensures (last c.put_element.ensures)
