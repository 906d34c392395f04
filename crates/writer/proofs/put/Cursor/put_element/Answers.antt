-- The head, then the part.
use Rattle.writer.proofs.Wrote.{around}
use Rattle.writer.proofs.put.Cursor.put_element.Goals as goal

pub returns : goal.returns
returns c =
    around _ c.size.ensures c.put_head.ensures c.put_bytes.ensures
