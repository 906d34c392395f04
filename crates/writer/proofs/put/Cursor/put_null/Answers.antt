-- A head alone.
use Rattle.writer.proofs.Wrote.{last}
use Rattle.encoding.specs.Element.{element}
use Rattle.writer.proofs.put.Cursor.put_null.Goals as goal

pub returns : goal.returns
unfolding element
returns c =
    last c.put_head.ensures
