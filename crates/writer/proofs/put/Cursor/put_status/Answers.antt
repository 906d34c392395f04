-- The head, then its content.
use Rattle.writer.proofs.Wrote.{◌then◌, last, around}
use Rattle.encoding.specs.Message.{status_bytes}
use Rattle.writer.proofs.put.Cursor.put_status.Goals as goal

pub returns : goal.returns
unfolding status_bytes
returns c =
    around _ c.status_content_size.ensures c.put_head.ensures (c.put_integer.ensures then last c.put_failure.ensures)
