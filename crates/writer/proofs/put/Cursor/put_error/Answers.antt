-- The head, then the status info.
use Rattle.writer.proofs.Wrote.{around, last}
use Rattle.writer.proofs.Sizes.{size-last}
use Rattle.encoding.specs.Message.{error_bytes}
use Rattle.writer.proofs.put.Cursor.put_error.Goals as goal

pub returns : goal.returns
unfolding error_bytes
returns c =
    around _ (size-last c.status_size.ensures) c.put_head.ensures (last c.put_status.ensures)
