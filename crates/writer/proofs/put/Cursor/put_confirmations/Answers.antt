-- Two heads, then the content.
use Rattle.writer.proofs.Wrote.{◌then◌, around, last}
use Rattle.writer.proofs.Sizes.{size-around, size-last}
use Rattle.encoding.specs.Message.{confirmations_bytes}
use Rattle.writer.proofs.put.Cursor.put_confirmations.Goals as goal

pub returns : goal.returns
unfolding confirmations_bytes
returns c =
    around _ (size-last (size-around _ c.confirmation_content_size-n.ensures c.around.ensures)) c.put_head.ensures (last (around _ c.confirmation_content_size-n.ensures c.put_head-2.ensures (c.put_element.ensures then c.put_integer.ensures then last c.put_other_status.ensures)))
