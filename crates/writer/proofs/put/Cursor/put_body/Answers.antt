-- The head, then the content.
use Rattle.writer.proofs.Wrote.{around, last}
use Rattle.writer.proofs.Sizes.{size-last}
use Rattle.encoding.specs.Message.{body_bytes}
use Rattle.writer.proofs.put.Cursor.put_body.Goals as goal

pub returns : goal.returns
unfolding body_bytes
returns c =
    λ low. around _ (size-last c.content_size-n.ensures) (rw (c.body_tag.ensures low) at c.put_head.ensures) (last c.put_content.ensures)
