-- The head, then its content.
use Rattle.writer.proofs.Wrote.{◌then◌, around, last}
use Rattle.encoding.specs.Message.{encode}
use Rattle.writer.proofs.put.Cursor.put_message.Goals as goal

pub returns : goal.returns
unfolding encode
returns c =
    λ low. last (around _ c.message_content_size.ensures c.put_head.ensures (c.put_header.ensures then c.put_body.ensures low then last c.put_field.ensures))
