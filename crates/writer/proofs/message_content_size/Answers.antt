-- One after the other.
use Rattle.writer.proofs.Sizes.{size_then, size-around, size-last}
use Rattle.encoding.specs.Message.{header_bytes, body_bytes}
use Rattle.writer.proofs.message_content_size.Goals as goal

pub returns : goal.returns
unfolding header_bytes body_bytes
returns c =
    size_then (size-around _ c.header_content_size.ensures c.around-header.ensures) (size_then (size-around _ (size-last c.content_size.ensures) c.around-body.ensures) (size-last (c.field_size.ensures _ _)) c.sum.ensures) c.sum-2.ensures
