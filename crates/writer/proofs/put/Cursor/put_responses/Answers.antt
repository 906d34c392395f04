-- Three heads, then the content.
use Rattle.writer.proofs.Wrote.{around, last}
use Rattle.writer.proofs.Sizes.{size-around, size-last}
use Rattle.encoding.specs.Message.{responses_bytes}
use Rattle.writer.proofs.put.Cursor.put_responses.Goals as goal

pub returns : goal.returns
unfolding responses_bytes
returns c =
    let one = size-last (size-around 0x30 c.response_content_size-n.ensures c.around-response.ensures) in around _ (size-last (size-around 0x30 one c.around-responses.ensures)) c.put_head.ensures (last (around _ one c.put_head-2.ensures (last (around _ c.response_content_size-n.ensures c.put_head-3.ensures c.put_response_content.ensures))))
