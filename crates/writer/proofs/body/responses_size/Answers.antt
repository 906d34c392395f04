-- Three elements around the content.
use Rattle.writer.proofs.Sizes.{size-around, size-last}
use Rattle.encoding.specs.Message.{responses_bytes}
use Rattle.writer.proofs.body.responses_size.Goals as goal

pub returns : goal.returns
unfolding responses_bytes
returns c =
    size-around _ (size-last (size-around _ (size-last (size-around _ c.response_content_size.ensures c.around.ensures)) c.around-2.ensures)) c.around-3.ensures
