-- Two elements around the content.
use Rattle.writer.proofs.Sizes.{size-around, size-last}
use Rattle.encoding.specs.Message.{confirmations_bytes}
use Rattle.writer.proofs.body.confirmations_size.Goals as goal

pub returns : goal.returns
unfolding confirmations_bytes
returns c =
    size-around _ (size-last (size-around _ c.confirmation_content_size.ensures c.around.ensures)) c.around-2.ensures
