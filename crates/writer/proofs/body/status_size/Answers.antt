-- Around its content.
use Rattle.writer.proofs.Sizes.{size-around}
use Rattle.encoding.specs.Message.{status_bytes}
use Rattle.writer.proofs.body.status_size.Goals as goal

pub returns : goal.returns
unfolding status_bytes
returns c =
    size-around _ c.status_content_size.ensures c.around.ensures
