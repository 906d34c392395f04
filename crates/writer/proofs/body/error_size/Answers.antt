-- Around the status info.
use Rattle.writer.proofs.Sizes.{size-around, size-last}
use Rattle.encoding.specs.Message.{error_bytes}
use Rattle.writer.proofs.body.error_size.Goals as goal

pub returns : goal.returns
unfolding error_bytes
returns c =
    size-around _ (size-last c.status_size.ensures) c.around.ensures
