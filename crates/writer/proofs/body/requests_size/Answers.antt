-- Around the request.
use Rattle.writer.proofs.Sizes.{size-around, size-last}
use Rattle.encoding.specs.Message.{requests_bytes}
use Rattle.writer.proofs.body.requests_size.Goals as goal

pub returns : goal.returns
unfolding requests_bytes
returns c =
    size-around _ (size-last c.part_size.ensures) c.around.ensures
