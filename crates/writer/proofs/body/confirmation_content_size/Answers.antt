-- One after the other.
use Rattle.writer.proofs.Sizes.{size_then, size-last, size-around}
use Rattle.writer.proofs.body.confirmation_content_size.Goals as goal

pub returns : goal.returns
returns c =
    size_then (size-around _ c.size.ensures c.around.ensures) (size_then c.integer_size.ensures (size-last c.other_status_size.ensures) c.sum-rest.ensures) c.sum.ensures
