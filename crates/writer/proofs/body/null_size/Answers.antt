-- A head alone.
use Rattle.writer.proofs.Sizes.{size_none, size-around}
use Rattle.writer.proofs.body.null_size.Goals as goal

pub returns : goal.returns
returns c =
    size-around _ size_none c.around.ensures
