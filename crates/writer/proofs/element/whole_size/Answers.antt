-- An element around an element.
use Rattle.encoding.specs.Element.{wrapped}
use Rattle.writer.proofs.Sizes.{size-around, size-last}
use Rattle.writer.proofs.element.whole_size.Goals as goal

pub returns : goal.returns
unfolding wrapped
returns c =
    λ tag. size-around tag (size-last c.size.ensures) c.around.ensures
