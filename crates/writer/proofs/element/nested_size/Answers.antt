-- An element around an element.
use Rattle.encoding.specs.Element.{field}
use Rattle.writer.proofs.Sizes.{size-around, size-last}
use Rattle.writer.proofs.element.nested_size.Goals as goal

pub returns : goal.returns
unfolding field
returns c =
    λ tag inner. size-around tag (size-last (size-around inner c.size.ensures c.around.ensures)) c.around-2.ensures
