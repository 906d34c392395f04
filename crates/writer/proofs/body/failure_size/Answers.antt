-- Around the bit.
use Rattle.encoding.specs.Element.{optional}
use Rattle.writer.proofs.Sizes.{size-around}
use Rattle.writer.proofs.body.failure_size.Goals as goal

pub returns-in-Some : goal.returns-in-Some
unfolding optional
returns-in-Some c =
    rw c.in-Some.is (size-around _ c.bit_content_size.ensures c.around.ensures)
