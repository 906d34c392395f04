-- One after the other.
use Rattle.writer.proofs.Sizes.{size_then, size-last}
use Rattle.encoding.specs.Message.{names_bytes}
use Rattle.writer.proofs.header.names_size.Goals as goal

pub returns : goal.returns
unfolding names_bytes
returns c =
    size_then c.integer_size-version.ensures (size_then c.part_size-sender.ensures (size-last c.part_size-recipient.ensures) c.sum.ensures) c.sum-2.ensures
