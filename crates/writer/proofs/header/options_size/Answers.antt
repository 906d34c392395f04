-- One after the other.
use Rattle.writer.proofs.Sizes.{size_then, size-last}
use Rattle.encoding.specs.Message.{options_bytes}
use Rattle.writer.proofs.header.options_size.Goals as goal

pub returns : goal.returns
unfolding options_bytes
returns c =
    size_then (c.field_size-time.ensures _ _) (size_then (c.wrapped_size-alg.ensures _) (size_then (c.field_size-sender.ensures _ _) (size-last (c.field_size-recip.ensures _ _)) c.sum.ensures) c.sum-2.ensures) c.sum-3.ensures
