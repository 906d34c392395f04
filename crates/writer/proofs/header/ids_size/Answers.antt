-- One after the other.
use Rattle.writer.proofs.Sizes.{size_then, size-last}
use Rattle.encoding.specs.Message.{ids_bytes}
use Rattle.writer.proofs.header.ids_size.Goals as goal

pub returns : goal.returns
unfolding ids_bytes
returns c =
    size_then (c.nested_size-id.ensures _ _) (size_then (c.nested_size-sender.ensures _ _) (size_then c.recip_nonce_size-recip.ensures (size_then (c.wrapped_size-text.ensures _) (size-last (c.wrapped_size-info.ensures _)) c.sum.ensures) c.sum-2.ensures) c.sum-3.ensures) c.sum-4.ensures
