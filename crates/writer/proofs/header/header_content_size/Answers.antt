-- One after the other.
use Rattle.writer.proofs.Sizes.{size_then}
use Rattle.writer.proofs.Headers.{size-joined}
use Rattle.writer.proofs.header.header_content_size.Goals as goal

pub returns : goal.returns
returns c =
    size-joined _ _ (size_then c.names_size-names.ensures (size_then c.options_size-options.ensures c.ids_size-ids.ensures c.sum.ensures) c.sum-2.ensures)
