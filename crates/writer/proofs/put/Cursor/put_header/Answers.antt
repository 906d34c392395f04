-- The head, then its content.
use Rattle.writer.proofs.Wrote.{◌then◌, around}
use Rattle.writer.proofs.Headers.{wrote_joined}
use Rattle.encoding.specs.Message.{header_bytes}
use Rattle.writer.proofs.put.Cursor.put_header.Goals as goal

pub returns : goal.returns
unfolding header_bytes
returns c =
    around _ c.header_content_size.ensures c.put_head.ensures (wrote_joined _ _ (c.put_names.ensures then c.put_options.ensures then c.put_ids.ensures))
