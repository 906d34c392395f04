-- One after the other.
use Rattle.writer.proofs.Wrote.{◌then◌, last}
use Rattle.encoding.specs.Message.{ids_bytes}
use Rattle.writer.proofs.put.Cursor.put_ids.Goals as goal

pub returns : goal.returns
unfolding ids_bytes
returns c =
    c.put_nested.ensures then c.put_nested-2.ensures then c.put_recip_nonce.ensures then c.put_wrapped.ensures then last c.put_wrapped-2.ensures
