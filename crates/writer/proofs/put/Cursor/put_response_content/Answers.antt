-- One after the other.
use Rattle.writer.proofs.Wrote.{◌then◌, last}
use Rattle.writer.proofs.put.Cursor.put_response_content.Goals as goal

pub returns : goal.returns
returns c =
    c.put_integer.ensures then c.put_status.ensures then last c.put_key_pair.ensures
