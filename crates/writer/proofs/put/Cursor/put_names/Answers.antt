-- One after the other.
use Rattle.writer.proofs.Wrote.{◌then◌, last}
use Rattle.encoding.specs.Message.{names_bytes}
use Rattle.writer.proofs.put.Cursor.put_names.Goals as goal

pub returns : goal.returns
unfolding names_bytes
returns c =
    c.put_integer.ensures then c.put_part.ensures then last c.put_part-2.ensures
