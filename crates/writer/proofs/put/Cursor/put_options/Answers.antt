-- One after the other.
use Rattle.writer.proofs.Wrote.{◌then◌, last}
use Rattle.encoding.specs.Message.{options_bytes}
use Rattle.writer.proofs.put.Cursor.put_options.Goals as goal

pub returns : goal.returns
unfolding options_bytes
returns c =
    c.put_field.ensures then c.put_wrapped.ensures then c.put_field-2.ensures then last c.put_field-3.ensures
