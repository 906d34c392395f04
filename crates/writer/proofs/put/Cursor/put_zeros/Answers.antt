-- Zeros of an array.
use Rattle.writer.proofs.Bits.{zeros-put}
use Rattle.writer.proofs.put.Cursor.put_zeros.Goals as goal

pub returns : goal.returns
returns c =
    zeros-put c.args.n (rw c.from.ensures at c.put_bytes.ensures)
