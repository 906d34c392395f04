-- The head, the unused count, zeros, and the byte with the bit.
use borrow.Author.Rules.{rules}
use native.Mathlib.Omega.{arith}
use Rattle.writer.proofs.Wrote.{◌then◌, around}
use Rattle.encoding.specs.Message.{bit_content}
use Rattle.writer.proofs.Bits.{bit_byte, puts_byte}
use Rattle.der.proofs.Auto.{shifted}
use Rattle.writer.proofs.put.Cursor.put_bit.Goals as goal

pub returns : goal.returns
unfolding bit_content
returns c =
    around _ c.bit_content_size.ensures c.put_head.ensures (c.put_bytes.ensures then (rw (bit_byte c.args.bit (search rules)) at c.put_zeros.ensures) then puts_byte (shifted _ (omega arith)) c.put_bytes-2.ensures)
