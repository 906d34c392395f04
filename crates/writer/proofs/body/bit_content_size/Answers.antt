-- Two bytes and the zeros.
use borrow.Author.Rules.{rules}
use Rattle.writer.proofs.Bits.{bit-content-size}
use Rattle.writer.proofs.body.bit_content_size.Goals as goal

pub returns : goal.returns
returns c =
    rw c.from.ensures (bit-content-size _ (search rules))
