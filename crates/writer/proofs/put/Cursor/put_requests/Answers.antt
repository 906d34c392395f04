-- Around the request.
use Rattle.writer.proofs.Wrote.{last, around}
use Rattle.writer.proofs.Sizes.{size-last}
use Rattle.encoding.specs.Message.{requests_bytes}
use Rattle.writer.proofs.put.Cursor.put_requests.Goals as goal

pub returns : goal.returns
unfolding requests_bytes
returns c =
    around _ (size-last c.part_size.ensures) c.put_head.ensures (last c.put_part.ensures)
