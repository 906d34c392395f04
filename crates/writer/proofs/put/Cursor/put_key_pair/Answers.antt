-- Two heads around the certificate.
use mathlib.Core.Path.{ap}
use Rattle.encoding.specs.Message.{key_pair_bytes}
use Rattle.writer.proofs.Wrote.{wrote_as, around, last}
use Rattle.writer.proofs.Sizes.{size-around, size-last}
use Rattle.writer.proofs.put.Cursor.put_key_pair.Goals as goal

pub returns-in-Some : goal.returns-in-Some
unfolding key_pair_bytes
returns-in-Some c =
    let n = size-last c.size-n.ensures in wrote_as (ap key_pair_bytes c.in-Some.ensures) (around _ (size-last (size-around _ n c.around.ensures)) c.put_head.ensures (last (around _ n c.put_head-in-Some.ensures (last c.put_bytes.ensures))))
