-- Two elements around the certificate.
use mathlib.Core.Path.{ap}
use Rattle.encoding.specs.Message.{key_pair_bytes}
use Rattle.writer.proofs.Sizes.{size_as, size-around, size-last}
use Rattle.writer.proofs.body.key_pair_size.Goals as goal

pub returns-in-Some : goal.returns-in-Some
unfolding key_pair_bytes
returns-in-Some c =
    size_as (ap key_pair_bytes c.in-Some.ensures) (size-around _ (size-last (size-around _ (size-last c.size.ensures) c.around.ensures)) c.around-in-Some.ensures)
