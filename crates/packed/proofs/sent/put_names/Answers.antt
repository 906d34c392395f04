-- The parts are put in one after the other.
use mathlib.Core.Path.{refl}
use Rattle.packed.specs.Outgoing.{pack_names}
use Rattle.packed.proofs.Copies.{next, one}
use Rattle.packed.proofs.sent.put_names.Goals as goal

pub returns : goal.returns
unfolding pack_names
returns c =
    next one refl (
    next c.put.ensures refl (
    next c.put-2.ensures refl (
    next c.put_flag.ensures refl c.put-3.ensures)))
