-- The part holds what was copied into it.
use native.Mathlib.Omega.{arith}
use Rattle.packed.proofs.Copies.{copied}
use Rattle.packed.proofs.bytes.put.Goals as goal

pub returns : goal.returns
returns g c =
    copied (omega arith) (omega arith) (omega arith) c.copy_from_slice.ensures.after
