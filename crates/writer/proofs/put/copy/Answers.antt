use mathlib.Core.Path.{refl}
use native.Mathlib.Omega.{arith}
use Rattle.writer.proofs.Puts.{copy_more, copy_all}
use Rattle.writer.proofs.put.copy.Goals as goal

pub loop-i-init : goal.loop-i-init
loop-i-init c =
    record { below = omega arith; is = refl; size = refl }

pub loop-i-preserved : goal.loop-i-preserved
loop-i-preserved c =
    copy_more _ c.loop-i.invariant (omega arith)

pub returns : goal.returns
returns c =
    copy_all _ c.loop-i.invariant (omega arith)
