-- A fault lies in the bytes.
use mathlib.Core.Path.{sym}
use native.Mathlib.Omega.{arith}
use Rattle.der.specs.Element.{check}
use Rattle.der.proofs.ElementLaws.{fault_in}
use Rattle.fields.proofs.check_number.Goals as goal

pub overflow_mul-result : goal.overflow_mul-result
unfolding check
overflow_mul-result c =
    omega (arith, fault_in _ 0 c.args.bytes.now (sym c.in-Err.ensures))

pub overflow_add-result : goal.overflow_add-result
unfolding check
overflow_add-result c =
    omega (arith, fault_in _ 0 c.args.bytes.now (sym c.in-Err.ensures))
