-- A content length is below 65,536 and a head takes at most four bytes, so that the number fits.
use mathlib.Core.Path.{refl, sym}
use native.Mathlib.Omega.{arith}
use Rattle.der.proofs.HeadLaws.{whole_in}
use Rattle.der.proofs.OneForm.{one_form}
use Rattle.der.proofs.head.packed.Goals as goal

pub overflow_mul-result : goal.overflow_mul-result
overflow_mul-result c =
    omega (arith, (one_form c.args.s.now (λ i. omega (arith, c.type_inv.s i)) (sym c.in-Ok.ensures)).2)

pub overflow_add-result : goal.overflow_add-result
overflow_add-result c =
    omega (arith, (one_form c.args.s.now (λ i. omega (arith, c.type_inv.s i)) (sym c.in-Ok.ensures)).2, whole_in c.args.s.now refl (sym c.in-Ok.ensures))
