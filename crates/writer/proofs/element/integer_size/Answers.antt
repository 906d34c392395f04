-- By the bytes that are needed.
use mathlib.Core.Path.{◌∙◌}
use native.Mathlib.Omega.{arith}
use Rattle.writer.proofs.Integers.{integer-size}
use Rattle.writer.proofs.element.integer_size.Goals as goal

pub returns : goal.returns
returns c =
    integer-size _ _ (c.from.ensures ∙ c.unneeded.ensures.0) (omega arith)
