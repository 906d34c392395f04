use mathlib.Core.Path.{◌∙◌, sym}
use native.Mathlib.Nat.{mod-lt}
use lib.Dec.{lit<}
use Rattle.der.proofs.IntegerLaws.{shift_more, shift_end}
use Rattle.der.proofs.integer.shift_in.Goals as goal

pub loop-x-preserved : goal.loop-x-preserved
loop-x-preserved c =
    (mod-lt _ (lit< tt), rw c.from.ensures (c.loop-x.invariant.1 ∙ shift_more c.args.s.now c.loop-x.x-index c.loop-x.v c.loop-x-test.true))

pub returns : goal.returns
returns c =
    sym (c.loop-x.invariant.1 ∙ shift_end c.args.s.now c.loop-x.x-index _ c.loop-x-test.false)
