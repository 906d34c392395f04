use mathlib.Core.Path.{sym}
use mathlib.Core.Bool.{and-false}
use borrow.Author.Tests.{ne_eqb}
use Rattle.der.proofs.ContentLaws.{arc_more, arc_bad, arc_end}
use Rattle.der.proofs.content.arcs_ok.Goals as goal
use Rattle.der.proofs.content.arcs_ok.Goals.{else-x-via-then-x+else-fresh, else-x-via-else-x}

pub returns-then-fresh : goal.returns-then-fresh
returns-then-fresh c =
    sym (arc_bad c.args.c.now c.loop-x.x-index c.loop-x.fresh c.loop-x-test.true c.loop-x.invariant c.if-fresh.true c.if-x.true)

pub loop-x-preserved : goal.loop-x-preserved
loop-x-preserved c =
    arc_more c.args.c.now c.loop-x.x-index c.loop-x.fresh c.loop-x-test.true c.loop-x.invariant
    (elim c.else-x.branch [
      | else-x-via-then-x+else-fresh w ↦ simp w.if-fresh.false
      | else-x-via-else-x w ↦ simp (ne_eqb _ _ w.if-x.false, and-false)
    ])

pub returns : goal.returns
returns c =
    sym (arc_end c.args.c.now c.loop-x.x-index c.loop-x-test.false c.loop-x.invariant)
