-- A round of the loop: what the element there is, and that the loop goes on past it or answers its fault.
use Prim.Native.Nat.{◌+◌}
use native.Mathlib.Omega.{arith}
use lib.Seq.{length-take-le}
use mathlib.Core.Path.{◌∙◌, refl, sym}
use Rattle.der.proofs.KindLaws.{no_level, no_length, by_kind}
use Rattle.der.proofs.ElementLaws.{tail_is, at_faulty, primitive_in, after_primitive, constructed_in, after_sound, at_fault, no_end, check-end}
use Rattle.der.proofs.element.+elements.Goals as goal

pub overflow_add-at : goal.overflow_add-at
overflow_add-at t c =
    omega (arith, primitive_in c.args.depth c.args.m.now c.loop-at.at c.loop-at-test.true c.loop-at.invariant.1 (by_kind c.args.depth _ c.if-depth-eq0.false c.in-Ok.ensures c.in-Primitive.ensures))

pub loop-at-smaller-in-Primitive : goal.loop-at-smaller-in-Primitive
loop-at-smaller-in-Primitive t c =
    omega (arith, primitive_in c.args.depth c.args.m.now c.loop-at.at c.loop-at-test.true c.loop-at.invariant.1 (by_kind c.args.depth _ c.if-depth-eq0.false c.in-Ok.ensures c.in-Primitive.ensures))

pub loop-at-preserved-in-Primitive : goal.loop-at-preserved-in-Primitive
loop-at-preserved-in-Primitive t c =
    ((primitive_in c.args.depth c.args.m.now c.loop-at.at c.loop-at-test.true c.loop-at.invariant.1 (by_kind c.args.depth _ c.if-depth-eq0.false c.in-Ok.ensures c.in-Primitive.ensures)).1, after_primitive c.args.depth c.args.m.now c.loop-at.at c.loop-at-test.true c.loop-at.invariant.1 (by_kind c.args.depth _ c.if-depth-eq0.false c.in-Ok.ensures c.in-Primitive.ensures))

pub overflow_add-content : goal.overflow_add-content
overflow_add-content t c =
    omega (arith, constructed_in c.args.depth c.args.m.now c.loop-at.at c.loop-at-test.true c.loop-at.invariant.1 (by_kind c.args.depth _ c.if-depth-eq0.false c.in-Ok.ensures c.in-Constructed.ensures))

pub overflow_add-end : goal.overflow_add-end
overflow_add-end t c =
    omega (arith, constructed_in c.args.depth c.args.m.now c.loop-at.at c.loop-at-test.true c.loop-at.invariant.1 (by_kind c.args.depth _ c.if-depth-eq0.false c.in-Ok.ensures c.in-Constructed.ensures))

pub slice_bounds-elements-end : goal.slice_bounds-elements-end
slice_bounds-elements-end t c =
    sym (length-take-le _ c.args.m.now (constructed_in c.args.depth c.args.m.now c.loop-at.at c.loop-at-test.true c.loop-at.invariant.1 (by_kind c.args.depth _ c.if-depth-eq0.false c.in-Ok.ensures c.in-Constructed.ensures)).1)

pub overflow_sub-depth : goal.overflow_sub-depth
overflow_sub-depth t c =
    omega (arith, constructed_in c.args.depth c.args.m.now c.loop-at.at c.loop-at-test.true c.loop-at.invariant.1 (by_kind c.args.depth _ c.if-depth-eq0.false c.in-Ok.ensures c.in-Constructed.ensures))

pub elements-requires : goal.elements-requires
elements-requires t c =
    let w = constructed_in c.args.depth c.args.m.now c.loop-at.at c.loop-at-test.true c.loop-at.invariant.1 (by_kind c.args.depth _ c.if-depth-eq0.false c.in-Ok.ensures c.in-Constructed.ensures) in
    omega (arith, length-take-le _ c.args.m.now w.1)

pub loop-at-smaller : goal.loop-at-smaller
loop-at-smaller t c =
    let w = constructed_in c.args.depth c.args.m.now c.loop-at.at c.loop-at-test.true c.loop-at.invariant.1 (by_kind c.args.depth _ c.if-depth-eq0.false c.in-Ok.ensures c.in-Constructed.ensures) in
    omega (arith, length-take-le _ c.args.m.now w.1, c.in-Sound.ensures.ends)

pub loop-at-preserved : goal.loop-at-preserved
loop-at-preserved t c =
    let w = constructed_in c.args.depth c.args.m.now c.loop-at.at c.loop-at-test.true c.loop-at.invariant.1 (by_kind c.args.depth _ c.if-depth-eq0.false c.in-Ok.ensures c.in-Constructed.ensures) in
    rw (c.in-Sound.ensures.ends ∙ length-take-le _ c.args.m.now w.1)
    (w.1, after_sound c.args.depth c.args.m.now c.loop-at.at c.loop-at-test.true c.loop-at.invariant.1 (by_kind c.args.depth _ c.if-depth-eq0.false c.in-Ok.ensures c.in-Constructed.ensures) c.in-Sound.ensures.checked refl)

pub overflow_add-at-in-Primitive : goal.overflow_add-at-in-Primitive
overflow_add-at-in-Primitive t c =
    omega (arith, primitive_in c.args.depth c.args.m.now c.loop-at.at c.loop-at-test.true c.loop-at.invariant.1 (by_kind c.args.depth _ c.if-depth-eq0.false c.in-Ok.ensures c.in-Primitive.ensures))

pub returns-in_default-elements : goal.returns-in_default-elements
returns-in_default-elements t c = record {
  checked = at_fault c.args.depth c.args.m.now c.loop-at.at c.loop-at-test.true c.loop-at.invariant.1 (by_kind c.args.depth _ c.if-depth-eq0.false c.in-Ok.ensures c.in-Constructed.ensures) refl c.elements.result c.elements.ensures.checked c.in_default-elements.not-Sound;
  ends = no_end _ c.elements.result c.in_default-elements.not-Sound;
}

pub returns-then-depth-eq0-clause-checked : goal.returns-then-depth-eq0-clause-checked
returns-then-depth-eq0-clause-checked t c =
    rw (← tail_is c.args.m.now c.loop-at.at) at c.fault.ensures ∙ at_faulty c.args.depth c.args.m.now c.loop-at.at c.loop-at-test.true c.loop-at.invariant.1 (no_level c.args.depth _ c.if-depth-eq0.true)

pub returns-in_default-clause-checked : goal.returns-in_default-clause-checked
returns-in_default-clause-checked t c =
    rw (← tail_is c.args.m.now c.loop-at.at) at c.fault-in_default.ensures ∙ at_faulty c.args.depth c.args.m.now c.loop-at.at c.loop-at-test.true c.loop-at.invariant.1 (no_length c.args.depth _ c.in_default.ensures)

pub returns-in-Faulty-clause-checked : goal.returns-in-Faulty-clause-checked
returns-in-Faulty-clause-checked t c =
    rw (← tail_is c.args.m.now c.loop-at.at) at c.fault-in-Faulty.ensures ∙ at_faulty c.args.depth c.args.m.now c.loop-at.at c.loop-at-test.true c.loop-at.invariant.1 (by_kind c.args.depth _ c.if-depth-eq0.false c.in-Ok.ensures c.in-Faulty.ensures)

pub returns-clause-checked : goal.returns-clause-checked
returns-clause-checked t c =
    check-end c.args.depth c.args.m.now c.loop-at.at c.loop-at-test.false c.loop-at.invariant.1
