-- The parts are put in one after the other.
use mathlib.Core.Path.{refl}
use borrow.Author.Rules.{rules}
use Rattle.packed.specs.Answer.{pack_fault}
use Rattle.packed.proofs.Copies.{next, one}
use Rattle.packed.proofs.Numbers.{eight_put}
use Rattle.packed.proofs.answer.put_fault.Goals as goal

pub returns : goal.returns
unfolding pack_fault
returns c =
    let offset = eight_put {n = c.args.f.at.0} (search rules) c.to_be_bytes.ensures c.put.ensures in
    next one refl (next offset refl one)
