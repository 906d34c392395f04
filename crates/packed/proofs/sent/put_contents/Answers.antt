-- The parts are put in one after the other.
use mathlib.Core.Path.{refl}
use borrow.Author.Rules.{rules}
use Rattle.packed.specs.Outgoing.{pack_contents}
use Rattle.packed.proofs.Copies.{next, one_of}
use Rattle.packed.proofs.Numbers.{four_put}
use Rattle.packed.proofs.sent.put_contents.Goals as goal

pub returns : goal.returns
unfolding pack_contents
returns c =
    let status = four_put {n = c.args.c.now.status} (search rules) c.to_be_bytes.ensures c.put.ensures in
    let number = four_put {n = c.args.c.now.number} (search rules) c.to_be_bytes-2.ensures c.put-3.ensures in
    next c.put_flag.ensures refl (
    next status refl (
    next c.put-2.ensures refl (
    next (one_of c.failure_number.ensures) refl (
    next c.put_flag-2.ensures refl number))))
