-- The parts are put in one after the other.
use mathlib.Core.Path.{refl}
use borrow.Author.Rules.{rules}
use Rattle.packed.specs.Table.{pack_request}
use Rattle.packed.proofs.Copies.{next, one}
use Rattle.packed.proofs.Numbers.{two_put}
use Rattle.packed.proofs.table.put_request.Goals as goal

pub returns : goal.returns
unfolding pack_request
returns c =
    let board = two_put {n = c.args.t.now.board.0} (search rules) c.to_be_bytes.ensures c.put-2.ensures in
    next c.put.ensures refl (next board refl one)
