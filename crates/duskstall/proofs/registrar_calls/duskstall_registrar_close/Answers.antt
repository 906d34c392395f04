-- What the bytes stand for goes into the call, and its answer goes back into them.
use borrow.Author.Rules.{rules}
use Rattle.duskstall.proofs.Crossings.{registrar_crosses}
use Rattle.duskstall.proofs.registrar_calls.duskstall_registrar_close.Goals as goal

pub returns : goal.returns
returns c =
    (registrar_crosses _ _ _ _ _ _ _ _ _ c.answered_close-answered.ensures c.registrar_answered.ensures, search rules)
