-- What the bytes stand for goes into the call, and its answer goes back into them.
use Rattle.duskstall.proofs.Crossings.{start_crosses}
use Rattle.duskstall.proofs.end_entity_calls.duskstall_end_entity_start.Goals as goal

pub returns : goal.returns
returns c =
    start_crosses _ _ _ _ _ _ _ _ c.answered_start-answered.ensures c.start_answered.ensures
