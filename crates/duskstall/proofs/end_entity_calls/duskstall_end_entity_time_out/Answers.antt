-- What the bytes stand for goes into the call, and its answer goes back into them.
use Rattle.duskstall.proofs.Crossings.{end_entity_crosses}
use Rattle.duskstall.proofs.end_entity_calls.duskstall_end_entity_time_out.Goals as goal

pub returns : goal.returns
returns c =
    end_entity_crosses _ _ _ _ _ _ _ _ _ c.answered_time_out-answered.ensures c.end_entity_answered.ensures
