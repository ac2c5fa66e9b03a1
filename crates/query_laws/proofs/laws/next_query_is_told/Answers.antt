use Rattle.query_laws.proofs.QueryHistoryLemmas.{next_told}
use Rattle.query_laws.proofs.laws.next_query_is_told.Goals as goal

pub returns : goal.returns
returns c = next_told c.events_keep_trees.ensures.history
