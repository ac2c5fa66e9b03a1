use Rattle.query_laws.proofs.QueryHistoryLemmas.{events_count, histories_count}
use Rattle.query_laws.proofs.laws.queries_are_counted.Goals as goal

pub returns : goal.returns
returns c = record { event = events_count; history = histories_count c.events_keep_trees.ensures.history }
