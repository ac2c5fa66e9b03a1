use Rattle.query_laws.proofs.QueryHistoryLemmas.{ends_open}
use Rattle.query_laws.proofs.laws.ends_open_queries.Goals as goal

pub returns : goal.returns
returns c = ends_open
