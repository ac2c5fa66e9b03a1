use Rattle.query_laws.proofs.QueryHistoryLemmas.{all_above}
use Rattle.query_laws.proofs.laws.queries_are_above.Goals as goal

pub returns : goal.returns
returns c = all_above
