use Rattle.region_split.proofs.SolvedLemmas.{nothing_added}
use Rattle.front_goals.proofs.solving.side.Goals as goal

pub returns-in-Value-clause-text : goal.returns-in-Value-clause-text
returns-in-Value-clause-text c = nothing_added c.args.region.now.store
