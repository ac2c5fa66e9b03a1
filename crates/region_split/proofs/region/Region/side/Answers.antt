use Rattle.region_split.proofs.SolvedLemmas.{nothing_added}
use Rattle.region_split.proofs.region.Region.side.Goals as goal

pub returns-in-Value-clause-text : goal.returns-in-Value-clause-text
returns-in-Value-clause-text c = nothing_added c.args.self.now.store
