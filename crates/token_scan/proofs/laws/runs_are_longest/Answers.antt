use Rattle.token_scan.proofs.RunLemmas.{run-longest}
use Rattle.token_scan.proofs.laws.runs_are_longest.Goals as goal

pub returns : goal.returns
returns c = run-longest
