use Rattle.token_scan.proofs.RunLemmas.{one_place}
use Rattle.token_scan.proofs.laws.places_are_told.Goals as goal

pub returns : goal.returns
returns c = one_place
