use Rattle.task_stops.proofs.CopyLemmas.{copies_are_alike}
use Rattle.task_stops.proofs.landing_laws.copies_are_alike.Goals as goal

pub returns : goal.returns
returns c = copies_are_alike
