use Rattle.task_region.proofs.CutGoalLemmas.{cuts_are_named, named_cuts_cut}
use Rattle.task_region.proofs.laws.cuts_have_a_name.Goals as goal

pub returns : goal.returns
returns c = record { named = cuts_are_named; cuts = named_cuts_cut }
