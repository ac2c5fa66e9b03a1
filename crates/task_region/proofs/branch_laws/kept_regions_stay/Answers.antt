use Rattle.task_region.proofs.KeptLemmas.{regions_stay, regions_left}
use Rattle.task_region.proofs.branch_laws.kept_regions_stay.Goals as goal

pub returns-clause-stay : goal.returns-clause-stay
returns-clause-stay c = regions_stay

pub returns-clause-leave : goal.returns-clause-leave
returns-clause-leave c = regions_left
