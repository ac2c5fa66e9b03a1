use Rattle.answered_runs.proofs.ShapeLemmas.{answers_fit, no_other_fits}
use Rattle.answered_runs.proofs.laws.one_shape_fits.Goals as goal

pub returns : goal.returns
returns c = record { fits = answers_fit; alone = no_other_fits }
