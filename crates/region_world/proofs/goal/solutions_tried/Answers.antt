use Rattle.region_control.proofs.ControlLemmas.{place_in}
use Rattle.region_world.proofs.goal.solutions_tried.Goals as goal

pub solve-requires-clause-after : goal.solve-requires-clause-after
solve-requires-clause-after c = place_in c.args.region.now c.args.place c.requires.place
