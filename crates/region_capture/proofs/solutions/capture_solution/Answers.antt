use Rattle.region_capture.proofs.SolutionLemmas.{kept, solution_captured}
use Rattle.region_capture.proofs.solutions.capture_solution.Goals as goal

pub solutions_of-others-requires : goal.solutions_of-others-requires
solutions_of-others-requires c = (
  c.args.left,
  kept c.args.region.now c.push_choice.new.self c.try_solution.new.self c.take_newest.new.self c.args.solution c.args.left c.args.after c.in_ok-cut.cut c.take_newest.result c.ends_are_oldest.ensures.marks c.in_ok-cut.ensures.count c.requires.after c.in_ok-push_choice.ensures.ok c.in_ok-reached.reached
      c.in_ok-reached.ensures c.take_newest.ensures,
)

pub returns : goal.returns
returns c =
    solution_captured c.args.region.now c.push_choice.new.self c.try_solution.new.self c.take_newest.new.self c.args.solution c.args.left c.args.after c.in_ok-cut.cut c.take_newest.result c.ends_are_oldest.ensures.marks c.in_ok-cut.ensures.count c.requires.after
    c.in_ok-push_choice.ensures.ok c.in_ok-reached.reached c.in_ok-reached.ensures c.take_newest.ensures c.args.items.now c.capture_reached.new.items c.in_ok-captured.captured c.solutions_of-others.result c.in_ok-captured.ensures c.solutions_of-others.ensures
