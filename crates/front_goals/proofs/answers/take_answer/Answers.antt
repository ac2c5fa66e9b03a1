use Rattle.std.proofs.Common.{refl}
use Rattle.std.specs.Arc.{arc_value}
use Rattle.front_goals.proofs.KeptLemmas.{kept_after}
use Rattle.front_goals.proofs.ReplyLemmas.{goes_on, halts, leaves_nothing, raises, solutions_next, there}
use Rattle.tree_model.specs.EventViews.{place_view}
use Rattle.tree_core.specs.Histories.{state_of}
use Rattle.front_goals.proofs.answers.take_answer.Goals as goal

pub go_on-requires-clause-leaves : goal.go_on-requires-clause-leaves
go_on-requires-clause-leaves g c =
    goes_on c.args.region c.args.worker (place_view c.args.at) (state_of c.args.tree.now.history) c.args.answer c.requires.tells c.fronts_are_read.ensures.once c.in-Went.is

pub close-requires-clause-nothing : goal.close-requires-clause-nothing
close-requires-clause-nothing g c =
    leaves_nothing c.args.region c.args.worker (place_view c.args.at) (state_of c.args.tree.now.history) c.args.answer c.requires.tells c.in-Fails.is

pub raise_at_front-requires-clause-raises : goal.raise_at_front-requires-clause-raises
raise_at_front-requires-clause-raises g c =
    raises c.args.region c.args.worker (place_view c.args.at) (state_of c.args.tree.now.history) c.args.answer c.requires.tells c.in-Raised.ball c.in-Raised.is

pub halt-requires-clause-halts : goal.halt-requires-clause-halts
halt-requires-clause-halts g c =
    halts c.args.region c.args.worker (place_view c.args.at) (state_of c.args.tree.now.history) c.args.answer c.requires.tells c.in-Halted.status c.args.tree.now.history.job c.in-Halted.is

pub solve_at_front-requires-clause-there : goal.solve_at_front-requires-clause-there
solve_at_front-requires-clause-there g c =
    there c.args.region c.args.worker (place_view c.args.at) (state_of c.args.tree.now.history) c.args.answer c.requires.tells c.in-Solutions.solutions c.in-Solutions.is

pub solve_at_front-requires-clause-next : goal.solve_at_front-requires-clause-next
solve_at_front-requires-clause-next g c =
    solutions_next c.args.region c.args.worker (place_view c.args.at) (state_of c.args.tree.now.history) c.args.answer c.requires.tells c.in-Solutions.solutions c.in-Solutions.is

pub returns-in_ok-go_on-in-Went-clause-kept : goal.returns-in_ok-go_on-in-Went-clause-kept
returns-in_ok-go_on-in-Went-clause-kept g c =
    kept_after c.kept_regions_stay.ensures.stay c.args.tree.now.nodes.rows c.go_on.new.tree.nodes.rows (place_view c.args.at) (arc_value c.args.text.now) c.args.numbers.items c.args.region c.args.region c.in_ok-kept-in-Went.kept
    c.go_on.ensures.made c.requires.kept refl refl c.in_ok-kept-in-Went.ensures
