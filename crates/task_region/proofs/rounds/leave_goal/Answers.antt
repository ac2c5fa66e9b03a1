use Rattle.std.proofs.lemmas.Result.{IfOk-weaker}
use Rattle.task_region.proofs.RoundLemmas.{no_mark, goal_left}
use Rattle.task_region.proofs.rounds.leave_goal.Goals as goal

pub push_item-requires-clause-mark : goal.push_item-requires-clause-mark
push_item-requires-clause-mark c = no_mark c.args.region.now.choices c.args.place.cut c.args.item c.requires.goal

pub returns : goal.returns
returns c = IfOk-weaker c.push_item.result _ _ (λ p put. goal_left c.args.region.now c.push_item.new.self c.args.item c.args.place c.requires p put) c.push_item.ensures.ok
