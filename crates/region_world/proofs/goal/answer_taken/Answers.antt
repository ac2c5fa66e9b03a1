use Rattle.std.proofs.Common.{map, subst}
use Rattle.run_model.specs.Goals.Outcomes.{Ball}
use Rattle.region_split.specs.StackOperations.{solution_here}
use Rattle.region_world.specs.WorldAnswers.{TellsReply}
use Rattle.region_world.proofs.ReplyLemmas.{once, none, replied_as, reply_leaves}
use Rattle.region_world.proofs.goal.answer_taken.Goals as goal

pub returns-in-Went-clause-leaves : goal.returns-in-Went-clause-leaves
returns-in-Went-clause-leaves c = λ reply told. let r = c.args.region.now in once r c.args.place c.requires.place reply (subst (TellsReply r reply) c.in-Went.is told)

pub returns-in-Fails-clause-leaves : goal.returns-in-Fails-clause-leaves
returns-in-Fails-clause-leaves c = λ reply told. let r = c.args.region.now in none r c.args.place reply (subst (TellsReply r reply) c.in-Fails.is told)

pub returns-in_ok-after-in-Raised-clause-leaves : goal.returns-in_ok-after-in-Raised-clause-leaves
returns-in_ok-after-in-Raised-clause-leaves c = λ reply told.
    let r = c.args.region.now in
    replied_as r c.args.place c.raise.new.region reply (Ball c.in-Raised.ball) c.in_ok-after-in-Raised.after (subst (TellsReply r reply) c.in-Raised.is told) c.in_ok-after-in-Raised.ensures.comes

pub returns-in-Halted-clause-leaves : goal.returns-in-Halted-clause-leaves
returns-in-Halted-clause-leaves c = λ reply told. subst (TellsReply c.args.region.now reply) c.in-Halted.is told

pub solutions_tried-requires-clause-there : goal.solutions_tried-requires-clause-there
solutions_tried-requires-clause-there c =
    let r = c.args.region.now in
    (subst (TellsReply r c.requires.tells.reply) c.in-Solutions.is c.requires.tells.tells).0

pub returns-in_ok-after-in-Solutions-clause-leaves : goal.returns-in_ok-after-in-Solutions-clause-leaves
returns-in_ok-after-in-Solutions-clause-leaves c = λ reply told.
    let r = c.args.region.now in
    let solutions = c.in-Solutions.solutions in
    reply_leaves r c.args.place c.solutions_tried.new.region (map (solution_here r) solutions) reply c.in_ok-after-in-Solutions.after
    (subst (TellsReply r reply) c.in-Solutions.is told).1 c.in_ok-after-in-Solutions.ensures.comes
