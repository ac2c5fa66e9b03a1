use Rattle.std.proofs.Common.{sym, ap, ◌∙◌, true, false}
use Rattle.run_model.specs.Goals.BuiltinAnswers.{holds_if}
use Rattle.region_control.specs.declared.replies.AfterGoal.TheVariants.{At, Failed}
use Rattle.region_control.proofs.ControlLemmas.{place_in}
use Rattle.region_builtins.proofs.ReplyLemmas.{holds, fails}
use Rattle.region_builtins.proofs.UndoneLemmas.{same_region}
use Rattle.region_builtins.proofs.goal.differ.Goals as goal

pub are_apart-requires-clause-after : goal.are_apart-requires-clause-after
are_apart-requires-clause-after c = place_in c.args.region.now c.args.place c.requires.place

pub returns-then-branch-clause-comes : goal.returns-then-branch-clause-comes
returns-then-branch-clause-comes c =
    same_region c.args.region.now c.are_apart.new.region _ (holds_if true) c.args.place (At c.args.place.after) c.in_ok-are_apart.ensures.same (ap holds_if (sym c.if-branch.true ∙ c.in_ok-are_apart.ensures.apart)) (holds c.args.region.now c.args.place c.requires.place)

pub returns-else-branch-clause-comes : goal.returns-else-branch-clause-comes
returns-else-branch-clause-comes c =
    same_region c.args.region.now c.are_apart.new.region _ (holds_if false) c.args.place Failed c.in_ok-are_apart.ensures.same (ap holds_if (sym c.if-branch.false ∙ c.in_ok-are_apart.ensures.apart)) (fails c.args.region.now c.args.place c.requires.place)
