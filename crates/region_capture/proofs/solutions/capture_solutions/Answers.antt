use Rattle.std.proofs.Common.{sym, subst}
use Rattle.region_split.specs.declared.choice.Alternatives.TheVariants.{Solutions}
use Rattle.region_capture.specs.CaptureSteps.{CapturesUpTo, entries_here}
use Rattle.region_capture.specs.declared.captured.CapturedKind.TheVariants.{Choice}
use Rattle.region_capture.proofs.MeantLemmas.{captures_none}
use Rattle.region_capture.proofs.SolutionsLemmas.{solutions_on, solutions_there}
use Rattle.region_capture.proofs.solutions.capture_solutions.Goals as goal

pub loop-solution-init : goal.loop-solution-init
loop-solution-init c =
    let r = c.args.region.now in
    let all = entries_here r (Solutions c.args.solutions) c.args.after in
    record {
      captured = subst (CapturesUpTo Choice r r c.args.items.now c.args.items.now all all) (sym c.new-alternatives.ensures.items) (captures_none Choice r c.args.items.now all);
      there = c.requires.there;
      position = c.requires.after;
    }

pub loop-solution-preserved : goal.loop-solution-preserved
loop-solution-preserved c =
    let l = c.loop-solution in
    let own = c.in_ok-captured.ensures in
    record {
      captured = solutions_on c.args.region.now l.region c.capture_solution.new.region c.args.items.now l.items c.capture_solution.new.items (entries_here c.args.region.now (Solutions c.args.solutions) c.args.after) c.in-Some.solution l.left c.take.new.self c.in_ok-captured.others c.args.after
          l.alternatives.items c.push_captured.new.alternatives.items c.in_ok-captured.captured l.invariant.captured c.in-Some.ensures own c.in_ok-push_captured.ensures;
      there = solutions_there l.region c.capture_solution.new.region l.items c.capture_solution.new.items c.in-Some.solution c.take.new.self c.in_ok-captured.others c.args.after c.in_ok-captured.captured own;
      position = own.position;
    }
