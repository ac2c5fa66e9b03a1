use Rattle.std.proofs.Common.{List, sym, subst}
use Rattle.clause_compile.specs.declared.event.Branch.{Branch}
use Rattle.region_capture.specs.declared.captured.CapturedAlternative.{CapturedAlternative}
use Rattle.task_publishing.proofs.MadeLemmas.{BranchesUpTo, one_branch}
use Rattle.task_publishing.proofs.branches.branches_of.Goals as goal

pub loop-alternative-preserved : goal.loop-alternative-preserved
loop-alternative-preserved c =
    let g = c.args.goals.now in
    let all = c.args.alternatives.items in
    let left = c.next.new.self.rest.items in
    let was = subst (λ (xs : List CapturedAlternative). BranchesUpTo g c.args.base c.args.first all xs c.loop-alternative.branches.items)
    c.in-Some.ensures.steps.0 c.loop-alternative.invariant in
    subst (λ (xs : List Branch). BranchesUpTo g c.args.base c.args.first all left xs) (sym c.in_ok-push-2.ensures.items)
    (one_branch g c.args.base c.args.first all left c.loop-alternative.branches.items c.in-Some.alternative c.in_ok-branch_of.field-0 was
    c.in_ok-branch_of.ensures)
