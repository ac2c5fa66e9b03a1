use Rattle.std.proofs.Common.{subst}
use Rattle.region_split.specs.SolutionTrials.{AreSolutionsHere}
use Rattle.front_goals.proofs.BranchLemmas.{all_made, back_twice, branch_back, here_still, nothing_made, one_more, stays_as_it_is}
use Rattle.front_goals.proofs.branches.solution_branches.Goals as goal

pub loop-solution-init : goal.loop-solution-init
loop-solution-init c =
    let r = c.args.region.now in
    record {
      back = stays_as_it_is r c.args.position c.requires.position;
      there = c.requires.there;
      first = nothing_made r c.args.node c.args.follows.now c.args.solutions c.new-branches.result.items c.new-branches.ensures.items;
    }

pub solution_branch-requires-clause-there : goal.solution_branch-requires-clause-there
solution_branch-requires-clause-there c =
    let l = c.loop-solution in
    let both = subst (AreSolutionsHere c.args.region.now) c.in-Some.ensures l.invariant.there in
    here_still c.args.region.now l.region c.args.position l.invariant.back c.in-Some.solution both.0

pub loop-solution-preserved : goal.loop-solution-preserved
loop-solution-preserved c =
    let r = c.args.region.now in
    let l = c.loop-solution in
    let both = subst (AreSolutionsHere r) c.in-Some.ensures l.invariant.there in
    let own = branch_back r l.region c.args.position l.invariant.back c.args.node c.args.follows.now c.in-Some.solution both.0 c.in_ok-branch.branch c.in_ok-branch.ensures.is in
    record {
      back = back_twice r l.region c.solution_branch.new.region c.args.position l.invariant.back c.in_ok-branch.ensures.back;
      there = both.1;
      first = one_more r c.args.node c.args.follows.now c.args.solutions c.in-Some.solution l.left c.take.new.self l.branches.items c.push_branch.new.branches.items
          c.in_ok-branch.branch l.invariant.first c.in-Some.ensures own c.in_ok-push_branch.ensures;
    }

pub returns-clause-branches : goal.returns-clause-branches
returns-clause-branches c =
    let l = c.loop-solution in
    all_made c.args.region.now c.args.node c.args.follows.now c.args.solutions l.left l.branches.items l.invariant.first (c.in_default.ensures.0)
