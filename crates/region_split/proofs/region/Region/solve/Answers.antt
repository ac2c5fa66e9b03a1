use Rattle.region_split.specs.SolutionTrials.{TriesSolution, Solves}
use Rattle.region_split.proofs.CallLemmas.{if_ok_then}
use Rattle.region_split.proofs.SolveLemmas.{first_solves}
use Rattle.region_split.proofs.region.Region.solve.Goals as goal

pub returns : goal.returns
returns c =
    let r = c.args.self.now in
    if_ok_then (TriesSolution c.push_choice.new.self c.try_solution-2.new.self c.in-Some.first c.args.after c.in_ok-cut.cut) (Solves r c.try_solution-2.new.self c.args.solutions c.args.after) c.try_solution-2.result
    (λ reached tried. first_solves r c.args.after c.args.solutions c.in-Some.first c.take.new.self c.in-Some.ensures c.in_ok-cut.cut c.in_ok-cut.ensures.count c.push_choice.new.self c.try_solution-2.new.self reached c.in_ok-push_choice.ensures.ok c.requires.after tried)
    c.try_solution-2.ensures
