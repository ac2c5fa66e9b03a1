use Rattle.std.proofs.Common.{◌-◌, ap, ◌∙◌, subst}
use Rattle.region_split.specs.Regions.{RegionView}
use Rattle.region_split.specs.StackOperations.{TakesSolution}
use Rattle.region_split.proofs.BacktrackingLemmas.{clause_next, solution_next, no_solution, catch_passed}
use Rattle.region_split.proofs.region.Region.take_next.Goals as goal

pub returns-in-Some-clause-takes : goal.returns-in-Some-clause-takes
returns-in-Some-clause-takes c =
    clause_next c.args.self.now c.next_clause.new.self c.try_clause.new.self c.in-Some.trial _ c.in_ok-reached.reached c.resumed_at.result c.in-Some.ensures (ap (λ n. n - 1) c.in_ok-cut.ensures.count) c.try_clause.ensures.kept c.in_ok-reached.ensures.tried c.resumed_at.ensures

pub returns-in-Some-next_solution-clause-takes : goal.returns-in-Some-next_solution-clause-takes
returns-in-Some-next_solution-clause-takes c =
    solution_next c.args.self.now c.next_solution.new.self c.try_solution.new.self c.in-Some-next_solution.solution c.in-Some-next_solution.after _ c.in_ok-reached-2.reached c.resumed_at-in-Some-next_solution.result
    (subst (λ (x : RegionView). TakesSolution x c.next_solution.new.self c.in-Some-next_solution.solution c.in-Some-next_solution.after) c.in_default.ensures.1 c.in-Some-next_solution.ensures) (ap (λ n. n - 1) c.in_ok-cut.ensures.count) c.in_ok-reached-2.ensures c.resumed_at-in-Some-next_solution.ensures

pub returns-in-Solutions-clause-takes : goal.returns-in-Solutions-clause-takes
returns-in-Solutions-clause-takes c =
    no_solution c.args.self.now c.next_clause.new.self c.next_solution.new.self c.take_newest-alternatives.new.self c.take_newest-alternatives.result c.in-Solutions.field-0 c.in_default.ensures.1 c.in_default-next_solution.ensures.0 c.in_default-next_solution.ensures.1 c.take_newest-alternatives.ensures c.in-Solutions.is

pub returns-in-Catch-clause-takes : goal.returns-in-Catch-clause-takes
returns-in-Catch-clause-takes c =
    catch_passed c.args.self.now c.next_solution.new.self c.take_newest-alternatives.new.self c.take_newest-alternatives.result c.in-Catch.catcher c.in-Catch.recovery (c.in_default-next_solution.ensures.1 ∙ c.in_default.ensures.1) c.take_newest-alternatives.ensures c.in-Catch.is
