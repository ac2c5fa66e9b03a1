use Rattle.std.proofs.Common.{ℕ, List, Option, ap, ◌∙◌, subst}
use Rattle.au_term.specs.Term.{Term}
use Rattle.cell_store.specs.StoreView.{with_numbers}
use Rattle.run_model.specs.Machine.Items.{removal_items}
use Rattle.region_split.specs.Regions.{RegionView}
use Rattle.region_split.specs.SolutionTrials.{AreAllSolved, AreSolvedOr, equations_here}
use Rattle.region_split.specs.StackOperations.{PutsBefore, PutsGoals}
use Rattle.region_split.specs.declared.solution.Equation.{Equation}
use Rattle.region_split.proofs.SolveLemmas.{goes_on}
use Rattle.region_split.proofs.region.Region.try_solution.Goals as goal

pub returns : goal.returns
returns c =
    let r = c.args.self.now in
    let r1 = c.fresh.new.self in
    let r2 = c.solve_all.new.self in
    let r3 = c.push_removal.new.self in
    let r4 = c.push_goals.new.self in
    let next = c.in_ok-following.following in
    let p = c.in_ok-position.position in
    let widened = c.in_ok-fresh.ensures.ok ∙ ap (λ n. (let x : RegionView = record r { store = with_numbers n r.store } in x)) c.variables.ensures in
    let solved = subst (AreSolvedOr r1 r2 (equations_here r1 c.equations.result.now)) c.if-not-branch.false c.in_ok-solve_all.ensures in
    let own = subst (λ (es : List Equation). AreAllSolved r1 r2 (equations_here r1 es)) c.equations.ensures solved in
    let removal = subst (λ (o : Option ℕ). PutsBefore r2 r3 (λ heights. removal_items o) c.args.cut c.args.after next) c.removes.ensures c.in_ok-following.ensures in
    let put = subst (λ (gs : List Term). PutsGoals r3 r4 gs c.args.cut next p) c.goals.ensures c.in_ok-position.ensures in
    goes_on r r1 r2 c.args.solution.now c.args.after c.args.cut c.requires.after widened own r3 next removal r4 p put
