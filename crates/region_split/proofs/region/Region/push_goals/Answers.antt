use Rattle.std.proofs.Common.{◌≡◌, ◌+◌, ◌-◌, ◌∷◌, List, length, drop, sym, ap, ◌∙◌, subst, arith}
use Rattle.std.proofs.lemmas.List.{drop_all}
use Rattle.au_term.specs.Term.{Term}
use Rattle.region_split.specs.StackOperations.{PutsGoals}
use Rattle.region_split.proofs.PutGoalLemmas.{no_goals_put, goal_put, goal_first}
use Rattle.region_split.proofs.region.Region.push_goals.Goals as goal

pub loop-left-init : goal.loop-left-init
loop-left-init c =
    let goals = c.args.goals.now in
    record { within = omega arith; put = no_goals_put c.args.self.now (drop (length goals) goals) c.args.cut c.args.after (drop_all (length goals) goals (omega arith)) c.requires.after }

pub loop-left-preserved : goal.loop-left-preserved
loop-left-preserved c =
    let goals = c.args.goals.now in
    let i = c.loop-left.left - 1 in
    let g = c.index-goals-left.result in
    let within = c.loop-left.invariant.within in
    let more = c.loop-left-test.true in
    let next : c.loop-left.left ≡ i + 1 = omega (arith, more) in
    let first = goal_first goals i g (omega (arith, within, more)) c.index-goals-left.is ∙ ap (λ n. g ∷ drop n goals) (sym next) in
    record {
      within = omega (arith, within);
      put = subst (λ (gs : List Term). PutsGoals c.args.self.now c.push_item.new.self gs c.args.cut c.args.after c.in_ok-position.position) (sym first)
          (goal_put c.args.self.now c.loop-left.self c.copy_in.new.self c.push_item.new.self (drop c.loop-left.left goals) g c.in_ok-value.value c.args.cut c.args.after c.loop-left.position c.in_ok-position.position c.loop-left.invariant.put c.in_ok-value.ensures.text c.in_ok-value.ensures.stays c.in_ok-value.ensures.term c.in_ok-position.ensures.ok);
    }
