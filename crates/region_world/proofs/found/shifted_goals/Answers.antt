use Rattle.std.proofs.Common.{◌∙◌, ◌++◌, map, ap, ap₂}
use Rattle.au_term.specs.Shifted.{shifted}
use Rattle.clause_compile.specs.CompiledClauses.{goal_items}
use Rattle.run_model.specs.Programs.Bodies.{clause_goals_of}
use Rattle.region_world.proofs.FoundLemmas.{item_goals, goals_again}
use Rattle.region_world.proofs.found.shifted_goals.Goals as goal

pub loop-item-init : goal.loop-item-init
loop-item-init c =
    let gs = map (shifted c.args.base) (clause_goals_of c.args.clause.now.body) in
    ap₂ (λ xs items. xs ++ item_goals items) c.new-terms.ensures.items (c.into_iter-item-iterator.ensures.into_iter_gives ∙ (c.items-item-items.ensures ∙ c.in_ok-goals.ensures))
    ∙ (ap (λ rest. item_goals (goal_items _ gs ++ rest)) c.empty.ensures ∙ goals_again _ gs)
