use Rattle.std.proofs.Common.{ap, sym, subst, ◌∙◌}
use Rattle.cell_store.specs.StoreView.{over_floor, with_numbers}
use Rattle.region_split.specs.QueryEnds.{MayComeOver}
use Rattle.region_split.specs.Regions.{RegionView}
use Rattle.region_split.specs.declared.choice.Alternatives.TheVariants.{QueryEnd}
use Rattle.text_load.specs.QueryView.{goal_terms}
use Rattle.stack_run.proofs.QueryLemmas.{goals_there, query_begun, terms_again}
use Rattle.stack_run.proofs.query.begin.Goals as goal

pub set_floor-requires : goal.set_floor-requires
set_floor-requires c = ap (λ (r : RegionView). r.choices) (c.in_ok-fresh.ensures.ok ∙ ap (λ (r : RegionView). record r { store = with_numbers c.in-Ok.variables r.store }) c.requires)

pub push_choice-requires-clause-values : goal.push_choice-requires-clause-values
push_choice-requires-clause-values c = ap (λ (r : RegionView). r.store.now) c.set_floor.ensures ∙ sym (ap (λ (r : RegionView). r.store.floor) c.set_floor.ensures)

pub push_choice-requires-clause-over : goal.push_choice-requires-clause-over
push_choice-requires-clause-over c =
    subst (λ (r : RegionView). MayComeOver r.choices QueryEnd)
    (sym (c.set_floor.ensures ∙ ap (λ (r : RegionView). record r { store = over_floor r.store }) (c.in_ok-fresh.ensures.ok ∙ ap (λ (r : RegionView). record r { store = with_numbers c.in-Ok.variables r.store }) c.requires))) tt

pub push_goals-requires-clause-goals : goal.push_goals-requires-clause-goals
push_goals-requires-clause-goals c =
    let q = c.args.query.now in
    goals_there c.args.region.now.text q c.in-Ok.variables c.set_floor.new.self c.push_choice.new.self c.push_choice.new.self c.nothing_left-end.result
    (c.set_floor.ensures ∙ ap (λ (r : RegionView). record r { store = over_floor r.store }) (c.in_ok-fresh.ensures.ok ∙ ap (λ (r : RegionView). record r { store = with_numbers c.in-Ok.variables r.store }) c.requires)) (c.in-Ok.ensures.1 ∙ c.vars.ensures) c.in_ok-push_choice.ensures.ok
    c.deref.result.now (c.deref.ensures.value ∙ (c.in_ok-goals.ensures ∙ (ap goal_terms c.goals.ensures ∙ terms_again q.goals)))

pub returns : goal.returns
returns c =
    let q = c.args.query.now in
    query_begun c.args.region.now.text q c.in-Ok.variables c.set_floor.new.self c.push_choice.new.self c.push_goals.new.self c.nothing_left-end.result
    (c.set_floor.ensures ∙ ap (λ (r : RegionView). record r { store = over_floor r.store }) (c.in_ok-fresh.ensures.ok ∙ ap (λ (r : RegionView). record r { store = with_numbers c.in-Ok.variables r.store }) c.requires)) (c.in-Ok.ensures.1 ∙ c.vars.ensures) c.in_ok-push_choice.ensures.ok
    c.nothing_left-after.result c.deref.result.now c.in_ok-cut.cut c.in_ok-position.position (c.deref.ensures.value ∙ (c.in_ok-goals.ensures ∙ (ap goal_terms c.goals.ensures ∙ terms_again q.goals))) c.nothing_left-after.ensures.items c.in_ok-cut.ensures.height c.in_ok-cut.ensures.count c.in_ok-position.ensures
