use Rattle.std.proofs.Common.{◌≡◌, List, sym, ap, ◌∙◌, subst}
use Rattle.cell_store.specs.StoreView.{with_numbers}
use Rattle.region_split.specs.Regions.{RegionView}
use Rattle.region_split.specs.SolutionTrials.{AreEquationsHere, equations_here}
use Rattle.region_split.specs.declared.solution.Equation.{Equation}
use Rattle.front_goals.specs.SolvedSolutions.{WritesSolvedOr}
use Rattle.front_goals.proofs.TrialLemmas.{equations_there, not_solved, solved, taken_back}
use Rattle.front_goals.proofs.trial.solved_segment.Goals as goal

pub bindings_of-requires : goal.bindings_of-requires
bindings_of-requires c =
    let r1 = c.push_choice.new.self in
    let r2 = c.fresh.new.self in
    let fresh = c.in_ok-base.ensures.ok ∙ ap (λ n. (let x : RegionView = record r1 { store = with_numbers n r1.store } in x)) c.variables-vars.ensures in
    subst (AreEquationsHere r2) (sym c.equations.ensures)
    (equations_there c.args.region.now r1 r2 c.args.solution.now c.args.position c.in_ok-push_choice.ensures.ok fresh c.requires.there)

pub returns-in-Some-clause-solves : goal.returns-in-Some-clause-solves
returns-in-Some-clause-solves c =
    let r = c.args.region.now in
    let s = c.args.solution.now in
    let r1 = c.push_choice.new.self in
    let r2 = c.fresh.new.self in
    let r3 = c.bindings_of.new.region in
    let fresh = c.in_ok-base.ensures.ok ∙ ap (λ n. (let x : RegionView = record r1 { store = with_numbers n r1.store } in x)) c.variables-vars.ensures in
    let base_is : c.from.result ≡ r.store.now.next = c.from.ensures ∙ c.in_ok-base.ensures.first ∙ ap (λ (x : RegionView). x.store.now.next) c.in_ok-push_choice.ensures.ok.others in
    let vars_is : c.from-in-Some.result ≡ s.variables = c.from-in-Some.ensures ∙ c.variables-vars.ensures in
    let so = subst (λ (es : List Equation). WritesSolvedOr r2 r3 (equations_here r2 es) c.in_ok-bindings.bindings) c.equations.ensures c.in_ok-bindings.ensures.solves in
    solved r r1 r2 s c.args.position c.in_ok-push_choice.ensures.ok fresh r3 c.take_newest-mark.new.self c.take_newest-mark.result c.ends_are_oldest.ensures.marks c.in_ok-base.ensures.stays
    c.in_ok-bindings.ensures.stays c.in_ok-bindings.ensures.keeps c.take_newest-mark.ensures c.in-Some.bindings _
    (subst (WritesSolvedOr r2 r3 (equations_here r2 s.equations)) c.in-Some.is so)
    (cc (base_is, vars_is))

pub returns-in-Some-clause-back : goal.returns-in-Some-clause-back
returns-in-Some-clause-back c =
    let r1 = c.push_choice.new.self in
    let fresh = c.in_ok-base.ensures.ok ∙ ap (λ n. (let x : RegionView = record r1 { store = with_numbers n r1.store } in x)) c.variables-vars.ensures in
    taken_back c.args.region.now r1 c.fresh.new.self c.args.solution.now c.args.position c.in_ok-push_choice.ensures.ok fresh c.bindings_of.new.region c.take_newest-mark.new.self c.take_newest-mark.result
    c.ends_are_oldest.ensures.marks c.in_ok-base.ensures.stays c.in_ok-bindings.ensures.stays c.in_ok-bindings.ensures.keeps c.take_newest-mark.ensures

pub returns-clause-solves : goal.returns-clause-solves
returns-clause-solves c =
    let r1 = c.push_choice.new.self in
    let r2 = c.fresh.new.self in
    let r3 = c.bindings_of.new.region in
    let s = c.args.solution.now in
    let fresh = c.in_ok-base.ensures.ok ∙ ap (λ n. (let x : RegionView = record r1 { store = with_numbers n r1.store } in x)) c.variables-vars.ensures in
    let so = subst (λ (es : List Equation). WritesSolvedOr r2 r3 (equations_here r2 es) c.in_ok-bindings.bindings) c.equations.ensures c.in_ok-bindings.ensures.solves in
    not_solved c.args.region.now r1 r2 s c.args.position c.in_ok-push_choice.ensures.ok fresh r3 c.take_newest-mark.new.self c.take_newest-mark.result c.ends_are_oldest.ensures.marks
    c.in_ok-base.ensures.stays c.in_ok-bindings.ensures.stays c.in_ok-bindings.ensures.keeps c.take_newest-mark.ensures
    (subst (WritesSolvedOr r2 r3 (equations_here r2 s.equations)) c.in-None.is so)

pub returns-clause-back : goal.returns-clause-back
returns-clause-back c =
    let r1 = c.push_choice.new.self in
    let fresh = c.in_ok-base.ensures.ok ∙ ap (λ n. (let x : RegionView = record r1 { store = with_numbers n r1.store } in x)) c.variables-vars.ensures in
    taken_back c.args.region.now r1 c.fresh.new.self c.args.solution.now c.args.position c.in_ok-push_choice.ensures.ok fresh c.bindings_of.new.region c.take_newest-mark.new.self c.take_newest-mark.result
    c.ends_are_oldest.ensures.marks c.in_ok-base.ensures.stays c.in_ok-bindings.ensures.stays c.in_ok-bindings.ensures.keeps c.take_newest-mark.ensures
