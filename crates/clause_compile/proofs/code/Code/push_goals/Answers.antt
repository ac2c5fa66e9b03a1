use Rattle.std.proofs.Common.{◌<◌, length, get_or, take, ap, ◌∙◌, sym, subst, arith}
use Rattle.std.proofs.lemmas.List.{take_all}
use Rattle.au_term.specs.Term.{Term}
use Rattle.au_term.specs.PrefixOrder.{cells_of, subterm}
use Rattle.clause_compile.specs.GoalPlaces.{subterms_at}
use Rattle.clause_compile.specs.Places.{AreAllPlaced}
use Rattle.clause_compile.proofs.CodeLemmas.{cells_kept, one_more_placed, each_get, next_subterm, goal_placed, none_placed}
use Rattle.clause_compile.proofs.code.Code.push_goals.Goals as goal

pub loop-at-init : goal.loop-at-init
loop-at-init c = none_placed c.args.self.now c.new-goals.result.items c.new-goals.ensures.items

pub subterm-requires : goal.subterm-requires
subterm-requires c =
    let lt = each_get (λ at. at < length (cells_of c.args.clause.now.body)) c.goal_places-places.result.now c.loop-at.at-index c.goal_places-places.ensures.within c.loop-at-test.true in
    subst (λ (t : Term). get_or c.goal_places-places.result.now c.loop-at.at-index 0 < length (cells_of t)) (sym c.body-body.ensures.body) lt

pub push_cells-requires-clause-cells : goal.push_cells-requires-clause-cells
push_cells-requires-clause-cells c = cells_kept c.subterm.result.now (subterm (get_or c.goal_places-places.result.now c.loop-at.at-index 0) c.body-body.result.now) c.subterm.ensures.cells

pub loop-at-preserved : goal.loop-at-preserved
loop-at-preserved c =
    let places = c.goal_places-places.result.now in
    let body = c.body-body.result.now in
    let t = subterm (get_or places c.loop-at.at-index 0) body in
    subst (λ ts. AreAllPlaced c.args.self.now c.push_cells.new.self ts c.push.new.self.items) (sym (next_subterm body places c.loop-at.at-index c.loop-at-test.true))
    (one_more_placed c.args.self.now c.loop-at.self c.push_cells.new.self (subterms_at body (take c.loop-at.at-index places)) t c.loop-at.goals.items c.push.new.self.items c.in_ok-goal.goal c.loop-at.invariant
    (goal_placed c.loop-at.self c.push_cells.new.self c.subterm.result.now t c.in_ok-goal.goal c.subterm.ensures.cells c.in_ok-goal.ensures) c.in_ok-push.ensures.items)

pub returns : goal.returns
returns c =
    let places = c.goal_places-places.result.now in
    let all = take_all c.loop-at.at-index places (omega arith) in
    let is = ap (subterms_at c.body-body.result.now) all ∙ (ap (λ (t : Term). subterms_at t places) c.body-body.ensures.body ∙ c.goal_places-places.ensures.are) in
    subst (λ ts. AreAllPlaced c.args.self.now c.loop-at.self ts c.loop-at.goals.items) is c.loop-at.invariant
