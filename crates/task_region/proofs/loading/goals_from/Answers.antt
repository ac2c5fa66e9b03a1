use Rattle.std.proofs.Common.{◌≡◌, ◌+◌, [], ◌∷◌, length, length-append, map, Some, sym, ap, ◌∙◌, subst, arith}
use Rattle.std.specs.List.{slice_get}
use Rattle.run_model.specs.Machine.Items.{GoalItem}
use Rattle.task_region.specs.DeferredItems.{item_of, AreGoalsFrom}
use Rattle.task_region.specs.declared.deferred.DeferredItem.TheVariants.{Goal}
use Rattle.task_region.proofs.FoundLemmas.{item_found, goals_further}
use Rattle.task_region.proofs.loading.goals_from.Goals as goal

pub loop-term-preserved : goal.loop-term-preserved
loop-term-preserved c =
    let f = c.in-Some-Goal in
    let items = map item_of c.args.deferred.now in
    let old = c.loop-term.goals.items in
    let shared = c.in_ok-share.field-0 in
    let at_is = c.loop-term.invariant.1 in
    let h = f.ensures.lookup in
    let there = item_found c.args.deferred.now c.loop-term.at f.field-0.now (Goal f.term f.scope) h.3.0 h.1 f.field-0-is in
    let found : slice_get items (c.args.number + length old) ≡ Some (GoalItem shared c.args.cut)
    = ap (slice_get items) (sym at_is) ∙ there ∙ ap (λ cut. Some (GoalItem f.term cut)) c.if-scope-cut.false ∙ ap (λ t. Some (GoalItem t c.args.cut)) (sym c.in_ok-share.ensures) in
    let pushed = c.in_ok-push.ensures.items in
    let many = ap length pushed ∙ length-append old (shared ∷ []) in (
      subst (AreGoalsFrom items c.args.cut c.args.number) (sym pushed) (goals_further items c.args.cut c.args.number old shared c.loop-term.invariant.0 found),
      omega (arith, at_is, many),
    )
