use Rattle.std.proofs.Common.{◌≡◌, List, [], ◌∷◌, length, get_or, slice_get, Some, true, map, sym, ap, ◌∙◌, subst, arith}
use Rattle.std.specs.Arc.{arc_value}
use Rattle.tree_model.specs.EventViews.{place_view}
use Rattle.tree_model.specs.Levels.{Place}
use Rattle.tree_nodes.specs.Bodies.{body_view, kind_view}
use Rattle.tree_nodes.specs.declared.body.NodeBody.{NodeBody}
use Rattle.task_region.specs.TaskLoads.{IsBoundOver}
use Rattle.task_stops.specs.Landings.{is_beside_sleeper}
use Rattle.task_stops.specs.TakenBalls.{TakesBall}
use Rattle.task_stops.proofs.AskedLemmas.{catcher_below, made_with, passes_on, recovers, second_there}
use Rattle.task_stops.proofs.WokenLemmas.{got_at}
use Rattle.task_stops.proofs.recovery.recovery_body.Goals as goal

pub segment_over-requires-clause-catcher : goal.segment_over-requires-clause-catcher
segment_over-requires-clause-catcher c r b =
    let rows = c.args.nodes.now.rows in
    let asleep : is_beside_sleeper rows (place_view c.args.at) ≡ true = sym c.is_beside_sleeper.ensures ∙ c.if-not-is_beside_sleeper.false in
    let kind = ap kind_view (ap (λ (b : NodeBody). b.kind) (sym c.deref.ensures) ∙ c.in-Catch.is) in
    let bound = subst (λ (ps : List Place). IsBoundOver rows ps (arc_value c.args.text.now) r) (ap (map place_view) c.deref-2.ensures.value ∙ c.in_ok-way.ensures) b in
    catcher_below rows (place_view c.args.at) (map place_view c.args.above.now) (body_view (arc_value c.body-body.result.now)) c.in-Catch.catcher c.in-Catch.recovery c.body-body.ensures.body kind asleep
    c.requires.readable (arc_value c.args.text.now) r bound

pub returns-in_default-2 : goal.returns-in_default-2
returns-in_default-2 c =
    let rows = c.args.nodes.now.rows in
    let asleep : is_beside_sleeper rows (place_view c.args.at) ≡ true = sym c.is_beside_sleeper.ensures ∙ c.if-not-is_beside_sleeper.false in
    let kind = ap kind_view (ap (λ (b : NodeBody). b.kind) (sym c.deref.ensures) ∙ c.in-Catch.is) in
    let bound = subst (λ (ps : List Place). IsBoundOver rows ps (arc_value c.args.text.now) c.in_ok-segment.ensures.region) (ap (map place_view) c.deref-2.ensures.value ∙ c.in_ok-way.ensures) c.in_ok-segment.ensures.bound in
    passes_on rows (place_view c.args.at) (map place_view c.args.above.now) (body_view (arc_value c.body-body.result.now)) c.in-Catch.catcher c.in-Catch.recovery c.body-body.ensures.body kind asleep
    c.requires.readable (arc_value c.args.text.now) c.in_ok-segment.ensures.region bound c.args.ball.now
    (subst (TakesBall c.in_ok-segment.ensures.region.store.now c.in-Catch.catcher c.args.ball.now) c.in_default-2.is c.in_ok-segment.ensures.takes)

pub index-requires : goal.index-requires
index-requires c =
    let rows = c.args.nodes.now.rows in
    let asleep : is_beside_sleeper rows (place_view c.args.at) ≡ true = sym c.is_beside_sleeper.ensures ∙ c.if-not-is_beside_sleeper.false in
    let two = second_there rows (place_view c.args.at) (arc_value c.body-body.result.now).branches.items asleep c.body-body.ensures.branches in
    let same = ap (λ (b : NodeBody). length b.branches.items) c.deref-3.ensures in
    let long = c.deref-3.result.now.branches.ok.0 in
    omega (arith, two, same, long)

pub returns : goal.returns
returns c =
    let rows = c.args.nodes.now.rows in
    let body = arc_value c.body-body.result.now in
    let asleep : is_beside_sleeper rows (place_view c.args.at) ≡ true = sym c.is_beside_sleeper.ensures ∙ c.if-not-is_beside_sleeper.false in
    let kind = ap kind_view (ap (λ (b : NodeBody). b.kind) (sym c.deref.ensures) ∙ c.in-Catch.is) in
    let bound = subst (λ (ps : List Place). IsBoundOver rows ps (arc_value c.args.text.now) c.in_ok-segment.ensures.region) (ap (map place_view) c.deref-2.ensures.value ∙ c.in_ok-way.ensures) c.in_ok-segment.ensures.bound in
    let second = c.index.result.now in
    let there : slice_get body.branches.items 1 ≡ Some second =
    got_at body.branches.items 1 second (second_there rows (place_view c.args.at) body.branches.items asleep c.body-body.ensures.branches)
    (c.index.ensures ∙ ap (λ (b : NodeBody). get_or b.branches.items 1 second) c.deref-3.ensures) in (
      asleep,
      recovers rows (place_view c.args.at) (map place_view c.args.above.now) (body_view body) c.in-Catch.catcher c.in-Catch.recovery c.body-body.ensures.body kind asleep c.requires.readable
          (arc_value c.args.text.now) c.in_ok-segment.ensures.region bound c.args.ball.now second c.in-Some.segment (body_view (arc_value c.in_ok-made.made)) there
          (subst (TakesBall c.in_ok-segment.ensures.region.store.now c.in-Catch.catcher c.args.ball.now) c.in-Some.is c.in_ok-segment.ensures.takes)
          (made_with c.in-Some.segment.base c.in-Some.segment _ (body_view (arc_value c.in_ok-made.made)) c.in_ok-made.ensures.single.kind
          (c.in_ok-made.ensures.branch ∙ ap (λ goals. record { goals = goals; segment = c.in-Some.segment } ∷ []) c.in_ok-goals.ensures) c.in_ok-made.ensures.segment),
    )
