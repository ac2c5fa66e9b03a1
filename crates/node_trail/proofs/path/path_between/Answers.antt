use Rattle.std.proofs.Common.{List, [], ◌∷◌, ◌++◌, Option, Some, ap, sym, ◌∙◌, subst, arith, reverse}
use Rattle.au_term.specs.declared.segment.Segment.{Segment}
use Rattle.tree_model.specs.declared.places.AltRef.{AltRef}
use Rattle.tree_model.specs.EventViews.{place_view}
use Rattle.tree_nodes.specs.Folds.{IsAbove}
use Rattle.tree_nodes.specs.RowViews.{parent_view}
use Rattle.node_trail.proofs.TrailLemmas.{Trails, trails_begin, trails_left, trails_entered, left_on, entered_on, at_one, at_two}
use Rattle.node_trail.proofs.path.path_between.Goals.{then-first-second+in_ok-branch+in_ok-push+in_ok-branch-2+in_ok-push-2, else-first-second}
use Rattle.node_trail.proofs.path.path_between.Goals as goal

pub loop-first-init : goal.loop-first-init
loop-first-init c = record {
  first = c.requires.first;
  second = c.requires.second;
  trails = subst (λ (l : List Segment). Trails c.args.nodes.now (place_view c.args.from) (place_view c.args.to) (place_view c.args.from) (place_view c.args.to) l c.new-enter.result) (sym c.new-leave.ensures)
      (subst (λ (l : List Segment). Trails c.args.nodes.now (place_view c.args.from) (place_view c.args.to) (place_view c.args.from) (place_view c.args.to) [] l) (sym c.new-enter.ensures)
      (trails_begin c.args.nodes.now (place_view c.args.from) (place_view c.args.to)));
}

pub returns-in_default : goal.returns-in_default
returns-in_default c = left_on c.args.nodes.now (place_view c.args.from) (place_view c.args.to) (place_view c.loop-first.first) (place_view c.loop-first.second)
    c.loop-first.leave c.loop-first.enter c.leave_node.new.legs c.loop-first.enter c.loop-first.invariant.trails (omega (arith, c.if-second-first.true))
    (c.in_ok-above.ensures.parent ∙ ap (λ (o : Option AltRef). Some (parent_view o)) c.in_default.is)

pub loop-first-preserved-then-second-first : goal.loop-first-preserved-then-second-first
loop-first-preserved-then-second-first c =
    let above = subst (λ (o : Option AltRef). IsAbove c.args.nodes.now.rows (parent_view o) c.loop-first.first.node) c.in-Some.is c.in_ok-above.ensures.above in
    record {
      first = above.0;
      second = c.loop-first.invariant.second;
      trails = trails_left c.args.nodes.now (place_view c.args.from) (place_view c.args.to) (place_view c.loop-first.first) (place_view c.loop-first.second)
          (place_view c.in-Some.above) c.loop-first.leave c.loop-first.enter c.leave_node.new.legs c.loop-first.invariant.trails (omega (arith, c.if-second-first.true))
          (c.in_ok-above.ensures.parent ∙ ap (λ (o : Option AltRef). Some (parent_view o)) c.in-Some.is) c.in_ok-above.ensures.legs;
    }

pub returns-in_default-2 : goal.returns-in_default-2
returns-in_default-2 c = entered_on c.args.nodes.now (place_view c.args.from) (place_view c.args.to) (place_view c.loop-first.first) (place_view c.loop-first.second)
    c.loop-first.leave c.loop-first.enter c.loop-first.leave c.leave_node-else-second-first.new.legs c.loop-first.invariant.trails
    (omega (arith, c.if-second-first.false, c.loop-first-test.true))
    (c.in_ok-above-2.ensures.parent ∙ ap (λ (o : Option AltRef). Some (parent_view o)) c.in_default-2.is)

pub loop-first-preserved : goal.loop-first-preserved
loop-first-preserved c =
    let above = subst (λ (o : Option AltRef). IsAbove c.args.nodes.now.rows (parent_view o) c.loop-first.second.node) c.in-Some-2.is c.in_ok-above-2.ensures.above in
    record {
      first = c.loop-first.invariant.first;
      second = above.0;
      trails = trails_entered c.args.nodes.now (place_view c.args.from) (place_view c.args.to) (place_view c.loop-first.first) (place_view c.loop-first.second)
          (place_view c.in-Some-2.above) c.loop-first.leave c.loop-first.enter c.leave_node-else-second-first.new.legs c.loop-first.invariant.trails
          (omega (arith, c.if-second-first.false, c.loop-first-test.true))
          (c.in_ok-above-2.ensures.parent ∙ ap (λ (o : Option AltRef). Some (parent_view o)) c.in-Some-2.is) c.in_ok-above-2.ensures.legs;
    }

pub returns : goal.returns
returns c = elim c.if-first-second.branch [
  | then-first-second+in_ok-branch+in_ok-push+in_ok-branch-2+in_ok-push-2 w ↦
      at_two c.args.nodes.now (place_view c.args.from) (place_view c.args.to) (place_view c.loop-first.first) (place_view c.loop-first.second)
      c.loop-first.leave c.loop-first.enter c.loop-first.invariant.trails c.loop-first-test.false c.if-first-second.leave c.in_ok-enter.enter w.if-first-second.true
      (w.leave-is ∙ (w.in_ok-push.ensures ∙ ap (λ (s : Segment). c.loop-first.leave ++ s ∷ []) w.in_ok-branch.ensures))
      (c.in_ok-enter.ensures ∙ ap reverse (w.enter-is ∙ (w.in_ok-push-2.ensures ∙ ap (λ (s : Segment). c.loop-first.enter ++ s ∷ []) w.in_ok-branch-2.ensures)))
  | else-first-second w ↦
      at_one c.args.nodes.now (place_view c.args.from) (place_view c.args.to) (place_view c.loop-first.first) (place_view c.loop-first.second)
      c.loop-first.leave c.loop-first.enter c.loop-first.invariant.trails c.loop-first-test.false c.if-first-second.leave c.in_ok-enter.enter w.if-first-second.false
      w.leave-is (c.in_ok-enter.ensures ∙ ap reverse w.enter-is)
]
