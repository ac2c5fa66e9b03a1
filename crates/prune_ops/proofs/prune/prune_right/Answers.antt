use Rattle.std.proofs.Common.{Option, sym, subst}
use Rattle.tree_model.specs.declared.places.AltRef.{AltRef}
use Rattle.tree_model.specs.EventViews.{place_view}
use Rattle.tree_model.specs.Levels.{Place}
use Rattle.tree_nodes.specs.RowViews.{parent_view}
use Rattle.tree_nodes.specs.Puts.{IsPlaceIn}
use Rattle.tree_nodes.proofs.StayingLemmas.{made_then}
use Rattle.prune_ops.specs.Prunes.{PrunesUp}
use Rattle.prune_ops.proofs.PruneLemmas.{pruned_more, place_below, numbers_kept}
use Rattle.prune_ops.proofs.prune.prune_right.Goals as goal

pub loop-next-preserved : goal.loop-next-preserved
loop-next-preserved c =
    let old = c.args.nodes.now in
    let nodes = c.loop-next.nodes in
    let new = c.prune_level.new.nodes in
    let a = place_view c.args.at in
    let b = place_view c.in-Some.here in
    let scope = c.match-scope.number in
    let prunes = subst (λ (o : Option AltRef). PrunesUp old nodes a scope (parent_view o)) c.in-Some.is c.loop-next.invariant.prunes in
    let more = pruned_more old nodes new a scope b (parent_view c.parent.result) prunes c.prune_level.ensures.pruned c.parent.ensures.parent in
    record {
      there = subst (IsPlaceIn new.rows) (sym c.below-next-in-Some.ensures) (place_below new.rows scope (parent_view c.parent.result) b.node c.parent.ensures.above);
      prunes = subst (λ (o : Option Place). PrunesUp old new a scope o) (sym c.below-next-in-Some.ensures) more;
      numbers = numbers_kept old nodes new c.loop-next.invariant.numbers c.prune_level.ensures.numbers;
      made = made_then old.rows nodes.rows new.rows c.loop-next.invariant.made c.prune_level.ensures.made;
    }
