use Rattle.std.proofs.Common.{◌≡◌, ◌-◌, suc, map, drop, subst, arith}
use Rattle.tree_model.specs.EventViews.{place_view}
use Rattle.branch_reading.specs.BranchSegments.{bindings_on}
use Rattle.task_region.specs.MadeInTurn.{Makes}
use Rattle.task_region.specs.PlacesUp.{segments_at}
use Rattle.task_region.proofs.BindingLemmas.{can_bind_down, makes_down}
use Rattle.task_region.proofs.PlaceUpLemmas.{node_at}
use Rattle.task_region.proofs.bindings.bind_way.Goals as goal

pub bind_place-requires-clause-node : goal.bind_place-requires-clause-node
bind_place-requires-clause-node c =
    node_at c.args.nodes.now.rows c.args.places.now c.requires.nodes (c.loop-left.left - 1) (record { node = 0; alternative = 0 })
    (let within = c.loop-left.invariant.within in let some = c.loop-left-test.true in omega (arith, within, some))

pub bind_place-requires-clause-can : goal.bind_place-requires-clause-can
bind_place-requires-clause-can c =
    let some = c.loop-left-test.true in
    let next : c.loop-left.left ≡ suc (c.loop-left.left - 1) = omega (arith, some) in
    can_bind_down c.args.nodes.now.rows c.args.region.now c.loop-left.region c.args.places.now (c.loop-left.left - 1) (record { node = 0; alternative = 0 })
    (let within = c.loop-left.invariant.within in omega (arith, within, some))
    (subst (λ n. Makes c.args.region.now c.loop-left.region (bindings_on (segments_at c.args.nodes.now.rows
    (map place_view (drop n c.args.places.now))))) next c.loop-left.invariant.made)
    c.requires.can

pub loop-left-preserved : goal.loop-left-preserved
loop-left-preserved c =
    let some = c.loop-left-test.true in
    let within = c.loop-left.invariant.within in
    let next : c.loop-left.left ≡ suc (c.loop-left.left - 1) = omega (arith, some) in
    record {
      within = omega (arith, within);
      made = makes_down c.args.nodes.now.rows c.args.region.now c.loop-left.region c.args.places.now (c.loop-left.left - 1)
          (record { node = 0; alternative = 0 })
          (omega (arith, within, some))
          (subst (λ n. Makes c.args.region.now c.loop-left.region (bindings_on (segments_at c.args.nodes.now.rows
          (map place_view (drop n c.args.places.now))))) next c.loop-left.invariant.made)
          c.bind_place.new.region c.in_ok-bind_place.ensures;
    }

pub returns : goal.returns
returns c =
    let none : c.loop-left.left ≡ 0 = let end = c.loop-left-test.false in omega (arith, end) in
    subst (λ n. Makes c.args.region.now c.loop-left.region (bindings_on (segments_at c.args.nodes.now.rows
    (map place_view (drop n c.args.places.now))))) none c.loop-left.invariant.made
