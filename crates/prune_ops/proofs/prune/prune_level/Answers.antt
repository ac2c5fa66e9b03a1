use Rattle.std.proofs.Common.{◌≡◌, ℕ, ◌<◌, ◌≤◌, length, Option, Some, refl, sym, ap, ◌∙◌, subst, arith}
use Rattle.std.specs.Option.{option_map}
use Rattle.tree_model.specs.Credits.{Credit}
use Rattle.tree_model.specs.EventViews.{place_view}
use Rattle.tree_nodes.specs.Rows.{AlternativeCell, ClosedCell, row_of_node, alternatives_at, cell_at}
use Rattle.tree_nodes.specs.Changes.{SetsCell}
use Rattle.tree_nodes.proofs.StayingLemmas.{made_same, made_then}
use Rattle.prune_ops.proofs.PruneLemmas.{prunes_begin, prunes_more, prunes_all, place_stays, within_some, numbers_kept}
use Rattle.prune_ops.proofs.prune.prune_level.Goals as goal

pub loop-alternative-init : goal.loop-alternative-init
loop-alternative-init c = record { prunes = prunes_begin c.args.nodes.now (place_view c.args.at); numbers = record { length = refl; spare = refl }; made = made_same c.args.nodes.now.rows }

pub spent-spent-requires : goal.spent-spent-requires
spent-spent-requires c =
    let old = c.args.nodes.now in
    let a = place_view c.args.at in
    let j = c.loop-alternative.alternative in
    let l : j < length (alternatives_at (row_of_node old.rows a.node)) = (let w = c.width-width.ensures in omega (arith, w)) in
    place_stays old c.loop-alternative.nodes a j j c.live-live.ensures.sound c.requires c.loop-alternative.invariant.prunes l

pub loop-alternative-preserved : goal.loop-alternative-preserved
loop-alternative-preserved c =
    let old = c.args.nodes.now in
    let nodes = c.loop-alternative.nodes in
    let a = place_view c.args.at in
    let j = c.loop-alternative.alternative in
    let l : j < length (alternatives_at (row_of_node old.rows a.node)) = (let w = c.width-width.ensures in omega (arith, w)) in
    let spent : (there : ℕ) (cell : AlternativeCell) → cell_at nodes.rows (record { node = a.node; index = j }) ≡ Some (there, cell) → c.spent-spent.result ≡ there
    = λ there cell e. (let z : Some c.spent-spent.result ≡ Some there = sym c.spent-spent.ensures ∙ ap (λ (o : Option (ℕ × AlternativeCell)). option_map (λ x. x.0) o) e in cc z) in
    let set = subst (λ (k : Credit). SetsCell nodes c.set.new.self (record { node = a.node; index = j }) c.spent-spent.result (ClosedCell k)) c.nothing-credit.ensures c.set.ensures.set in
    record {
      prunes = prunes_more old nodes c.set.new.self a j c.spent-spent.result c.loop-alternative.invariant.prunes l spent set;
      numbers = numbers_kept old nodes c.set.new.self c.loop-alternative.invariant.numbers c.set.ensures.numbers;
      made = made_then old.rows nodes.rows c.set.new.self.rows c.loop-alternative.invariant.made c.set.ensures.made;
    }

pub returns-clause-pruned : goal.returns-clause-pruned
returns-clause-pruned c =
    let old = c.args.nodes.now in
    let a = place_view c.args.at in
    let j = c.loop-alternative.alternative in
    let l : length (alternatives_at (row_of_node old.rows a.node)) ≤ j = (let w = c.width-width.ensures in omega (arith, w)) in
    prunes_all old c.loop-alternative.nodes a j c.loop-alternative.invariant.prunes l

pub returns-clause-there : goal.returns-clause-there
returns-clause-there c =
    let old = c.args.nodes.now in
    let a = place_view c.args.at in
    place_stays old c.loop-alternative.nodes a c.loop-alternative.alternative a.index c.live-live.ensures.sound c.requires c.loop-alternative.invariant.prunes
    (within_some old.rows a c.requires)
