use Rattle.std.proofs.Common.{◌≡◌, ℕ, Option, Some, sym, ap, ◌∙◌, arith}
use Rattle.std.specs.Option.{option_map}
use Rattle.tree_nodes.specs.Rows.{AlternativeCell, cell_at}
use Rattle.tree_nodes.specs.Puts.{inner_at}
use Rattle.tree_nodes.specs.Fronts.{place_on, counts_beside}
use Rattle.tree_nodes.proofs.FrontLemmas.{inner_parent, inner_cell}
use Rattle.tree_nodes.proofs.nodes.Nodes.front_below.Goals as goal

pub returns : goal.returns
returns c =
    let nodes = c.args.self.now in
    let p = c.passed-passed.result in
    let a = place_on c.args.last.node p.many in
    let n = c.in_ok-node.node in
    let inner : inner_at (cell_at nodes.rows a) ≡ Some n = sym c.in_ok-node.ensures.below in
    let k = inner_cell (cell_at nodes.rows a) n inner in
    let spent : k.0 ≡ c.spent.result = (let z : Some k.0 ≡ Some c.spent.result = ap (λ (o : Option (ℕ × AlternativeCell)). option_map (λ x. x.0) o) (sym k.1) ∙ c.spent.ensures in cc z) in
    let given : p.answers ≡ (counts_beside nodes.rows a).0 = sym (ap (λ (x : ℕ × ℕ). x.0) c.passed-passed.ensures.counts) in
    let taken : p.inferences ≡ (counts_beside nodes.rows a).1 = sym (ap (λ (x : ℕ × ℕ). x.1) c.passed-passed.ensures.counts) in
    record {
      index = p.many;
      spent = k.0;
      cell = k.1;
      parent = inner_parent nodes a k.0 n c.live-live.ensures.sound k.1;
      shut = c.passed-passed.ensures.shut;
      answers = (let e = c.saturating_add.ensures in omega (arith, e, given));
      inferences = (let e = c.saturating_add-2.ensures in let f = c.saturating_add-taken.ensures in omega (arith, e, f, taken, spent));
    }
