use Rattle.std.proofs.Common.{◌<◌, ◌==◌, ℕ, length, length, map, sym, ap, ◌∙◌, arith}
use Rattle.std.proofs.lemmas.List.{length-map}
use Rattle.tree_nodes.specs.Siblings.{alternative_view, open_count}
use Rattle.tree_nodes.specs.Gathering.{shut_beside}
use Rattle.tree_nodes.proofs.SiblingLemmas.{item_at, shut_beside-open}
use Rattle.tree_nodes.proofs.siblings.Siblings.shut_beside.Goals as goal

pub returns : goal.returns
returns c =
    let items = c.self.inside.items.items in
    let len = length-map items alternative_view in
    let req : c.args.index < length (map alternative_view items) = rw (c.self.view_is) c.requires in
    let l : c.args.index < length items = omega (arith, len, req) in
    let here = item_at items c.args.index c.index.result.now l c.index.ensures in
    ap (λ (n : ℕ). n == c.open_one.result) c.self.invariant.counted.open_are
    ∙ (ap (λ (n : ℕ). open_count (map alternative_view items) == n) c.open_one.ensures
    ∙ (sym (shut_beside-open (map alternative_view items) c.args.index (alternative_view c.index.result.now) here)
    ∙ ap (shut_beside c.args.index) c.self.view_is))
