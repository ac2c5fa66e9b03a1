use Rattle.std.proofs.Common.{◌≡◌, ◌<◌, ℕ, true, length, map, refl, ap, sym, ◌∙◌, arith}
use Rattle.std.proofs.lemmas.List.{length-map}
use Rattle.tree_model.specs.Credits.{counted}
use Rattle.tree_nodes.specs.Rows.{AlternativeCell, cell_view}
use Rattle.tree_nodes.specs.Gathering.{is_shut}
use Rattle.tree_nodes.specs.Siblings.{alternative_view, closed_counts}
use Rattle.tree_nodes.proofs.SiblingLemmas.{item_at, passed-more}
use Rattle.tree_nodes.proofs.siblings.pass.Goals as goal

pub loop-passed-preserved : goal.loop-passed-preserved
loop-passed-preserved c =
    let items = c.args.items.now in
    let p = c.loop-passed.passed in
    let x = c.index-items-passed.result in
    let y = c.index-items-passed-in-loop-passed.result in
    let len = length-map items alternative_view in
    let l : p.many < length items = c.loop-passed-test.true in
    let here = item_at items p.many x l c.index-items-passed.is in
    let there = item_at items p.many y l c.index-items-passed-in-loop-passed.is in
    let same : alternative_view x ≡ alternative_view y = cc (here, there) in
    let shut : is_shut (cell_view y.state) ≡ true = ap (λ (k : ℕ × AlternativeCell). is_shut k.1) (sym same) ∙ (sym c.is_closed.ensures ∙ c.if-is_closed.true) in
    let counts : c.counts-answers.result ≡ closed_counts (cell_view y.state) = c.counts-answers.ensures in
    let given : c.counts-answers.result.0 ≡ (closed_counts (cell_view y.state)).0 = ap (λ (k : ℕ × ℕ). k.0) counts in
    let taken : c.counts-answers.result.1 ≡ (closed_counts (cell_view y.state)).1 = ap (λ (k : ℕ × ℕ). k.1) counts in
    let answers : c.saturating_add.result ≡ counted p.answers (closed_counts (cell_view y.state)).0 = (let e = c.saturating_add.ensures in omega (arith, e, given)) in
    let inferences : c.saturating_add-in-loop-passed.result ≡ counted p.inferences (closed_counts (cell_view y.state)).1
    = (let e = c.saturating_add-in-loop-passed.ensures in omega (arith, e, taken)) in
    passed-more (map alternative_view items) p _ (alternative_view y) c.loop-passed.invariant there (omega (arith, l, len)) shut refl answers inferences
