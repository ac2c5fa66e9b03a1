use Rattle.std.proofs.Common.{◌≡◌, ℕ, suc, ◌+◌, ◌-◌, ◌<◌, length, take, ap, ◌∙◌, arith}
use Rattle.tree_model.specs.EventViews.{place_view}
use Rattle.tree_nodes.specs.Gathering.{with_left}
use Rattle.tree_nodes.specs.Rows.{row_of_node, alternatives_at}
use Rattle.prune_ops.proofs.PruneLemmas.{within_some}
use Rattle.prune_ops.proofs.FallLemmas.{left_step}
use Rattle.prune_ops.proofs.landing.add_left_of.Goals as goal

pub loop-i-preserved : goal.loop-i-preserved
loop-i-preserved c =
    let rows = c.args.nodes.now.rows in
    let a = place_view c.args.at in
    let cells = alternatives_at (row_of_node rows a.node) in
    let old = c.loop-i.sum in
    let new = c.add_closed.new.sum in
    let i = c.loop-i.i in
    let within : a.index < length cells = within_some rows a c.requires in
    let before = c.loop-i-test.true in
    let k = a.index - 1 - i in
    let less : k < length cells = omega (arith, within, before) in
    let same : a.index - (i + 1) ≡ k = omega arith in
    let one : suc k ≡ a.index - i = omega (arith, before) in
    ap (λ (n : ℕ). with_left (take n cells) new) same
    ∙ (left_step cells k old new less c.in_ok-add_closed.ensures
    ∙ (ap (λ (n : ℕ). with_left (take n cells) old) one ∙ c.loop-i.invariant))
