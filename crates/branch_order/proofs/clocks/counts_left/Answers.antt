use Rattle.std.proofs.Common.{◌≡◌, ℕ, suc, ◌<◌, ◌+◌, take, drop, ap, ◌∙◌, arith}
use Rattle.std.specs.Prelude.{slice_get}
use Rattle.tree_model.specs.Credits.{counted}
use Rattle.tree_nodes.specs.Rows.{row_of_node, alternatives_at}
use Rattle.tree_nodes.specs.Siblings.{counts_from, counts_in}
use Rattle.branch_order.proofs.LeftLemmas.{some_before}
use Rattle.branch_order.proofs.ClockLemmas.{counts_step}
use Rattle.branch_order.proofs.FrontLemmas.{counts_passed}
use Rattle.branch_order.proofs.clocks.counts_left.Goals as goal

pub loop-alternative-init : goal.loop-alternative-init
loop-alternative-init c =
    let cells = take c.args.at.alternative (alternatives_at (row_of_node c.args.nodes.now.rows c.args.at.node)) in
    let p = c.passed_left-passed.result in
    counts_passed (0, 0) cells p.many ∙ ap (λ (x : ℕ × ℕ). counts_from x (drop p.many cells)) c.passed_left-passed.ensures.passed.counts

pub counts_at-given-requires : goal.counts_at-given-requires
counts_at-given-requires c =
    let cells = alternatives_at (row_of_node c.args.nodes.now.rows c.args.at.node) in
    some_before cells c.loop-alternative.alternative c.args.at.alternative (omega arith) c.requires

pub loop-alternative-preserved : goal.loop-alternative-preserved
loop-alternative-preserved c =
    let cells = alternatives_at (row_of_node c.args.nodes.now.rows c.args.at.node) in
    let i = c.loop-alternative.alternative in
    let n = c.args.at.alternative in
    let l : i < n = omega arith in
    let there = some_before cells i n l c.requires in
    let here = counts_in (slice_get cells i) in
    let one : suc i ≡ i + 1 = omega arith in
    let given : c.counts_at-given.result ≡ here = c.counts_at-given.ensures in
    let first : c.counts_at-given.result.0 ≡ here.0 = ap (λ (p : ℕ × ℕ). p.0) given in
    let second : c.counts_at-given.result.1 ≡ here.1 = ap (λ (p : ℕ × ℕ). p.1) given in
    let answers : counted c.loop-alternative.answers here.0 ≡ c.saturating_add-answers.result = (let e = c.saturating_add-answers.ensures in omega (arith, e, first)) in
    let inferences : counted c.loop-alternative.inferences here.1 ≡ c.saturating_add-inferences.result = (let e = c.saturating_add-inferences.ensures in omega (arith, e, second)) in
    let rest = drop (suc i) (take n cells) in
    c.loop-alternative.invariant
    ∙ (counts_step cells i n (c.loop-alternative.answers, c.loop-alternative.inferences) l there
    ∙ (ap (λ (k : ℕ). counts_from (k, counted c.loop-alternative.inferences here.1) rest) answers
    ∙ (ap (λ (k : ℕ). counts_from (c.saturating_add-answers.result, k) rest) inferences
    ∙ ap (λ (k : ℕ). counts_from (c.saturating_add-answers.result, c.saturating_add-inferences.result) (drop k (take n cells))) one)))
