use Rattle.std.proofs.Common.{◌≡◌, ℕ, zero, suc, ◌<◌, ◌≤◌, ◌+◌, List, [], ◌∷◌, length, drop, refl, sym, ap, ◌∙◌, arith}
use Rattle.std.specs.Prelude.{slice_get}
use Rattle.tree_model.specs.Credits.{counted}
use Rattle.tree_nodes.specs.Rows.{AlternativeCell, row_of_node, alternatives_at}
use Rattle.tree_nodes.specs.Siblings.{counts_from, counts_in}
use Rattle.tree_nodes.proofs.CellLemmas.{some_within}
use Rattle.branch_order.proofs.FrontLemmas.{counts_passed}
use Rattle.branch_order.proofs.clocks.counts_of.Goals as goal

one_more : (cells : List (ℕ × AlternativeCell)) (i : ℕ) (n : ℕ × ℕ) → i < length cells → counts_from n (drop i cells)
    ≡ counts_from (counted n.0 (counts_in (slice_get cells i)).0, counted n.1 (counts_in (slice_get cells i)).1) (drop (suc i) cells)
one_more [] i n l = absurd (omega (arith, l))
one_more (x ∷ cells) zero n l = refl
one_more (x ∷ cells) (suc i) n l = one_more cells i n (omega (arith, l))

no_more : (cells : List (ℕ × AlternativeCell)) (i : ℕ) (n : ℕ × ℕ) → length cells ≤ i → counts_from n (drop i cells) ≡ n
no_more [] zero n l = refl
no_more [] (suc i) n l = refl
no_more (x ∷ cells) zero n l = absurd (omega (arith, l))
no_more (x ∷ cells) (suc i) n l = no_more cells i n (omega (arith, l))

pub loop-alternative-init : goal.loop-alternative-init
loop-alternative-init c =
    let cells = alternatives_at (row_of_node c.args.nodes.now.rows c.args.node) in
    let p = c.passed-passed.result in
    counts_passed (0, 0) cells p.many ∙ ap (λ (x : ℕ × ℕ). counts_from x (drop p.many cells)) c.passed-passed.ensures.counts

pub counts_at-given-requires : goal.counts_at-given-requires
counts_at-given-requires c =
    let cells = alternatives_at (row_of_node c.args.nodes.now.rows c.args.node) in
    let l : c.loop-alternative.alternative < length cells = (let w = c.width-width.ensures in omega (arith, w)) in
    some_within cells c.loop-alternative.alternative l

pub loop-alternative-preserved : goal.loop-alternative-preserved
loop-alternative-preserved c =
    let cells = alternatives_at (row_of_node c.args.nodes.now.rows c.args.node) in
    let i = c.loop-alternative.alternative in
    let l : i < length cells = (let w = c.width-width.ensures in omega (arith, w)) in
    let here = counts_in (slice_get cells i) in
    let one : suc i ≡ i + 1 = omega arith in
    let given : c.counts_at-given.result ≡ here = c.counts_at-given.ensures in
    let first : c.counts_at-given.result.0 ≡ here.0 = ap (λ (p : ℕ × ℕ). p.0) given in
    let second : c.counts_at-given.result.1 ≡ here.1 = ap (λ (p : ℕ × ℕ). p.1) given in
    let answers : counted c.loop-alternative.answers here.0 ≡ c.saturating_add-answers.result = (let e = c.saturating_add-answers.ensures in omega (arith, e, first)) in
    let inferences : counted c.loop-alternative.inferences here.1 ≡ c.saturating_add-inferences.result = (let e = c.saturating_add-inferences.ensures in omega (arith, e, second)) in
    let rest = drop (suc i) cells in
    c.loop-alternative.invariant
    ∙ (one_more cells i (c.loop-alternative.answers, c.loop-alternative.inferences) l
    ∙ (ap (λ (k : ℕ). counts_from (k, counted c.loop-alternative.inferences here.1) rest) answers
    ∙ (ap (λ (k : ℕ). counts_from (c.saturating_add-answers.result, k) rest) inferences
    ∙ ap (λ (k : ℕ). counts_from (c.saturating_add-answers.result, c.saturating_add-inferences.result) (drop k cells)) one)))

pub returns : goal.returns
returns c =
    let cells = alternatives_at (row_of_node c.args.nodes.now.rows c.args.node) in
    let i = c.loop-alternative.alternative in
    let l : length cells ≤ i = (let w = c.width-width.ensures in omega (arith, w)) in
    sym (c.loop-alternative.invariant ∙ no_more cells i (c.loop-alternative.answers, c.loop-alternative.inferences) l)
