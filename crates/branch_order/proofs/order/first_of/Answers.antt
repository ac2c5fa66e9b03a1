use Rattle.std.proofs.Common.{◌≡◌, ℕ, suc, ◌<◌, ◌+◌, true, false, length, drop, sym, ap, ◌∙◌, arith}
use Rattle.std.specs.Option.{option_map}
use Rattle.std.specs.Prelude.{slice_get}
use Rattle.tree_nodes.specs.Rows.{row_of_node, alternatives_at}
use Rattle.tree_nodes.specs.Gathering.{is_shut_at}
use Rattle.branch_order.specs.LeftOf.{open_index}
use Rattle.tree_nodes.specs.Fronts.{place_on}
use Rattle.branch_order.proofs.LeftLemmas.{open_more}
use Rattle.tree_nodes.proofs.CellLemmas.{some_within}
use Rattle.branch_order.proofs.FrontLemmas.{shut_passed}
use Rattle.branch_order.proofs.order.first_of.Goals as goal

pub loop-alternative-init : goal.loop-alternative-init
loop-alternative-init c =
    let cells = alternatives_at (row_of_node c.args.nodes.now.rows c.args.node) in
    let n = c.passed-passed.result.many in
    ap (option_map (place_on c.args.node)) (shut_passed cells 0 n c.passed-passed.ensures.shut
    ∙ ap (λ (k : ℕ). open_index k (drop n cells)) (let e : 0 + n ≡ n = omega arith in e))

pub returns-then-not-is_closed-clause-there : goal.returns-then-not-is_closed-clause-there
returns-then-not-is_closed-clause-there c =
    let cells = alternatives_at (row_of_node c.args.nodes.now.rows c.args.node) in
    let l : c.loop-alternative.alternative < length cells = (let w = c.width-width.ensures in omega (arith, w)) in
    some_within cells c.loop-alternative.alternative l

pub returns-then-not-is_closed-clause-first : goal.returns-then-not-is_closed-clause-first
returns-then-not-is_closed-clause-first c =
    let cells = alternatives_at (row_of_node c.args.nodes.now.rows c.args.node) in
    let i = c.loop-alternative.alternative in
    let l : i < length cells = (let w = c.width-width.ensures in omega (arith, w)) in
    let shut : is_shut_at (slice_get cells i) ≡ false = cc (c.is_closed.ensures, c.if-not-is_closed.true) in
    sym (c.loop-alternative.invariant ∙ ap (option_map (place_on c.args.node)) (open_more cells i false l shut))

pub loop-alternative-preserved : goal.loop-alternative-preserved
loop-alternative-preserved c =
    let cells = alternatives_at (row_of_node c.args.nodes.now.rows c.args.node) in
    let i = c.loop-alternative.alternative in
    let l : i < length cells = (let w = c.width-width.ensures in omega (arith, w)) in
    let shut : is_shut_at (slice_get cells i) ≡ true = cc (c.is_closed.ensures, c.if-not-is_closed.false) in
    let one : suc i ≡ i + 1 = omega arith in
    c.loop-alternative.invariant
    ∙ (ap (option_map (place_on c.args.node)) (open_more cells i true l shut)
    ∙ ap (λ (k : ℕ). option_map (place_on c.args.node) (open_index k (drop k cells))) one)
