use Rattle.std.proofs.Common.{◌≡◌, ℕ, suc, ◌<◌, ◌+◌, true, false, take, drop, sym, ap, ◌∙◌, arith}
use Rattle.std.specs.Option.{option_map}
use Rattle.std.specs.Prelude.{slice_get}
use Rattle.tree_nodes.specs.Rows.{row_of_node, alternatives_at}
use Rattle.tree_nodes.specs.Gathering.{is_shut_at}
use Rattle.branch_order.specs.LeftOf.{open_index}
use Rattle.tree_nodes.specs.Fronts.{place_on}
use Rattle.branch_order.proofs.LeftLemmas.{open_step, some_before}
use Rattle.branch_order.proofs.FrontLemmas.{shut_passed}
use Rattle.branch_order.proofs.left.open_left.Goals as goal

pub loop-alternative-init : goal.loop-alternative-init
loop-alternative-init c =
    let cells = take c.args.at.alternative (alternatives_at (row_of_node c.args.nodes.now.rows c.args.at.node)) in
    let n = c.passed_left-passed.result.many in
    ap (option_map (place_on c.args.at.node)) (shut_passed cells 0 n c.passed_left-passed.ensures.passed.shut
    ∙ ap (λ (k : ℕ). open_index k (drop n cells)) (let e : 0 + n ≡ n = omega arith in e))

pub returns-then-not-is_closed : goal.returns-then-not-is_closed
returns-then-not-is_closed c =
    let cells = alternatives_at (row_of_node c.args.nodes.now.rows c.args.at.node) in
    let i = c.loop-alternative.alternative in
    let l : i < c.args.at.alternative = omega arith in
    let shut : is_shut_at (slice_get cells i) ≡ false = cc (c.is_closed.ensures, c.if-not-is_closed.true) in
    sym (c.loop-alternative.invariant
    ∙ ap (option_map (place_on c.args.at.node)) (open_step cells i c.args.at.alternative false l shut (some_before cells i c.args.at.alternative l c.requires)))

pub loop-alternative-preserved : goal.loop-alternative-preserved
loop-alternative-preserved c =
    let cells = alternatives_at (row_of_node c.args.nodes.now.rows c.args.at.node) in
    let i = c.loop-alternative.alternative in
    let l : i < c.args.at.alternative = omega arith in
    let shut : is_shut_at (slice_get cells i) ≡ true = cc (c.is_closed.ensures, c.if-not-is_closed.false) in
    let one : suc i ≡ i + 1 = omega arith in
    c.loop-alternative.invariant
    ∙ (ap (option_map (place_on c.args.at.node)) (open_step cells i c.args.at.alternative true l shut (some_before cells i c.args.at.alternative l c.requires))
    ∙ ap (λ (k : ℕ). option_map (place_on c.args.at.node) (open_index k (drop k (take c.args.at.alternative cells)))) one)
