use Rattle.std.proofs.Common.{◌+◌, ◌<◌, ◌≤◌, length, map, sym, arith}
use Rattle.tree_nodes.specs.Rows.{row_of_node, alternatives_at}
use Rattle.tree_nodes.proofs.CellLemmas.{some_within}
use Rattle.public_tree.specs.LostTasks.{task_view}
use Rattle.public_tree.proofs.PrunedTaskLemmas.{goes_right, on_and_on, goes_down, passes}
use Rattle.public_tree.proofs.pruned_tasks.push_tasks.Goals as goal

pub returns-in-Some-clause-turns : goal.returns-in-Some-clause-turns
returns-in-Some-clause-turns c =
    let nodes = c.args.nodes.now in
    let n = c.args.from.node in
    let j = c.loop-alternative.alternative in
    let l : j < length (alternatives_at (row_of_node nodes.rows n)) = (let w = c.width-width.ensures in let t = c.loop-alternative-test.true in omega (arith, w, t)) in
    goes_down nodes n c.args.from.alternative j c.in-Some.below (map task_view c.args.lost.now.items) (map task_view c.loop-alternative.lost.items)
    c.loop-alternative.invariant l (sym c.in-Some.ensures.below)

pub push_task-requires : goal.push_task-requires
push_task-requires c =
    let cells = alternatives_at (row_of_node c.args.nodes.now.rows c.args.from.node) in
    let l : c.loop-alternative.alternative < length cells = (let w = c.width-width.ensures in let t = c.loop-alternative-test.true in omega (arith, w, t)) in
    some_within cells c.loop-alternative.alternative l

pub loop-alternative-preserved : goal.loop-alternative-preserved
loop-alternative-preserved c =
    let nodes = c.args.nodes.now in
    let n = c.args.from.node in
    let i = c.args.from.alternative in
    let j = c.loop-alternative.alternative in
    let l : j < length (alternatives_at (row_of_node nodes.rows n)) = (let w = c.width-width.ensures in let t = c.loop-alternative-test.true in omega (arith, w, t)) in
    let old = map task_view c.loop-alternative.lost.items in
    let new = map task_view c.push_task.new.lost.items in
    on_and_on nodes n i j (j + 1) (map task_view c.args.lost.now.items) old new c.loop-alternative.invariant
    (goes_right nodes n j old new l (sym c.in_default.ensures.below) c.in_ok-push_task.ensures)

pub returns-clause-turns : goal.returns-clause-turns
returns-clause-turns c =
    let nodes = c.args.nodes.now in
    let n = c.args.from.node in
    let j = c.loop-alternative.alternative in
    let l : length (alternatives_at (row_of_node nodes.rows n)) ≤ j = (let w = c.width-width.ensures in let t = c.loop-alternative-test.false in omega (arith, w, t)) in
    passes nodes n c.args.from.alternative j (map task_view c.args.lost.now.items) (map task_view c.loop-alternative.lost.items) c.loop-alternative.invariant l
