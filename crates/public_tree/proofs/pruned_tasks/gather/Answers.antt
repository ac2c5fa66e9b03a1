use Rattle.std.proofs.Common.{◌≡◌, ℕ, suc, ◌+◌, ◌-◌, ◌<◌, ◌≤◌, length, map, Some, Option, refl, sym, subst, arith}
use Rattle.tree_model.specs.EventViews.{place_view}
use Rattle.tree_nodes.specs.Rows.{scope_number}
use Rattle.tree_nodes.specs.RowViews.{parent_view}
use Rattle.tree_nodes.specs.Folds.{IsDeeper}
use Rattle.branch_order.proofs.LeftLemmas.{row_within}
use Rattle.branch_order.proofs.SoughtLemmas.{fewer_ahead}
use Rattle.public_tree.specs.LostTasks.{task_view}
use Rattle.public_tree.specs.PrunedTasks.{FindsTasks, GathersTo, TurnsTo, going_up}
use Rattle.prune_ops.proofs.FallLemmas.{number_is}
use Rattle.public_tree.proofs.PrunedTaskLemmas.{begins, row_there, some_nodes, down_from, up_from, ends_at}
use Rattle.public_tree.proofs.pruned_tasks.gather.Goals.{in-Node, in-Node-2}
use Rattle.public_tree.proofs.pruned_tasks.gather.Goals as goal

pub loop-node-init : goal.loop-node-init
loop-node-init c =
    let nodes = c.args.nodes.now in
    let a = place_view c.args.at in
    let scope = c.match-scope.number in
    let before = map task_view c.args.lost.now.items in
    let r = c.right_of-next.result in
    let left = c.live-left.result in
    let first = begins nodes a scope before c.if-at-number.false in
    let live = subst (λ (k : ℕ). GathersTo nodes a scope before a.node (a.index + 1) 0 k before) (sym c.live-left.ensures.live) first in
    let right = subst (λ (k : ℕ). GathersTo nodes a scope before a.node k 0 left before) (sym c.right_of-next.ensures.alternative) live in
    let gathers : GathersTo nodes a scope before r.node r.alternative 0 left before
    = subst (λ (k : ℕ). GathersTo nodes a scope before k r.alternative 0 left before) (sym c.right_of-next.ensures.node) right in
    let deep : 0 + left ≤ nodes.live = (let e = c.live-left.ensures.live in omega (arith, e)) in
    record { there = row_there nodes a scope before r.node r.alternative 0 left before c.live-left.ensures.sound c.requires gathers; deep = deep; gathers = gathers }

pub overflow_sub-left : goal.overflow_sub-left
overflow_sub-left c =
    let nodes = c.args.nodes.now in
    let l = c.loop-node in
    let new = map task_view c.push_tasks.new.lost.items in
    let turns = subst (λ (o : Option ℕ). TurnsTo nodes l.next.node l.next.alternative (map task_view l.lost.items) new o) c.in-Some.is c.in_ok-node.ensures.turns in
    let some : 0 < l.left = some_nodes nodes (place_view c.args.at) c.match-scope.number (map task_view c.args.lost.now.items) l.next.node l.next.alternative l.depth l.left
    (map task_view l.lost.items) c.live-left.ensures.sound c.requires l.invariant.gathers (map task_view l.lost.items) new c.in-Some.node refl turns in
    omega (arith, some)

pub overflow_add-depth : goal.overflow_add-depth
overflow_add-depth c =
    let nodes = c.args.nodes.now in
    let l = c.loop-node in
    let new = map task_view c.push_tasks.new.lost.items in
    let turns = subst (λ (o : Option ℕ). TurnsTo nodes l.next.node l.next.alternative (map task_view l.lost.items) new o) c.in-Some.is c.in_ok-node.ensures.turns in
    let some : 0 < l.left = some_nodes nodes (place_view c.args.at) c.match-scope.number (map task_view c.args.lost.now.items) l.next.node l.next.alternative l.depth l.left
    (map task_view l.lost.items) c.live-left.ensures.sound c.requires l.invariant.gathers (map task_view l.lost.items) new c.in-Some.node refl turns in
    let live = c.live-left.ensures.live in
    let deep = l.invariant.deep in
    let fits = c.loop-node.auto in
    omega (arith, live, deep, some, fits)

pub loop-node-smaller-in-Some : goal.loop-node-smaller-in-Some
loop-node-smaller-in-Some c =
    let nodes = c.args.nodes.now in
    let l = c.loop-node in
    let new = map task_view c.push_tasks.new.lost.items in
    let turns = subst (λ (o : Option ℕ). TurnsTo nodes l.next.node l.next.alternative (map task_view l.lost.items) new o) c.in-Some.is c.in_ok-node.ensures.turns in
    let some : 0 < l.left = some_nodes nodes (place_view c.args.at) c.match-scope.number (map task_view c.args.lost.now.items) l.next.node l.next.alternative l.depth l.left
    (map task_view l.lost.items) c.live-left.ensures.sound c.requires l.invariant.gathers (map task_view l.lost.items) new c.in-Some.node refl turns in
    let deeper = subst (λ (o : Option ℕ). IsDeeper nodes.rows l.next.node o) c.in-Some.is c.in_ok-node.ensures.deeper in
    fewer_ahead l.left (length nodes.rows) c.in-Some.node l.next.node some (row_within nodes.rows c.in-Some.node deeper.0)

pub loop-node-preserved-in-Some : goal.loop-node-preserved-in-Some
loop-node-preserved-in-Some c =
    let nodes = c.args.nodes.now in
    let a = place_view c.args.at in
    let scope = c.match-scope.number in
    let before = map task_view c.args.lost.now.items in
    let l = c.loop-node in
    let old = map task_view l.lost.items in
    let new = map task_view c.push_tasks.new.lost.items in
    let turns = subst (λ (o : Option ℕ). TurnsTo nodes l.next.node l.next.alternative old new o) c.in-Some.is c.in_ok-node.ensures.turns in
    let some : 0 < l.left = some_nodes nodes a scope before l.next.node l.next.alternative l.depth l.left old c.live-left.ensures.sound c.requires l.invariant.gathers old new
    c.in-Some.node refl turns in
    let deeper = subst (λ (o : Option ℕ). IsDeeper nodes.rows l.next.node o) c.in-Some.is c.in_ok-node.ensures.deeper in
    let one : suc l.depth ≡ l.depth + 1 = omega arith in
    let deep : l.depth + 1 + (l.left - 1) ≤ nodes.live = (let d = l.invariant.deep in omega (arith, d, some)) in
    let gathers = subst (λ (k : ℕ). GathersTo nodes a scope before c.in-Some.node 0 k (l.left - 1) new) one
    (down_from nodes a scope before l.next.node l.next.alternative l.depth l.left old new l.invariant.gathers c.in-Some.node turns) in
    record { there = deeper.0; deep = deep; gathers = gathers }

pub loop-node-preserved : goal.loop-node-preserved
loop-node-preserved c =
    let nodes = c.args.nodes.now in
    let a = place_view c.args.at in
    let scope = c.match-scope.number in
    let before = map task_view c.args.lost.now.items in
    let l = c.loop-node in
    let old = map task_view l.lost.items in
    let new = map task_view c.push_tasks.new.lost.items in
    let b = place_view c.in-Some-up_from.above in
    let parent = parent_view c.parent.result in
    let r = c.right_of-next-in-Some-up_from.result in
    let turns = subst (λ (o : Option ℕ). TurnsTo nodes l.next.node l.next.alternative old new o) c.in-None.is c.in_ok-node.ensures.turns in
    let goes : going_up l.depth scope parent ≡ Some b = sym c.in-Some-up_from.ensures in
    let up = up_from nodes a scope before l.next.node l.next.alternative l.depth l.left old new l.invariant.gathers parent b turns c.parent.ensures.parent goes in
    let one : suc b.index ≡ r.alternative = (let e = c.right_of-next-in-Some-up_from.ensures.alternative in omega (arith, e)) in
    let lower : l.depth - 1 ≡ c.saturating_sub-depth.result = (let e = c.saturating_sub-depth.ensures in omega (arith, e)) in
    let gathers : GathersTo nodes a scope before r.node r.alternative c.saturating_sub-depth.result l.left new
    = subst (λ (k : ℕ). GathersTo nodes a scope before k r.alternative c.saturating_sub-depth.result l.left new) (sym c.right_of-next-in-Some-up_from.ensures.node)
    (subst (λ (k : ℕ). GathersTo nodes a scope before b.node k c.saturating_sub-depth.result l.left new) one
    (subst (λ (k : ℕ). GathersTo nodes a scope before b.node (suc b.index) k l.left new) lower up)) in
    let deep : c.saturating_sub-depth.result + l.left ≤ nodes.live = (let d = l.invariant.deep in omega (arith, d, lower)) in
    record {
      there = row_there nodes a scope before r.node r.alternative c.saturating_sub-depth.result l.left new c.live-left.ensures.sound c.requires gathers;
      deep = deep;
      gathers = gathers;
    }

pub returns-in-None-up_from : goal.returns-in-None-up_from
returns-in-None-up_from c =
    let nodes = c.args.nodes.now in
    let l = c.loop-node in
    let old = map task_view l.lost.items in
    let new = map task_view c.push_tasks.new.lost.items in
    let turns = subst (λ (o : Option ℕ). TurnsTo nodes l.next.node l.next.alternative old new o) c.in-None.is c.in_ok-node.ensures.turns in
    let number : c.match-scope.number ≡ scope_number c.args.scope
    = elim c.match-scope.branch [
      | in-Node w ↦ number_is c.args.scope w.in-Node.number c.match-scope.number w.in-Node.is w.number-is
      | in-Node-2 w ↦ number_is c.args.scope w.in-Node.number c.match-scope.number w.in-Node.is w.number-is
    ] in
    subst (λ (k : ℕ). FindsTasks nodes (place_view c.args.at) k (map task_view c.args.lost.now.items) new) number
    (ends_at nodes (place_view c.args.at) c.match-scope.number (map task_view c.args.lost.now.items) l.next.node l.next.alternative l.depth l.left old new
    l.invariant.gathers (parent_view c.parent.result) turns c.parent.ensures.parent (sym c.in-None-up_from.ensures))
