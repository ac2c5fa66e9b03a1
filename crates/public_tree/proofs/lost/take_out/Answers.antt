use Rattle.std.proofs.Common.{◌≡◌, ◌+◌, List, Some, None, map, sym, ap, ◌∙◌, arith}
use Rattle.tree_model.specs.EventViews.{place_view}
use Rattle.public_tree.specs.declared.lost.LostTask.{LostTask}
use Rattle.public_tree.specs.LostTasks.{task_view, lost_index}
use Rattle.public_tree.proofs.LostLemmas.{taken_out, none_taken}
use Rattle.public_tree.proofs.lost.take_out.Goals as goal

pub returns-in-Some : goal.returns-in-Some
returns-in-Some c =
    let a = place_view c.args.at in
    let w = c.args.worker in
    let items = c.args.lost.now.items in
    let i = c.in-Some.index in
    let at : lost_index 0 w a (map task_view items) ≡ Some (0 + i)
    = sym (c.in-Some.ensures.index ∙ ap (λ (xs : List LostTask). lost_index 0 w a (map task_view xs)) c.deref.ensures.value)
    ∙ ap Some (let z : i ≡ 0 + i = omega arith in z) in
    ap (map task_view) c.remove-gone.ensures.items ∙ taken_out w a items i 0 at

pub returns-in_default : goal.returns-in_default
returns-in_default c =
    let a = place_view c.args.at in
    let w = c.args.worker in
    let items = c.args.lost.now.items in
    let at : lost_index 0 w a (map task_view items) ≡ None
    = sym (c.in_default.ensures.index ∙ ap (λ (xs : List LostTask). lost_index 0 w a (map task_view xs)) c.deref.ensures.value) in
    none_taken w a (map task_view items) 0 at
