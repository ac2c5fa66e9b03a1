use Rattle.std.proofs.Common.{sym, ◌∙◌}
use Rattle.tree_model.specs.EventViews.{place_view}
use Rattle.task_world.proofs.EventLemmas.{ended_answer, ended_still, later_answer, later_still}
use Rattle.task_world.proofs.front.why_barred.Goals as goal

pub returns-then-not-is_going : goal.returns-then-not-is_going
returns-then-not-is_going g c w =
    let h = c.args.tree.now.history in
    let a = place_view c.args.at in
    let ended = sym c.is_going.ensures ∙ c.if-not-is_going.true in
    (ended_answer h w a ended, ended_still h w a ended)

pub returns-then-not-is_front : goal.returns-then-not-is_front
returns-then-not-is_front g c w =
    let h = c.args.tree.now.history in
    let a = place_view c.args.at in
    let later = sym c.is_front.ensures ∙ c.if-not-is_front.true in
    (later_answer h w a (sym c.is_going.ensures ∙ c.if-not-is_going.false) later, later_still h w a later)
