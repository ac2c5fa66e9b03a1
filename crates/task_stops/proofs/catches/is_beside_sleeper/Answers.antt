use Rattle.std.proofs.Common.{◌≡◌, ◌==◌, ◌&&◌, true, sym, ap, ◌∙◌}
use Rattle.tree_model.specs.EventViews.{place_view}
use Rattle.tree_model.specs.Levels.{Place}
use Rattle.tree_nodes.specs.Rows.{cell_at}
use Rattle.tree_closing.specs.Sleeping.{is_asleep_at, right_of}
use Rattle.task_stops.proofs.catches.is_beside_sleeper.Goals as goal

pub returns-then-at-eq0 : goal.returns-then-at-eq0
returns-then-at-eq0 c =
    let rows = c.args.nodes.now.rows in
    let first : (c.args.at.alternative == 0) ≡ true = ap (λ n. n == 0) c.if-at-eq0.true in
    c.is_asleep.ensures
    ∙ (ap (λ (q : Place). is_asleep_at (cell_at rows q)) c.beside.ensures
    ∙ ap (λ b. b && is_asleep_at (cell_at rows (right_of (place_view c.args.at)))) (sym first))
