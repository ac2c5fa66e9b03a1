use Rattle.std.proofs.Common.{refl, sym, ap, ◌∙◌}
use Rattle.std.specs.Arc.{arc_value}
use Rattle.tree_model.specs.EventViews.{place_view}
use Rattle.tree_nodes.specs.Bodies.{body_view, kind_view}
use Rattle.tree_nodes.specs.declared.body.NodeBody.{NodeBody}
use Rattle.tree_closing.proofs.SleeperLemmas.{nothing_sleeps, sleeps_not, sleeps_as}
use Rattle.tree_closing.proofs.sleeping.sleeper_beside.Goals as goal
use Rattle.tree_closing.proofs.sleeping.sleeper_beside.Goals.{then-at-ne0-via-then-at-ne0, then-at-ne0-via-else-at-ne0+then-not-is_asleep}

pub returns-then-at-ne0-clause-sleeps : goal.returns-then-at-ne0-clause-sleeps
returns-then-at-ne0-clause-sleeps c =
    elim c.then-at-ne0.branch [
      | then-at-ne0-via-then-at-ne0 w ↦ nothing_sleeps c.args.nodes.now (place_view c.args.at) w.if-at-ne0.true
      | then-at-ne0-via-else-at-ne0+then-not-is_asleep w ↦
          sleeps_not c.args.nodes.now (place_view c.args.at) _ w.is_asleep.result refl w.is_asleep.ensures w.if-not-is_asleep.true
    ]

pub returns-in-Catch-clause-sleeps : goal.returns-in-Catch-clause-sleeps
returns-in-Catch-clause-sleeps c =
    sleeps_as c.args.nodes.now (place_view c.args.at) _ c.is_asleep.result refl c.is_asleep.ensures (body_view (arc_value c.body.result.now)) _
    c.if-at-ne0.false c.if-not-is_asleep.false c.body.ensures.body (ap kind_view (ap (λ (b : NodeBody). b.kind) (sym c.deref.ensures) ∙ c.in-Catch.is))

pub returns-in-Findall-clause-sleeps : goal.returns-in-Findall-clause-sleeps
returns-in-Findall-clause-sleeps c =
    sleeps_as c.args.nodes.now (place_view c.args.at) _ c.is_asleep.result refl c.is_asleep.ensures (body_view (arc_value c.body.result.now)) _
    c.if-at-ne0.false c.if-not-is_asleep.false c.body.ensures.body (ap kind_view (ap (λ (b : NodeBody). b.kind) (sym c.deref.ensures) ∙ c.in-Findall.is))

pub returns-in-Query-clause-sleeps : goal.returns-in-Query-clause-sleeps
returns-in-Query-clause-sleeps c =
    sleeps_as c.args.nodes.now (place_view c.args.at) _ c.is_asleep.result refl c.is_asleep.ensures (body_view (arc_value c.body.result.now)) _
    c.if-at-ne0.false c.if-not-is_asleep.false c.body.ensures.body (ap kind_view (ap (λ (b : NodeBody). b.kind) (sym c.deref.ensures) ∙ c.in-Query.is))

pub returns-in-Choice-clause-sleeps : goal.returns-in-Choice-clause-sleeps
returns-in-Choice-clause-sleeps c =
    sleeps_as c.args.nodes.now (place_view c.args.at) _ c.is_asleep.result refl c.is_asleep.ensures (body_view (arc_value c.body.result.now)) _
    c.if-at-ne0.false c.if-not-is_asleep.false c.body.ensures.body (ap kind_view (ap (λ (b : NodeBody). b.kind) (sym c.deref.ensures) ∙ c.in-Choice.is))

pub returns-in-Condition-clause-sleeps : goal.returns-in-Condition-clause-sleeps
returns-in-Condition-clause-sleeps c =
    sleeps_as c.args.nodes.now (place_view c.args.at) _ c.is_asleep.result refl c.is_asleep.ensures (body_view (arc_value c.body.result.now)) _
    c.if-at-ne0.false c.if-not-is_asleep.false c.body.ensures.body (ap kind_view (ap (λ (b : NodeBody). b.kind) (sym c.deref.ensures) ∙ c.in-Condition.is))
