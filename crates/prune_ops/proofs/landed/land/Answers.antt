use Rattle.std.proofs.Common.{ℕ, Option, refl, sym, ap, subst}
use Rattle.std.specs.Arc.{arc_value}
use Rattle.std.specs.Prelude.{is_some}
use Rattle.tree_model.specs.EventViews.{place_view}
use Rattle.tree_nodes.specs.Bodies.{body_view}
use Rattle.tree_nodes.specs.Changes.{Fits}
use Rattle.tree_nodes.specs.Rows.{AlternativeCell, InnerCell, cell_at, credit_view}
use Rattle.tree_nodes.proofs.StayingLemmas.{made_then}
use Rattle.tree_closing.specs.Sleeping.{right_of}
use Rattle.tree_closing.proofs.ChangeLemmas.{linked, first_linked, closes_here, asleep_pending}
use Rattle.prune_ops.proofs.LandLemmas.{lands_beside}
use Rattle.prune_ops.proofs.landed.land.Goals as goal

pub add-requires-clause-open : goal.add-requires-clause-open
add-requires-clause-open c =
    let old = c.args.nodes.now in
    let b = place_view c.args.landing.end in
    asleep_pending (cell_at old.rows (right_of b)) c.requires.sleeper.asleep

pub set-requires-clause-there : goal.set-requires-clause-there
set-requires-clause-there c =
    let old = c.args.nodes.now in
    let b = place_view c.args.landing.end in
    ap is_some (linked old c.add.new.self b c.live-live.ensures.sound c.requires.sleeper c.in_ok-number.number (body_view (arc_value c.args.body)) c.in_ok-number.ensures.added)

pub set-requires-clause-fits : goal.set-requires-clause-fits
set-requires-clause-fits c =
    let old = c.args.nodes.now in
    let b = place_view c.args.landing.end in
    subst (λ (o : Option (ℕ × AlternativeCell)). Fits o (InnerCell c.in_ok-number.number))
    (sym (linked old c.add.new.self b c.live-live.ensures.sound c.requires.sleeper c.in_ok-number.number (body_view (arc_value c.args.body)) c.in_ok-number.ensures.added)) refl

pub spent-spent-requires : goal.spent-spent-requires
spent-spent-requires c =
    let old = c.args.nodes.now in
    let b = place_view c.args.landing.end in
    first_linked old c.add.new.self b c.live-live.ensures.sound c.requires.sleeper c.in_ok-number.number (body_view (arc_value c.args.body)) c.in_ok-number.ensures.added
    c.set.new.self c.set.ensures.set

pub returns-clause-lands : goal.returns-clause-lands
returns-clause-lands c =
    let old = c.args.nodes.now in
    let b = place_view c.args.landing.end in
    let closed = closes_here c.set.new.self c.set-2.new.self b (credit_view c.args.landing.credit) c.spent-spent.result c.spent-spent.ensures c.set-2.ensures.set in
    lands_beside old c.add.new.self c.set.new.self c.set-2.new.self b (credit_view c.args.landing.credit) (body_view (arc_value c.args.body)) c.in_ok-number.number
    c.requires.sleeper c.in_ok-number.ensures.added c.set.ensures.set closed c.in_ok-number.ensures.number

pub returns-clause-made : goal.returns-clause-made
returns-clause-made c =
    let old = c.args.nodes.now in
    made_then old.rows c.set.new.self.rows c.set-2.new.self.rows (made_then old.rows c.add.new.self.rows c.set.new.self.rows c.in_ok-number.ensures.made c.set.ensures.made)
    c.set-2.ensures.made
