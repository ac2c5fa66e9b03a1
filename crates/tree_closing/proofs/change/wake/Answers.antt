use Rattle.std.proofs.Common.{ℕ, Option, refl, sym, ap, subst}
use Rattle.std.specs.Arc.{arc_value}
use Rattle.std.specs.Prelude.{is_some}
use Rattle.tree_model.specs.Credits.{Credit}
use Rattle.tree_model.specs.EventViews.{place_view}
use Rattle.tree_nodes.specs.Bodies.{body_view}
use Rattle.tree_nodes.specs.Changes.{Fits}
use Rattle.tree_nodes.specs.Rows.{AlternativeCell, InnerCell, credit_view}
use Rattle.tree_nodes.proofs.StayingLemmas.{made_then}
use Rattle.tree_closing.specs.Closings.{ClosesHere}
use Rattle.tree_closing.proofs.ChangeLemmas.{waking_sleeper, linked, first_linked, rests_woken}
use Rattle.tree_closing.proofs.change.wake.Goals as goal

pub set-requires-clause-there : goal.set-requires-clause-there
set-requires-clause-there c =
    let b = place_view c.args.closing.end in
    let sleeper = waking_sleeper c.args.nodes.now b c.args.closing.beside c.requires.waking c.requires.sleeper in
    ap is_some (linked c.args.nodes.now c.add.new.self b c.live-live.ensures.sound sleeper c.in_ok-number.number (body_view (arc_value c.args.body)) c.in_ok-number.ensures.added)

pub set-requires-clause-fits : goal.set-requires-clause-fits
set-requires-clause-fits c =
    let b = place_view c.args.closing.end in
    let sleeper = waking_sleeper c.args.nodes.now b c.args.closing.beside c.requires.waking c.requires.sleeper in
    subst (λ (o : Option (ℕ × AlternativeCell)). Fits o (InnerCell c.in_ok-number.number))
    (sym (linked c.args.nodes.now c.add.new.self b c.live-live.ensures.sound sleeper c.in_ok-number.number (body_view (arc_value c.args.body)) c.in_ok-number.ensures.added)) refl

pub close_here-requires : goal.close_here-requires
close_here-requires c =
    let b = place_view c.args.closing.end in
    let sleeper = waking_sleeper c.args.nodes.now b c.args.closing.beside c.requires.waking c.requires.sleeper in
    first_linked c.args.nodes.now c.add.new.self b c.live-live.ensures.sound sleeper c.in_ok-number.number (body_view (arc_value c.args.body)) c.in_ok-number.ensures.added c.set.new.self
    c.set.ensures.set

pub returns-clause-rests : goal.returns-clause-rests
returns-clause-rests c =
    let b = place_view c.args.closing.end in
    let sort = c.args.closing.beside in
    let sleeper = waking_sleeper c.args.nodes.now b sort c.requires.waking c.requires.sleeper in
    let closed = subst (λ (k : Credit). ClosesHere c.set.new.self c.close_here.new.nodes b k) c.left_of-credit.ensures c.close_here.ensures.closed in
    rests_woken c.args.nodes.now c.add.new.self c.set.new.self c.close_here.new.nodes b (credit_view c.args.closing.credit) sort (body_view (arc_value c.args.body)) c.in_ok-number.number
    sleeper c.requires.single c.in_ok-number.ensures.added c.set.ensures.set closed c.requires.waking

pub returns-clause-made : goal.returns-clause-made
returns-clause-made c =
    let old = c.args.nodes.now in
    made_then old.rows c.set.new.self.rows c.close_here.new.nodes.rows (made_then old.rows c.add.new.self.rows c.set.new.self.rows c.in_ok-number.ensures.made c.set.ensures.made)
    c.close_here.ensures.made
