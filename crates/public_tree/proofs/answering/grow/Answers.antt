use Rattle.std.proofs.Common.{ℕ, ◌+◌, Option, refl, sym, ap, subst}
use Rattle.std.specs.Arc.{arc_value}
use Rattle.std.specs.Prelude.{is_some}
use Rattle.tree_model.specs.EventViews.{place_view}
use Rattle.tree_nodes.specs.Bodies.{body_view}
use Rattle.tree_nodes.specs.Changes.{SetsCell, Fits}
use Rattle.tree_nodes.specs.Rows.{AlternativeCell, InnerCell, cell_at}
use Rattle.tree_nodes.proofs.StayingLemmas.{made_then}
use Rattle.prune_ops.proofs.CutLemmas.{open_there, linked}
use Rattle.public_tree.proofs.AnsweringLemmas.{grows_at}
use Rattle.public_tree.proofs.answering.grow.Goals as goal

pub set-requires-clause-there : goal.set-requires-clause-there
set-requires-clause-there c =
    let old = c.args.nodes.now in
    let a = place_view c.args.at in
    let there = open_there (cell_at old.rows a) c.requires.open in
    ap is_some (linked old c.add.new.self a c.live-live.ensures.sound there c.in_ok-number.number (body_view (arc_value c.args.body)) c.in_ok-number.ensures.added)

pub set-requires-clause-fits : goal.set-requires-clause-fits
set-requires-clause-fits c =
    let old = c.args.nodes.now in
    let a = place_view c.args.at in
    let there = open_there (cell_at old.rows a) c.requires.open in
    subst (λ (o : Option (ℕ × AlternativeCell)). Fits o (InnerCell c.in_ok-number.number))
    (sym (linked old c.add.new.self a c.live-live.ensures.sound there c.in_ok-number.number (body_view (arc_value c.args.body)) c.in_ok-number.ensures.added)) refl

pub returns-clause-grows : goal.returns-clause-grows
returns-clause-grows c =
    let old = c.args.nodes.now in
    let a = place_view c.args.at in
    let n = c.in_ok-number.number in
    let set : SetsCell c.add.new.self c.set.new.self a (c.spent.result + 1) (InnerCell n)
    = subst (λ (k : ℕ). SetsCell c.add.new.self c.set.new.self a k (InnerCell n)) c.in-Some.ensures.1 c.set.ensures.set in
    grows_at old c.add.new.self c.set.new.self a c.spent.result (body_view (arc_value c.args.body)) n c.in_ok-number.ensures.number c.spent.ensures
    c.in_ok-number.ensures.added set

pub returns-clause-made : goal.returns-clause-made
returns-clause-made c = made_then c.args.nodes.now.rows c.add.new.self.rows c.set.new.self.rows c.in_ok-number.ensures.made c.set.ensures.made
