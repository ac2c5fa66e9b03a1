use Rattle.std.proofs.Common.{sym, subst}
use Rattle.tree_model.specs.EventViews.{place_view}
use Rattle.tree_nodes.specs.Rows.{credit_view}
use Rattle.tree_nodes.specs.TreeTables.{NodesView}
use Rattle.tree_nodes.specs.Staying.{StayMade}
use Rattle.tree_nodes.proofs.StayingLemmas.{made_then}
use Rattle.tree_closing.specs.Closings.{ClosesHere, HasSleeper, Rests}
use Rattle.tree_closing.specs.declared.way_up.Beside.{Beside}
use Rattle.tree_closing.proofs.ChangeLemmas.{rests_same, rests_closes}
use Rattle.tree_closing.proofs.change.settle.Goals as goal
use Rattle.tree_closing.proofs.change.settle.Goals.{in-Same, in-Closes}

pub returns-clause-rests : goal.returns-clause-rests
returns-clause-rests c =
    let old = c.args.nodes.now in
    let new = c.close_here.new.nodes in
    let b = place_view c.args.closing.end in
    let total = credit_view c.args.closing.credit in
    elim c.match-beside.branch [
      | in-Same w ↦ subst (Rests old new b total) (sym w.in-Same.is)
          (rests_same old new b total (subst (λ (n : NodesView). ClosesHere n new b total) w.nodes-is c.close_here.ensures.closed))
      | in-Closes w ↦ subst (Rests old new b total) (sym w.in-Closes.is)
          (rests_closes old w.close_sleeper.new.nodes new b total (subst (λ (x : Beside). HasSleeper x old.rows b) w.in-Closes.is c.requires.sleeper) w.close_sleeper.ensures.closed
          (subst (λ (n : NodesView). ClosesHere n new b total) w.nodes-is c.close_here.ensures.closed))
    ]

pub returns-clause-made : goal.returns-clause-made
returns-clause-made c =
    let old = c.args.nodes.now in
    let new = c.close_here.new.nodes in
    elim c.match-beside.branch [
      | in-Same w ↦ subst (λ (n : NodesView). StayMade n.rows new.rows) w.nodes-is c.close_here.ensures.made
      | in-Closes w ↦ made_then old.rows w.close_sleeper.new.nodes.rows new.rows w.close_sleeper.ensures.made
          (subst (λ (n : NodesView). StayMade n.rows new.rows) w.nodes-is c.close_here.ensures.made)
    ]
