use Rattle.std.proofs.Common.{◌≡◌, true, sym, ◌∙◌, subst, false}
use Rattle.std.specs.Prelude.{is_some, IfOk}
use Rattle.std.specs.Arc.{arc_value}
use Rattle.tree_model.specs.EventViews.{place_view}
use Rattle.tree_model.specs.Events.{Answer}
use Rattle.tree_model.specs.Legality.{taken_at}
use Rattle.tree_model.specs.Nodes.{WorldGate}
use Rattle.tree_nodes.specs.Bodies.{body_view}
use Rattle.branch_reading.specs.Readings.{reading}
use Rattle.public_tree.specs.PublicTrees.{is_going}
use Rattle.public_tree.specs.Answering.{OpensAs}
use Rattle.tree_core.specs.Histories.{TreeView, state_of, history_of}
use Rattle.tree_core.specs.Turns.{where_legal, answering_of}
use Rattle.tree_core.proofs.ReturnedLemmas.{out_of_each, room_to_suspend}
use Rattle.tree_core.proofs.TurnLemmas.{no_turn, no_answering, takes_kept, takes_noted}
use Rattle.tree_core.proofs.tree.Tree.open_query.Goals as goal

pub open_query-requires-clause-out : goal.open_query-requires-clause-out
open_query-requires-clause-out g c =
    let job = g.J.JobBrand.job in
    let p = c.self.inside.public in
    let w = c.args.worker in
    let a = place_view c.args.at in
    let was = sym c.self.view_is in
    out_of_each job p w a c.self.invariant (subst (λ (v : TreeView). is_some (taken_at w a (state_of v.history)) ≡ true) was c.requires.out)

pub open_query-requires-clause-promised : goal.open_query-requires-clause-promised
open_query-requires-clause-promised g c =
    let job = g.J.JobBrand.job in
    let p = c.self.inside.public in
    let w = c.args.worker in
    let a = place_view c.args.at in
    let was = sym c.self.view_is in
    room_to_suspend c.handed_out_once.ensures job p w a c.self.invariant
    (subst (λ (v : TreeView). is_going (state_of v.history) ≡ true) was (sym c.is_going.ensures ∙ c.if-not-is_going.false)) WorldGate
    (subst (λ (v : TreeView). is_some (taken_at w a (state_of v.history)) ≡ true) was c.requires.out)
    (λ s e. ((subst (λ (v : TreeView). OpensAs v.nodes.rows (body_view (arc_value c.args.body)) w a (reading v.history.job) (state_of v.history)) was c.requires.opens) s e).0)

pub invariant_of-self : goal.invariant_of-self
invariant_of-self g c =
    let job = g.J.JobBrand.job in
    let p = c.self.inside.public in
    let w = c.args.worker in
    let a = place_view c.args.at in
    let was = sym c.self.view_is in
    takes_kept c.handed_out_once.ensures job p w a c.self.invariant (OpensAs p.nodes.rows (body_view (arc_value c.args.body)))
    (subst (λ (v : TreeView). OpensAs v.nodes.rows (body_view (arc_value c.args.body)) w a (reading v.history.job) (state_of v.history)) was c.requires.opens) c.open_query.new.self c.open_query.result c.open_query.ensures.takes c.open_query.ensures.promised c.open_query.ensures.err c.open_query.ensures.kept

pub returns-clause-answer : goal.returns-clause-answer
returns-clause-answer g c =
    let job = g.J.JobBrand.job in
    let p = c.self.inside.public in
    let w = c.args.worker in
    let a = place_view c.args.at in
    let was = sym c.self.view_is in
    subst (λ (v : TreeView). IfOk c.open_query.result (λ r. r ≡ answering_of (Answer w a false) (state_of v.history))) c.self.view_is
    (takes_noted c.handed_out_once.ensures job p w a c.self.invariant (OpensAs p.nodes.rows (body_view (arc_value c.args.body)))
    (subst (λ (v : TreeView). OpensAs v.nodes.rows (body_view (arc_value c.args.body)) w a (reading v.history.job) (state_of v.history)) was c.requires.opens) c.open_query.new.self c.open_query.result c.open_query.ensures.takes c.open_query.ensures.promised).1

pub returns-clause-noted : goal.returns-clause-noted
returns-clause-noted g c =
    let job = g.J.JobBrand.job in
    let p = c.self.inside.public in
    let w = c.args.worker in
    let a = place_view c.args.at in
    let was = sym c.self.view_is in
    subst (λ (v : TreeView). IfOk c.open_query.result (λ r. history_of job c.open_query.new.self ≡ where_legal (Answer w a false) v.history)) c.self.view_is
    (takes_noted c.handed_out_once.ensures job p w a c.self.invariant (OpensAs p.nodes.rows (body_view (arc_value c.args.body)))
    (subst (λ (v : TreeView). OpensAs v.nodes.rows (body_view (arc_value c.args.body)) w a (reading v.history.job) (state_of v.history)) was c.requires.opens) c.open_query.new.self c.open_query.result c.open_query.ensures.takes c.open_query.ensures.promised).0

pub returns-then-not-is_going-clause-answer : goal.returns-then-not-is_going-clause-answer
returns-then-not-is_going-clause-answer g c =
    let w = c.args.worker in
    let a = place_view c.args.at in
    no_answering (state_of c.args.self.now.history) (Answer w a false) (sym c.is_going.ensures ∙ c.if-not-is_going.true)

pub returns-then-not-is_going-clause-noted : goal.returns-then-not-is_going-clause-noted
returns-then-not-is_going-clause-noted g c =
    let w = c.args.worker in
    let a = place_view c.args.at in
    no_turn c.args.self.now.history (Answer w a false) (sym c.is_going.ensures ∙ c.if-not-is_going.true)
