use Rattle.std.proofs.Common.{◌≡◌, true, sym, ◌∙◌, subst}
use Rattle.std.specs.Prelude.{is_some, IfOk}
use Rattle.std.specs.Arc.{arc_value}
use Rattle.tree_model.specs.EventViews.{place_view}
use Rattle.tree_model.specs.Events.{Prune}
use Rattle.tree_model.specs.Legality.{taken_at}
use Rattle.tree_model.specs.Nodes.{CutGate}
use Rattle.tree_nodes.specs.Bodies.{body_view}
use Rattle.tree_nodes.specs.Rows.{scope_number}
use Rattle.branch_reading.specs.Readings.{reading}
use Rattle.public_tree.specs.PublicTrees.{is_going}
use Rattle.public_tree.specs.PublicPruning.{CutsAs}
use Rattle.tree_core.specs.Histories.{TreeView, state_of, history_of}
use Rattle.tree_core.specs.Turns.{where_legal, pruning_of}
use Rattle.tree_core.proofs.ReturnedLemmas.{out_of_each, room_to_suspend}
use Rattle.tree_core.proofs.TurnLemmas.{no_turn, no_pruning, prunes_kept, prunes_noted}
use Rattle.tree_core.proofs.tree.Tree.cut.Goals as goal

pub cut-requires-clause-out : goal.cut-requires-clause-out
cut-requires-clause-out g c =
    let job = g.J.JobBrand.job in
    let p = c.self.inside.public in
    let w = c.args.worker in
    let a = place_view c.args.at in
    let was = sym c.self.view_is in
    out_of_each job p w a c.self.invariant (subst (λ (v : TreeView). is_some (taken_at w a (state_of v.history)) ≡ true) was c.requires.out)

pub cut-requires-clause-promised : goal.cut-requires-clause-promised
cut-requires-clause-promised g c =
    let job = g.J.JobBrand.job in
    let p = c.self.inside.public in
    let w = c.args.worker in
    let a = place_view c.args.at in
    let was = sym c.self.view_is in
    room_to_suspend c.handed_out_once.ensures job p w a c.self.invariant
    (subst (λ (v : TreeView). is_going (state_of v.history) ≡ true) was (sym c.is_going.ensures ∙ c.if-not-is_going.false)) (CutGate (scope_number c.args.scope))
    (subst (λ (v : TreeView). is_some (taken_at w a (state_of v.history)) ≡ true) was c.requires.out)
    (λ s e. ((subst (λ (v : TreeView). CutsAs v.nodes.rows (scope_number c.args.scope) (body_view (arc_value c.args.body)) w a (reading v.history.job) (state_of v.history)) was c.requires.cuts) s e).0)

pub invariant_of-self : goal.invariant_of-self
invariant_of-self g c =
    let job = g.J.JobBrand.job in
    let p = c.self.inside.public in
    let w = c.args.worker in
    let a = place_view c.args.at in
    let was = sym c.self.view_is in
    prunes_kept c.handed_out_once.ensures job p w a c.self.invariant (CutsAs p.nodes.rows (scope_number c.args.scope) (body_view (arc_value c.args.body)))
    (subst (λ (v : TreeView). CutsAs v.nodes.rows (scope_number c.args.scope) (body_view (arc_value c.args.body)) w a (reading v.history.job) (state_of v.history)) was c.requires.cuts) c.cut.new.self c.cut.result c.cut.ensures.prunes c.cut.ensures.promised c.cut.ensures.err c.cut.ensures.kept

pub returns-clause-answer : goal.returns-clause-answer
returns-clause-answer g c =
    let job = g.J.JobBrand.job in
    let p = c.self.inside.public in
    let w = c.args.worker in
    let a = place_view c.args.at in
    let was = sym c.self.view_is in
    subst (λ (v : TreeView). IfOk c.cut.result (λ r. r ≡ pruning_of (Prune w a) (state_of v.history))) c.self.view_is
    (prunes_noted c.handed_out_once.ensures job p w a c.self.invariant (CutsAs p.nodes.rows (scope_number c.args.scope) (body_view (arc_value c.args.body)))
    (subst (λ (v : TreeView). CutsAs v.nodes.rows (scope_number c.args.scope) (body_view (arc_value c.args.body)) w a (reading v.history.job) (state_of v.history)) was c.requires.cuts) c.cut.new.self c.cut.result c.cut.ensures.prunes c.cut.ensures.promised).1

pub returns-clause-cut : goal.returns-clause-cut
returns-clause-cut g c =
    let job = g.J.JobBrand.job in
    let p = c.self.inside.public in
    let w = c.args.worker in
    let a = place_view c.args.at in
    let was = sym c.self.view_is in
    subst (λ (v : TreeView). IfOk c.cut.result (λ r. history_of job c.cut.new.self ≡ where_legal (Prune w a) v.history)) c.self.view_is
    (prunes_noted c.handed_out_once.ensures job p w a c.self.invariant (CutsAs p.nodes.rows (scope_number c.args.scope) (body_view (arc_value c.args.body)))
    (subst (λ (v : TreeView). CutsAs v.nodes.rows (scope_number c.args.scope) (body_view (arc_value c.args.body)) w a (reading v.history.job) (state_of v.history)) was c.requires.cuts) c.cut.new.self c.cut.result c.cut.ensures.prunes c.cut.ensures.promised).0

pub returns-then-not-is_going-clause-answer : goal.returns-then-not-is_going-clause-answer
returns-then-not-is_going-clause-answer g c =
    let w = c.args.worker in
    let a = place_view c.args.at in
    no_pruning (state_of c.args.self.now.history) (Prune w a) (sym c.is_going.ensures ∙ c.if-not-is_going.true)

pub returns-then-not-is_going-clause-cut : goal.returns-then-not-is_going-clause-cut
returns-then-not-is_going-clause-cut g c =
    let w = c.args.worker in
    let a = place_view c.args.at in
    no_turn c.args.self.now.history (Prune w a) (sym c.is_going.ensures ∙ c.if-not-is_going.true)
