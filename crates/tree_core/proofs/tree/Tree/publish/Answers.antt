use Rattle.std.proofs.Common.{◌≡◌, true, sym, ◌∙◌, subst}
use Rattle.std.specs.Prelude.{is_some, OnOk}
use Rattle.tree_model.specs.EventViews.{place_view}
use Rattle.tree_model.specs.Legality.{taken_at}
use Rattle.branch_reading.specs.Readings.{reading}
use Rattle.public_tree.specs.PublicTrees.{is_going}
use Rattle.public_tree.specs.Publishing.{bodies_view, body_sizes, publishing_event, RunReadsAs}
use Rattle.tree_core.specs.Histories.{TreeView, state_of, while_going, history_of}
use Rattle.tree_core.proofs.MoveLemmas.{room_to_come_back, nodes_back}
use Rattle.tree_core.proofs.ReturnedLemmas.{out_is_there, out_of_each}
use Rattle.tree_core.proofs.TurnLemmas.{publishing_legal, happens_kept, happens_noted}
use Rattle.tree_core.proofs.tree.Tree.publish.Goals as goal

pub publish-requires-clause-there : goal.publish-requires-clause-there
publish-requires-clause-there g c =
    let job = g.J.JobBrand.job in
    let p = c.self.inside.public in
    let w = c.args.worker in
    let a = place_view c.args.at in
    let was = sym c.self.view_is in
    out_is_there job p w a c.self.invariant (subst (λ (v : TreeView). is_some (taken_at w a (state_of v.history)) ≡ true) was c.requires.out)

pub publish-requires-clause-out : goal.publish-requires-clause-out
publish-requires-clause-out g c =
    let job = g.J.JobBrand.job in
    let p = c.self.inside.public in
    let w = c.args.worker in
    let a = place_view c.args.at in
    let was = sym c.self.view_is in
    out_of_each job p w a c.self.invariant (subst (λ (v : TreeView). is_some (taken_at w a (state_of v.history)) ≡ true) was c.requires.out)

pub publish-requires-clause-promised : goal.publish-requires-clause-promised
publish-requires-clause-promised g c =
    let job = g.J.JobBrand.job in
    let p = c.self.inside.public in
    let w = c.args.worker in
    let a = place_view c.args.at in
    let was = sym c.self.view_is in
    let k = c.args.inferences in
    room_to_come_back c.handed_out_once.ensures job p c.self.invariant (publishing_event (bodies_view c.args.bodies.now) w a k) w a (nodes_back w a k (body_sizes (bodies_view c.args.bodies.now)))
    (publishing_legal (state_of (history_of job p)) w a k p.nodes.rows (bodies_view c.args.bodies.now) (reading job) (subst (λ (v : TreeView). is_going (state_of v.history) ≡ true) was (sym c.is_going.ensures ∙ c.if-not-is_going.false)) (subst (λ (v : TreeView). is_some (taken_at w a (state_of v.history)) ≡ true) was c.requires.out) c.requires.some (subst (λ (v : TreeView). RunReadsAs v.nodes.rows (bodies_view c.args.bodies.now) w a k (reading v.history.job) (state_of v.history)) was c.requires.reads))

pub invariant_of-self : goal.invariant_of-self
invariant_of-self g c =
    let job = g.J.JobBrand.job in
    let p = c.self.inside.public in
    let w = c.args.worker in
    let a = place_view c.args.at in
    let was = sym c.self.view_is in
    let k = c.args.inferences in
    happens_kept c.handed_out_once.ensures job p w a c.self.invariant
    (subst (λ (v : TreeView). is_going (state_of v.history) ≡ true) was (sym c.is_going.ensures ∙ c.if-not-is_going.false)) k (RunReadsAs p.nodes.rows (bodies_view c.args.bodies.now)) (publishing_event (bodies_view c.args.bodies.now)) (nodes_back w a k (body_sizes (bodies_view c.args.bodies.now)))
    (subst (λ (v : TreeView). RunReadsAs v.nodes.rows (bodies_view c.args.bodies.now) w a k (reading v.history.job) (state_of v.history)) was c.requires.reads) c.publish.new.self c.publish.result c.publish.ensures.publishes c.publish.ensures.err c.publish.ensures.promised c.publish.ensures.kept

pub returns-clause-publishes : goal.returns-clause-publishes
returns-clause-publishes g c =
    let job = g.J.JobBrand.job in
    let p = c.self.inside.public in
    let w = c.args.worker in
    let a = place_view c.args.at in
    let was = sym c.self.view_is in
    let k = c.args.inferences in
    subst (λ (v : TreeView). OnOk c.publish.result (history_of job c.publish.new.self ≡ while_going (publishing_event (bodies_view c.args.bodies.now) w a k) v.history)) c.self.view_is
    (happens_noted c.handed_out_once.ensures job p w a c.self.invariant
    (subst (λ (v : TreeView). is_going (state_of v.history) ≡ true) was (sym c.is_going.ensures ∙ c.if-not-is_going.false)) k (RunReadsAs p.nodes.rows (bodies_view c.args.bodies.now)) (publishing_event (bodies_view c.args.bodies.now)) (nodes_back w a k (body_sizes (bodies_view c.args.bodies.now)))
    (subst (λ (v : TreeView). RunReadsAs v.nodes.rows (bodies_view c.args.bodies.now) w a k (reading v.history.job) (state_of v.history)) was c.requires.reads) c.publish.new.self c.publish.result c.publish.ensures.publishes c.publish.ensures.promised)
