use Rattle.std.proofs.Common.{◌≡◌, true, sym, ◌∙◌, subst}
use Rattle.std.specs.Prelude.{is_some}
use Rattle.tree_model.specs.EventViews.{place_view}
use Rattle.tree_model.specs.Legality.{taken_at}
use Rattle.tree_nodes.specs.Rows.{gate_view}
use Rattle.public_tree.specs.PublicTrees.{is_going, IsItsGate}
use Rattle.tree_core.specs.Histories.{TreeView, state_of}
use Rattle.tree_core.proofs.ReturnedLemmas.{out_is_there, out_of_each, room_to_suspend, suspended}
use Rattle.tree_core.proofs.tree.Tree.suspend.Goals as goal

pub suspend-requires-clause-there : goal.suspend-requires-clause-there
suspend-requires-clause-there g c =
    let w = c.args.worker in
    let a = place_view c.args.at in
    out_is_there g.J.JobBrand.job c.self.inside.public w a c.self.invariant
    (subst (λ (v : TreeView). is_some (taken_at w a (state_of v.history)) ≡ true) (sym c.self.view_is) c.requires.out)

pub suspend-requires-clause-out : goal.suspend-requires-clause-out
suspend-requires-clause-out g c =
    let w = c.args.worker in
    let a = place_view c.args.at in
    out_of_each g.J.JobBrand.job c.self.inside.public w a c.self.invariant
    (subst (λ (v : TreeView). is_some (taken_at w a (state_of v.history)) ≡ true) (sym c.self.view_is) c.requires.out)

pub suspend-requires-clause-promised : goal.suspend-requires-clause-promised
suspend-requires-clause-promised g c =
    let w = c.args.worker in
    let a = place_view c.args.at in
    let was = sym c.self.view_is in
    room_to_suspend c.handed_out_once.ensures g.J.JobBrand.job c.self.inside.public w a c.self.invariant
    (subst (λ (v : TreeView). is_going (state_of v.history) ≡ true) was (sym c.is_going.ensures ∙ c.if-is_going.true)) (gate_view c.args.gate)
    (subst (λ (v : TreeView). is_some (taken_at w a (state_of v.history)) ≡ true) was c.requires.out)
    (subst (λ (v : TreeView). IsItsGate (gate_view c.args.gate) w a (state_of v.history)) was c.requires.gate)

pub invariant_of-self : goal.invariant_of-self
invariant_of-self g c =
    let w = c.args.worker in
    let a = place_view c.args.at in
    let was = sym c.self.view_is in
    (suspended c.handed_out_once.ensures g.J.JobBrand.job c.self.inside.public w a c.self.invariant
    (subst (λ (v : TreeView). is_going (state_of v.history) ≡ true) was (sym c.is_going.ensures ∙ c.if-is_going.true)) (gate_view c.args.gate)
    (subst (λ (v : TreeView). is_some (taken_at w a (state_of v.history)) ≡ true) was c.requires.out)
    (subst (λ (v : TreeView). IsItsGate (gate_view c.args.gate) w a (state_of v.history)) was c.requires.gate)
    c.suspend.new.self c.suspend.ensures.suspends c.suspend.ensures.promised).kept
