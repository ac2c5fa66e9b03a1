use Rattle.std.proofs.Common.{◌≡◌, true, sym, ◌∙◌, subst}
use Rattle.std.specs.List.{list_any}
use Rattle.tree_model.specs.EventViews.{place_view}
use Rattle.tree_model.specs.Legality.{is_task}
use Rattle.public_tree.specs.PublicTrees.{is_going}
use Rattle.tree_core.specs.Histories.{TreeView, state_of}
use Rattle.tree_core.proofs.ReturnedLemmas.{room_to_give_up, given_up}
use Rattle.tree_core.proofs.tree.Tree.give_up.Goals as goal

pub give_up-requires-clause-promised : goal.give_up-requires-clause-promised
give_up-requires-clause-promised g c =
    let w = c.args.worker in
    let a = place_view c.args.at in
    let was = sym c.self.view_is in
    room_to_give_up c.handed_out_once.ensures g.J.JobBrand.job c.self.inside.public w a c.self.invariant
    (subst (λ (v : TreeView). is_going (state_of v.history) ≡ true) was (sym c.is_going.ensures ∙ c.if-is_going.true))
    (subst (λ (v : TreeView). list_any (is_task w a) (state_of v.history).lost ≡ true) was c.requires.lost)

pub invariant_of-self : goal.invariant_of-self
invariant_of-self g c =
    let w = c.args.worker in
    let a = place_view c.args.at in
    let was = sym c.self.view_is in
    (given_up c.handed_out_once.ensures g.J.JobBrand.job c.self.inside.public w a c.self.invariant
    (subst (λ (v : TreeView). is_going (state_of v.history) ≡ true) was (sym c.is_going.ensures ∙ c.if-is_going.true))
    (subst (λ (v : TreeView). list_any (is_task w a) (state_of v.history).lost ≡ true) was c.requires.lost)
    c.give_up.new.self c.give_up.ensures.gives_up c.give_up.ensures.promised).kept
