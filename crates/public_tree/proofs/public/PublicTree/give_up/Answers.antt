use Rattle.std.proofs.Common.{◌≡◌, ◌∷◌, [], ◌++◌, true, List, inl, ap, ◌∙◌, subst}
use Rattle.tree_model.specs.EventViews.{place_view}
use Rattle.tree_model.specs.Events.{Event, Lost}
use Rattle.tree_model.specs.Effects.{without_task}
use Rattle.public_tree.specs.PublicTrees.{PublicView, Answers, is_going}
use Rattle.public_tree.proofs.HandOutLemmas.{given_up}
use Rattle.public_tree.proofs.public.PublicTree.give_up.Goals as goal

pub returns-clause-gives_up : goal.returns-clause-gives_up
returns-clause-gives_up c =
    let old = c.args.self.now in
    let a = place_view c.args.at in
    let w = c.args.worker in
    let was = c.self.view_is in
    let going : Answers old is_going true = subst (Answers old is_going) c.if-not-is_going.false c.is_going.ensures.going in
    let events : c.note_back.new.self.events ≡ old.log.events ++ Lost w a ∷ []
    = c.note_back.ensures.events ∙ ap (λ (es : List Event). es ++ Lost w a ∷ []) (ap (λ (p : PublicView). p.log.events) was) in
    inl (given_up w old _ a going c.requires.lost (ap (λ (p : PublicView). p.nodes) was)
    (c.take_out.ensures ∙ ap (λ (p : PublicView). without_task w a p.lost) was) (ap (λ (p : PublicView). p.halted) was)
    (ap (λ (p : PublicView). p.budget) was) (ap (λ (p : PublicView). p.window) was)
    (c.note_back.ensures.stopped ∙ ap (λ (p : PublicView). p.log.stopped) was) events)
