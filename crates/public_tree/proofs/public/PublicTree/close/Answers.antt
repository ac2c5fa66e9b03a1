use Rattle.std.proofs.Common.{◌≡◌, ◌∷◌, [], ◌++◌, true, List, inl, ap, ◌∙◌, subst}
use Rattle.tree_model.specs.EventViews.{event_view, place_view}
use Rattle.tree_model.specs.Events.{Event}
use Rattle.tree_nodes.specs.Rows.{credit_view}
use Rattle.public_tree.specs.Opening.{opening_body}
use Rattle.public_tree.specs.PublicTrees.{PublicView, Answers, is_going}
use Rattle.public_tree.specs.PublicClosing.{closing_event, RestsIn}
use Rattle.public_tree.proofs.HandOutLemmas.{KeepsOthers}
use Rattle.public_tree.proofs.PublicClosingLemmas.{closed_out}
use Rattle.public_tree.proofs.public.PublicTree.close.Goals as goal

pub returns-clause-closes : goal.returns-clause-closes
returns-clause-closes c =
    let old = c.args.self.now in
    let a = place_view c.args.at in
    let w = c.args.worker in
    let k = c.args.inferences in
    let b = place_view c.args.closing.end in
    let total = credit_view c.args.closing.credit in
    let beside = c.args.closing.beside in
    let body = opening_body c.args.woken in
    let was = c.self.view_is in
    let going : Answers old is_going true = subst (Answers old is_going) c.if-not-is_going.false c.is_going.ensures.going in
    let closed : RestsIn old.nodes c.rest.new.nodes b total beside body
    = subst (λ (p : PublicView). RestsIn p.nodes c.rest.new.nodes b total beside body) was c.in_ok-rest.ensures.rests in
    let others : KeepsOthers old _ = record {
      lost = ap (λ (p : PublicView). p.lost) was;
      halted = ap (λ (p : PublicView). p.halted) was;
      budget = ap (λ (p : PublicView). p.budget) was;
      window = ap (λ (p : PublicView). p.window) was;
    } in
    let stopped : c.note_back.new.self.stopped ≡ old.log.stopped = c.note_back.ensures.stopped ∙ ap (λ (p : PublicView). p.log.stopped) was in
    let events : c.note_back.new.self.events ≡ old.log.events ++ closing_event c.args.end w a k ∷ []
    = c.note_back.ensures.events
    ∙ (ap (λ (es : List Event). es ++ event_view c.event_of.result ∷ []) (ap (λ (p : PublicView). p.log.events) was)
    ∙ ap (λ (e : Event). old.log.events ++ e ∷ []) c.event_of.ensures) in
    inl (λ read t h known. closed_out w old _ a k c.args.end c.args.closing body going c.requires.out closed others stopped read t h known events)
