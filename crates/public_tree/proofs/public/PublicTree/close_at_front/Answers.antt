use Rattle.std.proofs.Common.{◌≡◌, ◌∷◌, [], ◌++◌, false, None, List, ap, ◌∙◌, subst}
use Rattle.tree_model.specs.EventViews.{event_view, place_view}
use Rattle.tree_model.specs.Events.{Event, Answer}
use Rattle.tree_nodes.specs.Rows.{credit_view}
use Rattle.public_tree.specs.Opening.{opening_body}
use Rattle.public_tree.specs.PublicTrees.{PublicView}
use Rattle.public_tree.specs.PublicClosing.{RestsIn}
use Rattle.public_tree.specs.Answering.{IsBarred}
use Rattle.public_tree.proofs.HandOutLemmas.{KeepsOthers}
use Rattle.public_tree.proofs.AnsweringLemmas.{front_noted, closes_after}
use Rattle.public_tree.proofs.public.PublicTree.close_at_front.Goals as goal

pub returns-clause-takes : goal.returns-clause-takes
returns-clause-takes c =
    let old = c.args.self.now in
    let a = place_view c.args.at in
    let w = c.args.worker in
    let b = place_view c.args.closing.end in
    let total = credit_view c.args.closing.credit in
    let beside = c.args.closing.beside in
    let body = opening_body c.args.woken in
    let was = c.self.view_is in
    let free : IsBarred old a None = subst (IsBarred old a) c.in_default.is c.barred.ensures.barred in
    let closed : RestsIn old.nodes c.rest.new.nodes b total beside body
    = subst (λ (p : PublicView). RestsIn p.nodes c.rest.new.nodes b total beside body) was c.in_ok-rest.ensures.rests in
    let others : KeepsOthers old _ = record {
      lost = ap (λ (p : PublicView). p.lost) was;
      halted = ap (λ (p : PublicView). p.halted) was;
      budget = ap (λ (p : PublicView). p.budget) was;
      window = ap (λ (p : PublicView). p.window) was;
    } in
    let stopped : c.note_back.new.self.stopped ≡ old.log.stopped = c.note_back.ensures.stopped ∙ ap (λ (p : PublicView). p.log.stopped) was in
    let events : c.note_back.new.self.events ≡ old.log.events ++ Answer w a false ∷ []
    = c.note_back.ensures.events
    ∙ (ap (λ (es : List Event). es ++ event_view c.answer.result ∷ []) (ap (λ (p : PublicView). p.log.events) was)
    ∙ ap (λ (e : Event). old.log.events ++ e ∷ []) c.answer.ensures) in
    λ read t h known. front_noted w old _ a free c.requires.out read t h others.budget others.window events
    (λ s e. ((known.rests s e).0, closes_after w old _ a c.args.closing body closed others stopped read t s h e known.given (known.rests s e).1))
