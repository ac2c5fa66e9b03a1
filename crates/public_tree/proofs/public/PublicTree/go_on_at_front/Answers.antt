use Rattle.std.proofs.Common.{◌≡◌, ◌+◌, ◌∷◌, [], ◌++◌, false, None, List, length, ap, ◌∙◌, subst}
use Rattle.std.specs.Arc.{arc_value}
use Rattle.tree_model.specs.EventViews.{event_view, place_view}
use Rattle.tree_model.specs.Events.{Event, Answer}
use Rattle.tree_nodes.specs.Bodies.{body_view}
use Rattle.public_tree.specs.PublicTrees.{PublicView}
use Rattle.public_tree.specs.Answering.{IsBarred, GrowsAt}
use Rattle.public_tree.proofs.HandOutLemmas.{KeepsOthers}
use Rattle.public_tree.proofs.AnsweringLemmas.{front_noted, goes_on_after}
use Rattle.public_tree.proofs.public.PublicTree.go_on_at_front.Goals as goal

pub returns-clause-takes : goal.returns-clause-takes
returns-clause-takes c =
    let old = c.args.self.now in
    let a = place_view c.args.at in
    let w = c.args.worker in
    let body = body_view (arc_value c.args.body) in
    let was = c.self.view_is in
    let free : IsBarred old a None = subst (IsBarred old a) c.in_default.is c.barred.ensures.barred in
    let grows : GrowsAt old.nodes c.grow.new.nodes a body = subst (λ (p : PublicView). GrowsAt p.nodes c.grow.new.nodes a body) was c.in_ok-grow.ensures.grows in
    let rows : length c.grow.new.nodes.rows ≡ length old.nodes.rows + 1
    = c.in_ok-grow.ensures.longer.length ∙ ap (λ (p : PublicView). length p.nodes.rows + 1) was in
    let others : KeepsOthers old _ = record {
      lost = ap (λ (p : PublicView). p.lost) was;
      halted = ap (λ (p : PublicView). p.halted) was;
      budget = ap (λ (p : PublicView). p.budget) was;
      window = ap (λ (p : PublicView). p.window) was;
    } in
    let stopped : c.note_back.new.self.stopped ≡ old.log.stopped = c.note_back.ensures.stopped ∙ ap (λ (p : PublicView). p.log.stopped) was in
    let events : c.note_back.new.self.events ≡ old.log.events ++ Answer w a false ∷ []
    = c.note_back.ensures.events
    ∙ (ap (λ (es : List Event). es ++ event_view c.answer.result ∷ []) (ap (λ (p : PublicView). p.log.events) was)
    ∙ ap (λ (e : Event). old.log.events ++ e ∷ []) c.answer.ensures) in
    λ read t h known. front_noted w old _ a free c.requires.out read t h others.budget others.window events
    (λ s e. ((known s e).0, goes_on_after w old _ a body grows rows others stopped read t s h e (known s e).1))
