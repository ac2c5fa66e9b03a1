use Rattle.std.proofs.Common.{◌≡◌, ◌∷◌, [], ◌++◌, false, None, List, length, refl, ap, ◌∙◌, subst}
use Rattle.tree_model.specs.EventViews.{event_view, place_view}
use Rattle.tree_model.specs.Events.{Event, Answer}
use Rattle.public_tree.specs.PublicTrees.{PublicView}
use Rattle.public_tree.specs.Answering.{IsBarred, SpendsAt}
use Rattle.public_tree.proofs.AnsweringLemmas.{front_noted, halts_after}
use Rattle.public_tree.proofs.public.PublicTree.halt.Goals as goal

pub returns-clause-takes : goal.returns-clause-takes
returns-clause-takes c =
    let old = c.args.self.now in
    let a = place_view c.args.at in
    let w = c.args.worker in
    let was = c.self.view_is in
    let free : IsBarred old a None = subst (IsBarred old a) c.in_default.is c.barred.ensures.barred in
    let spends : SpendsAt old.nodes c.spend.new.nodes w a = subst (λ (p : PublicView). SpendsAt p.nodes c.spend.new.nodes w a) was c.in_ok-spend.ensures.spends in
    let rows : length c.spend.new.nodes.rows ≡ length old.nodes.rows = c.in_ok-spend.ensures.numbers.length ∙ ap (λ (p : PublicView). length p.nodes.rows) was in
    let lost = ap (λ (p : PublicView). p.lost) was in
    let budget = ap (λ (p : PublicView). p.budget) was in
    let window = ap (λ (p : PublicView). p.window) was in
    let stopped : c.note_back.new.self.stopped ≡ old.log.stopped = c.note_back.ensures.stopped ∙ ap (λ (p : PublicView). p.log.stopped) was in
    let events : c.note_back.new.self.events ≡ old.log.events ++ Answer w a false ∷ []
    = c.note_back.ensures.events
    ∙ (ap (λ (es : List Event). es ++ event_view c.answer.result ∷ []) (ap (λ (p : PublicView). p.log.events) was)
    ∙ ap (λ (e : Event). old.log.events ++ e ∷ []) c.answer.ensures) in
    λ read t h known. front_noted w old _ a free c.requires.out read t h budget window events
    (λ s e. ((known s e).0, halts_after w old _ a c.args.status spends rows refl lost budget window stopped read t s h e (known s e).1))
