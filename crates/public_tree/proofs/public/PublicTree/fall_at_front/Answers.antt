use Rattle.std.proofs.Common.{◌≡◌, ◌+◌, ◌∷◌, [], ◌++◌, false, None, List, length, map, Option, ap, ◌∙◌, subst}
use Rattle.std.specs.Arc.{arc_value}
use Rattle.tree_model.specs.EventViews.{event_view, place_view}
use Rattle.tree_model.specs.Events.{Event, Answer}
use Rattle.tree_nodes.specs.Bodies.{body_view}
use Rattle.tree_nodes.specs.Rows.{credit_view, scope_number}
use Rattle.prune_ops.specs.declared.landing.Landing.{Landing}
use Rattle.prune_ops.specs.Falls.{FindsLanding, LandsBelow, LandsNowhere, LandsBeside}
use Rattle.public_tree.specs.LostTasks.{task_view}
use Rattle.public_tree.specs.PrunedTasks.{FindsTasks}
use Rattle.public_tree.specs.PublicTrees.{PublicView}
use Rattle.public_tree.specs.Answering.{IsBarred}
use Rattle.public_tree.proofs.PruningLemmas.{same_tree}
use Rattle.public_tree.proofs.AnsweringLemmas.{front_noted}
use Rattle.public_tree.proofs.AnswerBallLemmas.{no_landing, falls_after}
use Rattle.public_tree.proofs.public.PublicTree.fall_at_front.Goals as goal

pub returns-in_default-2-clause-takes : goal.returns-in_default-2-clause-takes
returns-in_default-2-clause-takes c =
    let old = c.args.self.now in
    let a = place_view c.args.at in
    let n = scope_number c.args.scope in
    let free : IsBarred old a None = subst (IsBarred old a) c.in_default.is c.barred.ensures.barred in
    let nowhere : LandsNowhere old.nodes a n
    = subst (λ (p : PublicView). LandsNowhere p.nodes a n) c.self.view_is
    (subst (λ (o : Option Landing). FindsLanding c.self.inside.nodes a n o) c.in_default-2.is c.in_ok-landing.ensures.finds) in
    (same_tree old, no_landing old c.args.worker a n (body_view (arc_value c.args.body)) free c.requires.out nowhere)

pub returns-clause-takes : goal.returns-clause-takes
returns-clause-takes c =
    let old = c.args.self.now in
    let a = place_view c.args.at in
    let w = c.args.worker in
    let n = scope_number c.args.scope in
    let b = place_view c.in-Some-2.landing.end in
    let total = credit_view c.in-Some-2.landing.credit in
    let body = body_view (arc_value c.args.body) in
    let was = c.self.view_is in
    let free : IsBarred old a None = subst (IsBarred old a) c.in_default.is c.barred.ensures.barred in
    let lands : LandsBelow old.nodes a n b total
    = subst (λ (p : PublicView). LandsBelow p.nodes a n b total) was
    (subst (λ (o : Option Landing). FindsLanding c.self.inside.nodes a n o) c.in-Some-2.is c.in_ok-landing.ensures.finds) in
    let beside : LandsBeside old.nodes c.land.new.nodes b total body
    = subst (λ (p : PublicView). LandsBeside p.nodes c.land.new.nodes b total body) was c.in_ok-land.ensures.lands in
    let rows : length c.land.new.nodes.rows ≡ length old.nodes.rows + 1
    = c.in_ok-land.ensures.grown.length ∙ ap (λ (p : PublicView). length p.nodes.rows + 1) was in
    let lost : FindsTasks old.nodes a n old.lost (map task_view c.in_ok-lost.lost.items) = c.in_ok-lost.ensures in
    let halted = ap (λ (p : PublicView). p.halted) was in
    let budget = ap (λ (p : PublicView). p.budget) was in
    let window = ap (λ (p : PublicView). p.window) was in
    let stopped : c.note_back.new.self.stopped ≡ old.log.stopped = c.note_back.ensures.stopped ∙ ap (λ (p : PublicView). p.log.stopped) was in
    let events : c.note_back.new.self.events ≡ old.log.events ++ Answer w a false ∷ []
    = c.note_back.ensures.events
    ∙ (ap (λ (es : List Event). es ++ event_view c.answer.result ∷ []) (ap (λ (p : PublicView). p.log.events) was)
    ∙ ap (λ (e : Event). old.log.events ++ e ∷ []) c.answer.ensures) in
    λ read t h known. front_noted w old _ a free c.requires.out read t h budget window events
    (λ s e. ((known s e).0, falls_after w old _ a b n total body free lands beside rows lost halted budget window stopped read t s h e (known s e).1))
