use Rattle.std.proofs.Common.{◌≡◌, ◌+◌, ◌∷◌, [], ◌++◌, true, false, List, length, map, Option, ap, ◌∙◌, subst}
use Rattle.std.specs.Arc.{arc_value}
use Rattle.tree_model.specs.EventViews.{place_view}
use Rattle.tree_model.specs.Events.{Event, Prune}
use Rattle.tree_nodes.specs.Bodies.{body_view}
use Rattle.tree_nodes.specs.Rows.{credit_view, scope_number}
use Rattle.prune_ops.specs.declared.landing.Landing.{Landing}
use Rattle.prune_ops.specs.Falls.{FindsLanding, LandsBelow, LandsNowhere, LandsBeside}
use Rattle.public_tree.specs.LostTasks.{task_view}
use Rattle.public_tree.specs.PrunedTasks.{FindsTasks}
use Rattle.public_tree.specs.PublicTrees.{PublicView, Answers, is_going}
use Rattle.public_tree.specs.PublicPruning.{IsClearedAt}
use Rattle.public_tree.proofs.PruningLemmas.{same_tree}
use Rattle.public_tree.proofs.FallingLemmas.{not_cleared, no_landing, ball_taken}
use Rattle.public_tree.proofs.public.PublicTree.fall.Goals as goal

pub returns-then-not-is_cleared-clause-prunes : goal.returns-then-not-is_cleared-clause-prunes
returns-then-not-is_cleared-clause-prunes c =
    let old = c.args.self.now in
    let a = place_view c.args.at in
    let n = scope_number c.args.scope in
    let going : Answers old is_going true = subst (Answers old is_going) c.if-not-is_going.false c.is_going.ensures.going in
    let cleared : IsClearedAt old.nodes a n false
    = subst (λ (p : PublicView). IsClearedAt p.nodes a n false) c.self.view_is
    (subst (IsClearedAt c.self.inside.nodes a n) c.if-not-is_cleared.true c.is_cleared.ensures.cleared) in
    (same_tree old, not_cleared old c.args.worker a n (body_view (arc_value c.args.body)) going c.requires.out cleared)

pub returns-in_default-clause-prunes : goal.returns-in_default-clause-prunes
returns-in_default-clause-prunes c =
    let old = c.args.self.now in
    let a = place_view c.args.at in
    let n = scope_number c.args.scope in
    let cleared : IsClearedAt old.nodes a n true
    = subst (λ (p : PublicView). IsClearedAt p.nodes a n true) c.self.view_is
    (subst (IsClearedAt c.self.inside.nodes a n) c.if-not-is_cleared.false c.is_cleared.ensures.cleared) in
    let nowhere : LandsNowhere old.nodes a n
    = subst (λ (p : PublicView). LandsNowhere p.nodes a n) c.self.view_is
    (subst (λ (o : Option Landing). FindsLanding c.self.inside.nodes a n o) c.in_default.is c.in_ok-landing.ensures.finds) in
    (same_tree old, no_landing old c.args.worker a n (body_view (arc_value c.args.body)) c.requires.out cleared nowhere)

pub returns-clause-prunes : goal.returns-clause-prunes
returns-clause-prunes c =
    let old = c.args.self.now in
    let a = place_view c.args.at in
    let w = c.args.worker in
    let n = scope_number c.args.scope in
    let b = place_view c.in-Some.landing.end in
    let total = credit_view c.in-Some.landing.credit in
    let body = body_view (arc_value c.args.body) in
    let was = c.self.view_is in
    let going : Answers old is_going true = subst (Answers old is_going) c.if-not-is_going.false c.is_going.ensures.going in
    let cleared : IsClearedAt old.nodes a n true
    = subst (λ (p : PublicView). IsClearedAt p.nodes a n true) was
    (subst (IsClearedAt c.self.inside.nodes a n) c.if-not-is_cleared.false c.is_cleared.ensures.cleared) in
    let lands : LandsBelow old.nodes a n b total
    = subst (λ (p : PublicView). LandsBelow p.nodes a n b total) was
    (subst (λ (o : Option Landing). FindsLanding c.self.inside.nodes a n o) c.in-Some.is c.in_ok-landing.ensures.finds) in
    let beside : LandsBeside old.nodes c.land.new.nodes b total body
    = subst (λ (p : PublicView). LandsBeside p.nodes c.land.new.nodes b total body) was c.in_ok-land.ensures.lands in
    let rows : length c.land.new.nodes.rows ≡ length old.nodes.rows + 1
    = c.in_ok-land.ensures.grown.length ∙ ap (λ (p : PublicView). length p.nodes.rows + 1) was in
    let lost : FindsTasks old.nodes a n old.lost (map task_view c.in_ok-lost.lost.items) = c.in_ok-lost.ensures in
    let stopped : c.note_back.new.self.stopped ≡ old.log.stopped = c.note_back.ensures.stopped ∙ ap (λ (p : PublicView). p.log.stopped) was in
    let events : c.note_back.new.self.events ≡ old.log.events ++ Prune w a ∷ []
    = c.note_back.ensures.events ∙ ap (λ (es : List Event). es ++ Prune w a ∷ []) (ap (λ (p : PublicView). p.log.events) was) in
    ball_taken w old _ a b n total body going c.requires.out cleared lands beside rows lost
    (ap (λ (p : PublicView). p.halted) was) (ap (λ (p : PublicView). p.budget) was) (ap (λ (p : PublicView). p.window) was) stopped events
