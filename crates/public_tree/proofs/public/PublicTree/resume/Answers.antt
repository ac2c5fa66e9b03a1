use Rattle.std.proofs.Common.{◌≡◌, ◌∷◌, [], ◌++◌, true, List, length, refl, sym, ap, ◌∙◌, subst}
use Rattle.tree_model.specs.EventViews.{place_view}
use Rattle.tree_model.specs.Events.{Event, Resume}
use Rattle.tree_model.specs.Legality.{resumable}
use Rattle.tree_model.specs.Nodes.{TakenBy}
use Rattle.tree_nodes.specs.TreeTables.{NodesView}
use Rattle.interleaving.proofs.OpenSpotLemmas.{resumable_open}
use Rattle.public_tree.specs.PublicTrees.{PublicView, Answers, IsHeldAt, is_going}
use Rattle.public_tree.proofs.HandOutLemmas.{KeepsOthers, handed}
use Rattle.public_tree.proofs.public.PublicTree.resume.Goals as goal

pub returns-clause-out : goal.returns-clause-out
returns-clause-out c =
    let old = c.args.self.now in
    let a = place_view c.in-Some.at in
    let w = c.args.worker in
    let was = c.self.view_is in
    let is = c.self-2.view_is ∙ c.hold.ensures.others in
    let going : Answers old is_going true = subst (Answers old is_going) c.if-not-is_going.false c.is_going.ensures.going in
    let held : IsHeldAt old.nodes c.self-2.inside.nodes a (TakenBy w)
    = subst (λ (p : PublicView). IsHeldAt p.nodes c.self-2.inside.nodes a (TakenBy w)) was
    (subst (λ (n : NodesView). IsHeldAt c.self.inside.nodes n a (TakenBy w)) (sym (ap (λ (p : PublicView). p.nodes) c.self-2.view_is)) c.hold.ensures.held) in
    let rows : length c.self-2.inside.nodes.rows ≡ length old.nodes.rows
    = ap (λ (p : PublicView). length p.nodes.rows) c.self-2.view_is ∙ (c.hold.ensures.numbers ∙ ap (λ (p : PublicView). length p.nodes.rows) was) in
    let others : KeepsOthers old _ = record {
      lost = ap (λ (p : PublicView). p.lost) is ∙ ap (λ (p : PublicView). p.lost) was;
      halted = ap (λ (p : PublicView). p.halted) is ∙ ap (λ (p : PublicView). p.halted) was;
      budget = ap (λ (p : PublicView). p.budget) is ∙ ap (λ (p : PublicView). p.budget) was;
      window = ap (λ (p : PublicView). p.window) is ∙ ap (λ (p : PublicView). p.window) was;
    } in
    let stopped : c.note_out.new.self.stopped ≡ old.log.stopped
    = c.note_out.ensures.stopped ∙ (ap (λ (p : PublicView). p.log.stopped) is ∙ (c.in_ok-reserve.ensures.stopped ∙ ap (λ (p : PublicView). p.log.stopped) was)) in
    let events : c.note_out.new.self.events ≡ old.log.events ++ Resume w a ∷ []
    = c.note_out.ensures.events ∙ ap (λ (es : List Event). es ++ Resume w a ∷ [])
    (ap (λ (p : PublicView). p.log.events) is ∙ (c.in_ok-reserve.ensures.events ∙ ap (λ (p : PublicView). p.log.events) was)) in
    handed (λ b. Resume w b) resumable w old _ a (λ t. refl) (λ t. refl) resumable_open going c.in-Some.ensures.offer
    (record { held = held; rows = rows; others = others; stopped = stopped }) events
