use Rattle.std.proofs.Common.{◌≡◌, ℕ, max, length, None, ap, ◌∙◌, subst}
use Rattle.tree_model.specs.EventViews.{place_view}
use Rattle.public_tree.specs.Opening.{opening_body}
use Rattle.public_tree.specs.PublicTrees.{PublicView}
use Rattle.public_tree.specs.AnsweringAtOnce.{answer_sizes, leaf_place, IsRunBarred, RunRestsIn}
use Rattle.public_tree.proofs.HandOutLemmas.{KeepsOthers}
use Rattle.public_tree.proofs.RunTakenLemmas.{run_taken, told_events}
use Rattle.public_tree.proofs.public.PublicTree.answer_at_once.Goals as goal

pub returns-clause-takes : goal.returns-clause-takes
returns-clause-takes c =
    let old = c.args.self.now in
    let a = place_view c.args.at in
    let w = c.args.worker in
    let k = c.args.inferences in
    let n = c.args.recoveries in
    let closing = c.args.closing in
    let body = opening_body c.args.woken in
    let was = c.self.view_is in
    let free : IsRunBarred old a k None = subst (IsRunBarred old a k) c.in_default.is c.run_barred.ensures.barred in
    let rested : RunRestsIn old.nodes c.close_run.new.nodes a k (max n 1) closing body
    = subst (λ (p : PublicView). RunRestsIn p.nodes c.close_run.new.nodes a k (max n 1) closing body) was
    (subst (λ (m : ℕ). RunRestsIn c.self.inside.nodes c.close_run.new.nodes a k m closing body) c.max.ensures c.in_ok-close_run.ensures.rests) in
    let others : KeepsOthers old _ = record {
      lost = ap (λ (p : PublicView). p.lost) was;
      halted = ap (λ (p : PublicView). p.halted) was;
      budget = ap (λ (p : PublicView). p.budget) was;
      window = ap (λ (p : PublicView). p.window) was;
    } in
    let stopped : c.note_turn.new.self.stopped ≡ old.log.stopped
    = c.note_turn.ensures.stopped ∙ (c.in_ok-reserve.ensures.stopped ∙ ap (λ (p : PublicView). p.log.stopped) was) in
    let logged : c.reserve.new.self.events ≡ old.log.events = c.in_ok-reserve.ensures.events ∙ ap (λ (p : PublicView). p.log.events) was in
    let sizes : c.of.result ≡ answer_sizes n = c.of.ensures ∙ c.in_ok-sizes.ensures in
    let leaf : place_view c.in_ok-leaf.leaf ≡ leaf_place c.drawn.result n = c.in_ok-leaf.ensures in
    λ read t h caught known. run_taken w old _ a k n closing body c.answers_may_follow.ensures c.answers_close_at_once.ensures free c.requires.out c.requires.some rested
    others stopped read t h caught known
    (told_events c.reserve.new.self.events c.note_turn.new.self.events old.log.events w a k n c.of.result (place_view c.in_ok-leaf.leaf) c.drawn.result t.next
    c.note_turn.ensures.events logged sizes leaf (c.drawn.ensures ∙ (ap (λ (p : PublicView). length p.nodes.rows) was ∙ h.next)))
