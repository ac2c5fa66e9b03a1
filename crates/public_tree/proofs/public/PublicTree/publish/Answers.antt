use Rattle.std.proofs.Common.{◌≡◌, ℕ, ◌∷◌, [], ◌++◌, true, List, inl, ap, ◌∙◌, subst}
use Rattle.tree_model.specs.EventViews.{place_view}
use Rattle.tree_model.specs.Events.{Event, Nodes}
use Rattle.public_tree.specs.PublicTrees.{PublicView, Answers, IsSameTree, is_going}
use Rattle.public_tree.specs.Publishing.{bodies_view, body_sizes, MakesNodes, IsSameWith}
use Rattle.tree_nodes.proofs.SomeLemmas.{on_err}
use Rattle.public_tree.proofs.HandOutLemmas.{KeepsOthers}
use Rattle.public_tree.proofs.PublishingLemmas.{published_out, same_out}
use Rattle.public_tree.proofs.public.PublicTree.publish.Goals as goal

pub returns-in_err-make_nodes-clause-err : goal.returns-in_err-make_nodes-clause-err
returns-in_err-make_nodes-clause-err c =
    let old = c.args.self.now in
    let a = place_view c.args.at in
    let w = c.args.worker in
    let was = c.self.view_is in
    let same : IsSameWith old.nodes c.make_nodes.new.nodes w a
    = subst (λ (p : PublicView). IsSameWith p.nodes c.make_nodes.new.nodes w a) was c.in_err-make_nodes.ensures.err in
    let others : KeepsOthers old _ = record {
      lost = ap (λ (p : PublicView). p.lost) was;
      halted = ap (λ (p : PublicView). p.halted) was;
      budget = ap (λ (p : PublicView). p.budget) was;
      window = ap (λ (p : PublicView). p.window) was;
    } in
    on_err c.from_residual-in_err-make_nodes.result (IsSameTree old _)
    (same_out w old _ a c.requires.out same others (ap (λ (p : PublicView). p.log.stopped) was) (ap (λ (p : PublicView). p.log.events) was))

pub returns-clause-publishes : goal.returns-clause-publishes
returns-clause-publishes c =
    let old = c.args.self.now in
    let a = place_view c.args.at in
    let w = c.args.worker in
    let k = c.args.inferences in
    let bodies = bodies_view c.args.bodies.now in
    let was = c.self.view_is in
    let going : Answers old is_going true = subst (Answers old is_going) c.if-not-is_going.false c.is_going.ensures.going in
    let made : MakesNodes old.nodes c.make_nodes.new.nodes a k bodies
    = subst (λ (p : PublicView). MakesNodes p.nodes c.make_nodes.new.nodes a k bodies) was c.in_ok-make_nodes.ensures.made in
    let others : KeepsOthers old _ = record {
      lost = ap (λ (p : PublicView). p.lost) was;
      halted = ap (λ (p : PublicView). p.halted) was;
      budget = ap (λ (p : PublicView). p.budget) was;
      window = ap (λ (p : PublicView). p.window) was;
    } in
    let stopped : c.note_back.new.self.stopped ≡ old.log.stopped = c.note_back.ensures.stopped ∙ ap (λ (p : PublicView). p.log.stopped) was in
    let sizes : c.of.result ≡ body_sizes bodies = c.of.ensures ∙ c.in_ok-sizes.ensures in
    let events : c.note_back.new.self.events ≡ old.log.events ++ Nodes w a k (body_sizes bodies) ∷ []
    = c.note_back.ensures.events
    ∙ (ap (λ (es : List Event). es ++ Nodes w a k c.of.result ∷ []) (ap (λ (p : PublicView). p.log.events) was)
    ∙ ap (λ (x : List ℕ). old.log.events ++ Nodes w a k x ∷ []) sizes) in
    inl (λ read t h known. published_out w old _ a k bodies going c.requires.out c.requires.some made others stopped read t h known events)
