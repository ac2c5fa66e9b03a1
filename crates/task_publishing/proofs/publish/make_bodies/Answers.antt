use Rattle.std.proofs.Common.{◌≡◌, ℕ, List, reverse, sym, subst}
use Rattle.clause_compile.specs.declared.item.Item.{Item}
use Rattle.public_tree.specs.Publishing.{bodies_view}
use Rattle.region_capture.specs.declared.captured.CapturedChoice.{CapturedChoice}
use Rattle.task_publishing.specs.KeptScopes.{AreScopesOf, all_scopes, scope_at}
use Rattle.task_publishing.specs.BranchGoals.{AreTailsOf, AreGoalsOf}
use Rattle.task_publishing.specs.MadeBodies.{MakeBodies}
use Rattle.task_publishing.proofs.FinalLemmas.{run_means}
use Rattle.task_publishing.proofs.publish.make_bodies.Goals as goal

pub returns : goal.returns
returns c p start current choices s d t =
    let captured = c.args.captured in
    let deferred = c.args.goals.now in
    let oldest = c.reverse.new.self.items in
    let scopes = all_scopes c.args.branch.now c.in_ok-own.own.items in
    let lists = c.in_ok-lists.lists.items in
    let turned : oldest ≡ reverse captured.choices.items = c.reverse.ensures.items in
    let kept : AreScopesOf c.args.branch.now oldest c.args.next scopes
    = subst (λ (xs : List CapturedChoice). AreScopesOf c.args.branch.now xs c.args.next scopes) c.deref.ensures.value c.in_ok-own.ensures in
    let tails : AreTailsOf deferred c.deref-3.result.now
    = subst (λ (xs : List (List Item)). AreTailsOf deferred xs) (sym c.deref-3.ensures.value) c.in_ok-tails.ensures in
    let goals : AreGoalsOf captured.items (scope_at scopes) deferred lists
    = subst (λ (xs : List ℕ). AreGoalsOf captured.items (scope_at (all_scopes c.args.branch.now xs)) deferred lists) c.deref-2.ensures.value
    (c.in_ok-lists.ensures.goals deferred tails) in
    let made : MakeBodies lists c.in_ok-live.live captured.current (bodies_view c.in_ok-bodies.bodies.items)
    = subst (λ (xs : List (List Item)). MakeBodies xs c.in_ok-live.live captured.current (bodies_view c.in_ok-bodies.bodies.items))
    c.deref-4.ensures.value c.in_ok-bodies.ensures in
    run_means p deferred c.args.base c.args.next c.args.branch.now captured start current choices oldest scopes lists c.in_ok-live.live
    (bodies_view c.in_ok-bodies.bodies.items)
    turned s d t kept c.in_ok-lists.ensures.all goals c.in_ok-live.ensures made
