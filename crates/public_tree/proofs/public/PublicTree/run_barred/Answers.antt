use Rattle.std.proofs.Common.{◌≡◌, ℕ, ◌+◌, ◌<◌, ◌≤◌, Bool, true, Some, None, ap, subst, arith}
use Rattle.tree_model.specs.EventViews.{place_view}
use Rattle.public_tree.specs.PublicTrees.{PublicView, Answers, IsLeftmostAt, is_going}
use Rattle.branch_order.specs.Clocks.{HasClock}
use Rattle.public_tree.proofs.RunBarredLemmas.{run_free, run_over}
use Rattle.public_tree.proofs.public.PublicTree.run_barred.Goals as goal

pub returns-then-left-inferences-clause-barred : goal.returns-then-left-inferences-clause-barred
returns-then-left-inferences-clause-barred c =
    let p = c.args.self.now in
    let a = place_view c.args.at in
    let k = c.args.inferences in
    let n = c.clock.result in
    let was = c.self.view_is in
    let going : Answers p is_going true = subst (Answers p is_going) c.if-not-is_going.false c.is_going.ensures.going in
    let first : IsLeftmostAt p.nodes a true
    = subst (λ (x : PublicView). IsLeftmostAt x.nodes a true) was (subst (IsLeftmostAt c.self.inside.nodes a) c.if-not-has_turn.false c.has_turn.ensures.first) in
    let told : HasClock p.nodes a n = subst (λ (x : PublicView). HasClock x.nodes a n) was c.clock.ensures in
    let budget : c.self.inside.budget ≡ p.budget = ap (λ (x : PublicView). x.budget) was in
    let rest = c.saturating_sub-left.ensures in
    let less = c.if-left-inferences.true in
    ((λ e. cc e), λ read t h. run_over p a k n going first told read t h (omega (arith, budget, rest, less)))

pub returns-clause-barred : goal.returns-clause-barred
returns-clause-barred c =
    let p = c.args.self.now in
    let a = place_view c.args.at in
    let k = c.args.inferences in
    let n = c.clock.result in
    let was = c.self.view_is in
    let going : Answers p is_going true = subst (Answers p is_going) c.if-not-is_going.false c.is_going.ensures.going in
    let first : IsLeftmostAt p.nodes a true
    = subst (λ (x : PublicView). IsLeftmostAt x.nodes a true) was (subst (IsLeftmostAt c.self.inside.nodes a) c.if-not-has_turn.false c.has_turn.ensures.first) in
    let told : HasClock p.nodes a n = subst (λ (x : PublicView). HasClock x.nodes a n) was c.clock.ensures in
    let budget : c.self.inside.budget ≡ p.budget = ap (λ (x : PublicView). x.budget) was in
    let rest = c.saturating_sub-left.ensures in
    let more = c.if-left-inferences.false in
    λ read t h. run_free p a k n going first told read t h (omega (arith, budget, rest, more))
