use Rattle.std.proofs.Common.{Some, None, subst}
use Rattle.run_model.specs.declared.ending.RunEnding.TheVariants.{Budget}
use Rattle.tree_model.specs.EventViews.{place_view}
use Rattle.tree_model.specs.TreeStates.{ended}
use Rattle.public_tree.specs.contracts.public.PublicTree.{the_view}
use Rattle.public_tree.specs.PublicTrees.{PublicView, Answers}
use Rattle.public_tree.proofs.HandOutLemmas.{ended_by_budget, not_ended}
use Rattle.public_tree.proofs.public.PublicTree.ended.Goals as goal

pub clock-requires : goal.clock-requires
clock-requires c = c.in-Some-leftmost.ensures.there

pub returns-then-self-clock : goal.returns-then-self-clock
returns-then-self-clock c =
    let a = place_view c.in-Some-leftmost.first in
    subst (λ (p : PublicView). Answers p ended (Some Budget)) c.self.view_is
    (λ read t h. ended_by_budget (the_view c.self.inside) a c.clock.result read t h c.in_default.is c.in-Some-leftmost.ensures.first c.clock.ensures
    c.if-self-clock.true)

pub returns-else-self-clock : goal.returns-else-self-clock
returns-else-self-clock c =
    let a = place_view c.in-Some-leftmost.first in
    subst (λ (p : PublicView). Answers p ended None) c.self.view_is
    (λ read t h. not_ended (the_view c.self.inside) a c.clock.result read t h c.in_default.is c.in-Some-leftmost.ensures.first c.clock.ensures
    c.if-self-clock.false)
