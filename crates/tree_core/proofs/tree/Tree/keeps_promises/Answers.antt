use Rattle.std.proofs.Common.{◌≤◌, subst}
use Rattle.tree_model.specs.Credits.{greatest}
use Rattle.tree_core.specs.Histories.{TreeView, NodesStand}
use Rattle.tree_core.specs.KeptPromises.{KeepsPromises}
use Rattle.tree_core.proofs.PromiseLemmas.{kept_promises}
use Rattle.tree_core.proofs.tree.Tree.keeps_promises.Goals as goal

pub returns-clause-promises : goal.returns-clause-promises
returns-clause-promises g c =
    let k = c.promises_are_kept.ensures in
    subst (λ (v : TreeView). KeepsPromises v.history) c.self.view_is
    (kept_promises g.J.JobBrand.job c.self.inside.public c.self.invariant k.once k.going k.prefix k.end)

pub returns-clause-nodes : goal.returns-clause-nodes
returns-clause-nodes g c =
    subst NodesStand c.self.view_is
    (record { placed = c.self.invariant.follows.stands.placed; next = c.self.invariant.follows.stands.next })

pub returns-clause-countable : goal.returns-clause-countable
returns-clause-countable g c = subst (λ (v : TreeView). v.history.budget ≤ greatest) c.self.view_is c.self.invariant.countable
