use Rattle.std.proofs.Common.{subst}
use Rattle.tree_model.specs.LegalTrees.{IsLegalTree}
use Rattle.tree_core.specs.Histories.{TreeView, state_of}
use Rattle.tree_core.proofs.tree.Tree.stays_legal.Goals as goal

pub returns : goal.returns
returns g c =
    let p = c.self.inside.public in
    subst (λ (v : TreeView). IsLegalTree (state_of v.history)) c.self.view_is
    (c.events_keep_trees.ensures.history g.J.JobBrand.job p.budget p.window p.log.events c.self.invariant.countable c.self.invariant.follows.legal)
