use Rattle.std.proofs.Common.{◌≡◌, subst}
use Rattle.tree_model.specs.Events.{Stop}
use Rattle.tree_core.specs.Histories.{TreeView, while_going, history_of}
use Rattle.tree_core.proofs.MoveLemmas.{stopped}
use Rattle.tree_core.proofs.tree.Tree.stop.Goals as goal

pub invariant_of-self : goal.invariant_of-self
invariant_of-self g c = (stopped g.J.JobBrand.job c.self.inside.public c.stop.new.self c.self.invariant c.args.worker c.stop.ensures.stops c.stop.ensures.promised).kept

pub returns-clause-stops : goal.returns-clause-stops
returns-clause-stops g c =
    let job = g.J.JobBrand.job in
    subst (λ (v : TreeView). history_of job c.stop.new.self ≡ while_going (Stop c.args.worker) v.history) c.self.view_is
    (stopped job c.self.inside.public c.stop.new.self c.self.invariant c.args.worker c.stop.ensures.stops c.stop.ensures.promised).history
