use Rattle.std.proofs.Common.{ℕ, Option, sym, ap, ◌∙◌, subst}
use Rattle.tree_model.specs.EventViews.{place_view}
use Rattle.tree_nodes.specs.Puts.{inner_at}
use Rattle.tree_nodes.specs.Folds.{IsDeeper}
use Rattle.tree_nodes.proofs.WalkLemmas.{below_there}
use Rattle.tree_nodes.proofs.nodes.Nodes.below.Goals as goal

pub returns-clause-deeper : goal.returns-clause-deeper
returns-clause-deeper c =
    subst (λ (o : Option ℕ). IsDeeper c.args.self.now.rows c.args.at.node o) (sym (c.inner.ensures ∙ sym (ap inner_at c.alternative.ensures)))
    (below_there c.args.self.now (place_view c.args.at) c.live-live.ensures.sound c.requires)
