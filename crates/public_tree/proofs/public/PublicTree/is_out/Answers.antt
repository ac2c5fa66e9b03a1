use Rattle.std.proofs.Common.{◌∙◌, subst}
use Rattle.std.specs.Prelude.{is_some}
use Rattle.tree_model.specs.EventViews.{place_view}
use Rattle.tree_model.specs.TreeStates.{TreeState}
use Rattle.tree_model.specs.Legality.{taken_at}
use Rattle.public_tree.specs.PublicTrees.{PublicView, Answers}
use Rattle.public_tree.proofs.FoundLemmas.{out_is}
use Rattle.public_tree.proofs.public.PublicTree.is_out.Goals as goal

pub returns-clause-out : goal.returns-clause-out
returns-clause-out c =
    let a = place_view c.args.at in
    let w = c.args.worker in
    subst (λ (p : PublicView). Answers p (λ (t : TreeState). is_some (taken_at w a t)) c.has_taken.result) c.self.view_is
    (λ read t h. c.has_taken.ensures ∙ out_is c.self.inside.nodes w a read t.root h.placed)
