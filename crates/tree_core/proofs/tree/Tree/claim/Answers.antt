use Rattle.std.proofs.Common.{◌≡◌, IfOk, refl, subst}
use Rattle.tree_model.specs.Events.{Claim}
use Rattle.tree_model.specs.HandOuts.{Never}
use Rattle.tree_model.specs.Legality.{claimable}
use Rattle.tree_nodes.specs.RowViews.{parent_view}
use Rattle.tree_core.specs.Histories.{TreeView, state_of}
use Rattle.tree_core.specs.HandOuts.{offered_at, WasHanded}
use Rattle.tree_core.proofs.HandedLemmas.{handed_by_any, places_offered, before_handed, claimed_once}
use Rattle.tree_core.proofs.OutLemmas.{claim_holds, out_then}
use Rattle.tree_core.proofs.tree.Tree.claim.Goals as goal

pub invariant_of-self : goal.invariant_of-self
invariant_of-self g c =
    let k = c.claim.ensures in
    handed_by_any g.J.JobBrand.job (λ a. Claim c.args.worker a) claimable c.self.inside.public c.claim.new.self c.self.invariant (λ a places. refl) c.claim.result
    k.out k.promised k.err k.kept

pub returns-clause-offered : goal.returns-clause-offered
returns-clause-offered g c =
    subst (λ (v : TreeView). IfOk c.claim.result (λ at. parent_view at ≡ offered_at claimable (state_of v.history))) c.self.view_is
    (places_offered g.J.JobBrand.job (λ a. Claim c.args.worker a) claimable c.self.inside.public c.claim.new.self c.self.invariant (λ a. refl) c.claim.result
    c.claim.ensures.out)

pub returns-clause-once : goal.returns-clause-once
returns-clause-once g c =
    subst (λ (v : TreeView). IfOk c.claim.result (λ at. WasHanded Never (parent_view at) v.history)) c.self.view_is
    (before_handed g.J.JobBrand.job (λ a. Claim c.args.worker a) claimable c.self.inside.public c.claim.new.self c.self.invariant c.promises_are_kept.ensures.once
    Never (λ a x. claimed_once c.args.worker a x) c.claim.result c.claim.ensures.out)

pub returns-clause-out : goal.returns-clause-out
returns-clause-out g c =
    out_then g.J.JobBrand.job c.args.worker (λ a. Claim c.args.worker a) claimable c.self.inside.public c.claim.new.self c.self.invariant (λ a. refl)
    (claim_holds c.args.worker) c.claim.result c.claim.ensures.out
