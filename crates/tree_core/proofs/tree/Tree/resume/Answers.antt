use Rattle.std.proofs.Common.{◌≡◌, IfOk, refl, subst}
use Rattle.tree_model.specs.Events.{Resume}
use Rattle.tree_model.specs.HandOuts.{Away}
use Rattle.tree_model.specs.Legality.{resumable}
use Rattle.tree_nodes.specs.RowViews.{parent_view}
use Rattle.tree_core.specs.Histories.{TreeView, state_of}
use Rattle.tree_core.specs.HandOuts.{offered_at, WasHanded}
use Rattle.tree_core.proofs.HandedLemmas.{handed_by_any, places_offered, before_handed, resumed_once}
use Rattle.tree_core.proofs.OutLemmas.{resume_holds, out_then}
use Rattle.tree_core.proofs.tree.Tree.resume.Goals as goal

pub invariant_of-self : goal.invariant_of-self
invariant_of-self g c =
    let k = c.resume.ensures in
    handed_by_any g.J.JobBrand.job (λ a. Resume c.args.worker a) resumable c.self.inside.public c.resume.new.self c.self.invariant (λ a places. refl) c.resume.result
    k.out k.promised k.err k.kept

pub returns-clause-offered : goal.returns-clause-offered
returns-clause-offered g c =
    subst (λ (v : TreeView). IfOk c.resume.result (λ at. parent_view at ≡ offered_at resumable (state_of v.history))) c.self.view_is
    (places_offered g.J.JobBrand.job (λ a. Resume c.args.worker a) resumable c.self.inside.public c.resume.new.self c.self.invariant (λ a. refl) c.resume.result
    c.resume.ensures.out)

pub returns-clause-once : goal.returns-clause-once
returns-clause-once g c =
    subst (λ (v : TreeView). IfOk c.resume.result (λ at. WasHanded Away (parent_view at) v.history)) c.self.view_is
    (before_handed g.J.JobBrand.job (λ a. Resume c.args.worker a) resumable c.self.inside.public c.resume.new.self c.self.invariant c.promises_are_kept.ensures.once
    Away (λ a x. resumed_once c.args.worker a x) c.resume.result c.resume.ensures.out)

pub returns-clause-out : goal.returns-clause-out
returns-clause-out g c =
    out_then g.J.JobBrand.job c.args.worker (λ a. Resume c.args.worker a) resumable c.self.inside.public c.resume.new.self c.self.invariant (λ a. refl)
    (resume_holds c.args.worker) c.resume.result c.resume.ensures.out
