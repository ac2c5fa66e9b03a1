use Rattle.std.proofs.Common.{◌≤◌, ◌∷◌, subst, arith}
use Rattle.au_model.specs.Terms.Each.{Each}
use Rattle.au_model.proofs.EachLemmas.{each-more}
use Rattle.cell_store.specs.StoreView.{StoreView}
use Rattle.cell_store.specs.declared.mark.Mark.{Mark}
use Rattle.cell_store.proofs.StoreLemmas.{parts, moments_below}
use Rattle.cell_store.proofs.store.Store.if_young.Goals as goal

pub returns-then-protected-base-clause-young : goal.returns-then-protected-base-clause-young
returns-then-protected-base-clause-young c =
    let s = c.self.inside in
    let p = parts s.heap s.cells s.trail.items (s.marks.floor ∷ s.marks.marks) in
    let base = c.args.base in
    let all : Each (λ (m : Mark). m.variables ≤ c.protected.result) (s.marks.floor ∷ s.marks.marks) = c.protected.ensures in
    let below = each-more (λ (m : Mark). m.variables ≤ c.protected.result) (λ m. m.variables ≤ base) (λ m l. omega (arith, l, c.if-protected-base.true)) (s.marks.floor ∷ s.marks.marks) all in
    subst (λ (st : StoreView). Each (λ m. m.next ≤ base) (st.floor ∷ st.marks)) c.self.view_is (moments_below p base (s.marks.floor ∷ s.marks.marks) c.self.invariant.within below)
