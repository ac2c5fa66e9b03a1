use Rattle.std.proofs.Common.{◌≤◌, ◌∷◌, [], sym, subst, arith}
use Rattle.au_model.specs.Terms.Each.{Each}
use Rattle.cell_store.specs.StoreView.{StoreView, CanBeBound, BindsFurther, IsConsistent, meaning, view_of}
use Rattle.cell_store.proofs.StoreLemmas.{parts, unbound_cell, marks_below, younger_parts, younger_view}
use Rattle.cell_store.proofs.store.Store.bind_young.Goals as goal

pub bind-requires-clause-free : goal.bind-requires-clause-free
bind-requires-clause-free c =
    let s = c.self.inside in
    let can = subst (λ st. CanBeBound st c.args.variable c.args.value) (sym c.self.view_is) c.requires.can in
    unbound_cell s.heap s.cells s.trail.items (s.marks.floor ∷ s.marks.marks) c.args.variable c.args.value c.self.invariant can

pub invariant_of-self : goal.invariant_of-self
invariant_of-self c =
    let s = c.self.inside in
    let v = c.args.variable in
    let p = parts s.heap s.cells s.trail.items (s.marks.floor ∷ s.marks.marks) in
    let can = subst (λ st. CanBeBound st v c.args.value) (sym c.self.view_is) c.requires.can in
    let young = subst (λ (st : StoreView). Each (λ m. m.next ≤ v) (st.floor ∷ st.marks)) (sym c.self.view_is) c.requires.young in
    subst (λ cs. IsConsistent (parts s.heap cs s.trail.items (s.marks.floor ∷ s.marks.marks))) (sym c.bind.ensures) (younger_parts s.heap s.cells s.trail.items (s.marks.floor ∷ s.marks.marks) v c.args.value c.self.invariant can v (omega arith) (marks_below p v (s.marks.floor ∷ s.marks.marks) c.self.invariant.within young))

pub returns : goal.returns
returns c =
    let s = c.self.inside in
    let v = c.args.variable in
    let d = c.args.value in
    let p = parts s.heap s.cells s.trail.items (s.marks.floor ∷ s.marks.marks) in
    let old = view_of p in
    let can = subst (λ st. CanBeBound st v d) (sym c.self.view_is) c.requires.can in
    let young = subst (λ (st : StoreView). Each (λ m. m.next ≤ v) (st.floor ∷ st.marks)) (sym c.self.view_is) c.requires.young in
    subst (λ st. BindsFurther st (view_of (parts s.heap c.bind.new.self s.trail.items (s.marks.floor ∷ s.marks.marks))) ((v, meaning st d) ∷ [])) c.self.view_is
    (subst (λ cs. BindsFurther old (view_of (parts s.heap cs s.trail.items (s.marks.floor ∷ s.marks.marks))) ((v, meaning old d) ∷ [])) (sym c.bind.ensures)
    (younger_view s.heap s.cells s.trail.items (s.marks.floor ∷ s.marks.marks) v d c.self.invariant can v (omega arith) (marks_below p v (s.marks.floor ∷ s.marks.marks) c.self.invariant.within young)))
