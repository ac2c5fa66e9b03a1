use Rattle.std.proofs.Common.{◌≡◌, ◌≤◌, ◌∷◌, [], slice_set, sym, subst}
use Rattle.au_model.specs.Terms.Each.{Each}
use Rattle.binding_array.specs.Represented.{variable_cell}
use Rattle.binding_array.specs.declared.cell.BindingCell.TheVariants.{Free}
use Rattle.cell_store.specs.StoreView.{CanBeBound, BindsFurther, IsConsistent, meaning, view_of}
use Rattle.cell_store.specs.declared.mark.Mark.{Mark}
use Rattle.cell_store.specs.declared.store.Store.TheInside.{Inside}
use Rattle.cell_store.proofs.StoreLemmas.{parts, unbound_cell, trailed_parts, trailed_view, younger_parts, younger_view}
use Rattle.cell_store.proofs.store.Store.bind.Goals.{then-variable-protected+in_ok-push, else-variable-protected}
use Rattle.cell_store.proofs.store.Store.bind.Goals as goal

pub bind-requires-clause-free : goal.bind-requires-clause-free
bind-requires-clause-free c =
    let s = c.self.inside in
    let can = subst (λ st. CanBeBound st c.args.variable c.args.value) (sym c.self.view_is) c.requires in
    let free = unbound_cell s.heap s.cells s.trail.items (s.marks.floor ∷ s.marks.marks) c.args.variable c.args.value c.self.invariant can in
    elim c.if-variable-protected.branch [
      | then-variable-protected+in_ok-push w ↦ subst (λ (i : Inside). variable_cell i.cells c.args.variable ≡ Free) (sym w.self-inside-is) free
      | else-variable-protected w ↦ subst (λ (i : Inside). variable_cell i.cells c.args.variable ≡ Free) (sym w.self-inside-is) free
    ]

pub invariant_of-self-2 : goal.invariant_of-self-2
invariant_of-self-2 c =
    let s = c.self.inside in
    let i = c.if-variable-protected.self-inside in
    let v = c.args.variable in
    let d = c.args.value in
    let can = subst (λ st. CanBeBound st v d) (sym c.self.view_is) c.requires in
    let older : Each (λ (m : Mark). m.variables ≤ c.protected.result) (s.marks.floor ∷ s.marks.marks) = c.protected.ensures in
    subst (λ cs. IsConsistent (parts i.heap cs i.trail.items (i.marks.floor ∷ i.marks.marks))) (sym c.bind.ensures)
    (elim c.if-variable-protected.branch [
      | then-variable-protected+in_ok-push w ↦
          subst (λ (j : Inside). IsConsistent (parts j.heap (slice_set j.cells v d) j.trail.items (j.marks.floor ∷ j.marks.marks))) (sym w.self-inside-is)
          (subst (λ t. IsConsistent (parts s.heap (slice_set s.cells v d) t (s.marks.floor ∷ s.marks.marks))) (sym w.in_ok-push.ensures.items) (trailed_parts s.heap s.cells s.trail.items (s.marks.floor ∷ s.marks.marks) v d c.self.invariant can))
      | else-variable-protected w ↦
          subst (λ (j : Inside). IsConsistent (parts j.heap (slice_set j.cells v d) j.trail.items (j.marks.floor ∷ j.marks.marks))) (sym w.self-inside-is)
          (younger_parts s.heap s.cells s.trail.items (s.marks.floor ∷ s.marks.marks) v d c.self.invariant can c.protected.result w.if-variable-protected.false older)
    ])

pub returns-clause-ok : goal.returns-clause-ok
returns-clause-ok c =
    let s = c.self.inside in
    let i = c.if-variable-protected.self-inside in
    let v = c.args.variable in
    let d = c.args.value in
    let can = subst (λ st. CanBeBound st v d) (sym c.self.view_is) c.requires in
    let older : Each (λ (m : Mark). m.variables ≤ c.protected.result) (s.marks.floor ∷ s.marks.marks) = c.protected.ensures in
    let old = view_of (parts s.heap s.cells s.trail.items (s.marks.floor ∷ s.marks.marks)) in
    subst (λ st. BindsFurther st (view_of (parts i.heap c.bind.new.self i.trail.items (i.marks.floor ∷ i.marks.marks))) ((v, meaning st d) ∷ [])) c.self.view_is
    (subst (λ cs. BindsFurther old (view_of (parts i.heap cs i.trail.items (i.marks.floor ∷ i.marks.marks))) ((v, meaning old d) ∷ [])) (sym c.bind.ensures)
    (elim c.if-variable-protected.branch [
      | then-variable-protected+in_ok-push w ↦
          subst (λ (j : Inside). BindsFurther old (view_of (parts j.heap (slice_set j.cells v d) j.trail.items (j.marks.floor ∷ j.marks.marks))) ((v, meaning old d) ∷ [])) (sym w.self-inside-is)
          (subst (λ t. BindsFurther old (view_of (parts s.heap (slice_set s.cells v d) t (s.marks.floor ∷ s.marks.marks))) ((v, meaning old d) ∷ [])) (sym w.in_ok-push.ensures.items) (trailed_view s.heap s.cells s.trail.items (s.marks.floor ∷ s.marks.marks) v d c.self.invariant can))
      | else-variable-protected w ↦
          subst (λ (j : Inside). BindsFurther old (view_of (parts j.heap (slice_set j.cells v d) j.trail.items (j.marks.floor ∷ j.marks.marks))) ((v, meaning old d) ∷ [])) (sym w.self-inside-is)
          (younger_view s.heap s.cells s.trail.items (s.marks.floor ∷ s.marks.marks) v d c.self.invariant can c.protected.result w.if-variable-protected.false older)
    ]))
