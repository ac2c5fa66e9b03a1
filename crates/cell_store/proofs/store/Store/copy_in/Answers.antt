use Rattle.std.proofs.Common.{◌∷◌, ◌≤◌, ◌∙◌, length, sym, subst}
use Rattle.au_term.specs.Term.{var_bound}
use Rattle.au_term.proofs.ShiftLemmas.{shifted-zero}
use Rattle.cell_store.specs.StoreView.{StoreView, AddsText, view_of}
use Rattle.cell_store.proofs.StoreLemmas.{parts}
use Rattle.cell_store.proofs.AddedTextLemmas.{added_parts, added_view, sound_heap}
use Rattle.cell_store.proofs.store.Store.copy_in.Goals as goal

pub invariant_of-self : goal.invariant_of-self
invariant_of-self c =
    let s = c.self.inside in
    added_parts s.heap c.push_term.new.self s.cells s.trail.items (s.marks.floor ∷ s.marks.marks) c.self.invariant (sound_heap (parts s.heap s.cells s.trail.items (s.marks.floor ∷ s.marks.marks)) c.self.invariant) c.push_term.ensures.grown

pub returns-in_err-place-clause-others : goal.returns-in_err-place-clause-others
returns-in_err-place-clause-others c =
    let s = c.self.inside in
    subst (λ st. AddsText st (view_of (parts c.push_term.new.self s.cells s.trail.items (s.marks.floor ∷ s.marks.marks)))) c.self.view_is
    (added_view s.heap c.push_term.new.self s.cells s.trail.items (s.marks.floor ∷ s.marks.marks) c.self.invariant (sound_heap (parts s.heap s.cells s.trail.items (s.marks.floor ∷ s.marks.marks)) c.self.invariant) c.push_term.ensures.grown)

pub invariant_of-self-2 : goal.invariant_of-self-2
invariant_of-self-2 c =
    let s = c.self.inside in
    added_parts s.heap c.push_term.new.self s.cells s.trail.items (s.marks.floor ∷ s.marks.marks) c.self.invariant (sound_heap (parts s.heap s.cells s.trail.items (s.marks.floor ∷ s.marks.marks)) c.self.invariant) c.push_term.ensures.grown

pub value-requires-clause-below : goal.value-requires-clause-below
value-requires-clause-below c =
    let s = c.self.inside in
    let below : var_bound c.args.term.now ≤ length s.cells = subst (λ (st : StoreView). var_bound c.args.term.now ≤ st.now.next) (sym c.self.view_is) c.requires in
    subst (λ t. var_bound t ≤ length s.cells) (sym (shifted-zero _ ∙ c.in_ok-place.ensures.placed.means)) below

pub returns-clause-term : goal.returns-clause-term
returns-clause-term c = c.value.ensures.term ∙ (shifted-zero _ ∙ c.in_ok-place.ensures.placed.means)

pub returns-clause-others : goal.returns-clause-others
returns-clause-others c =
    let s = c.self.inside in
    subst (λ st. AddsText st (view_of (parts c.push_term.new.self s.cells s.trail.items (s.marks.floor ∷ s.marks.marks)))) c.self.view_is
    (added_view s.heap c.push_term.new.self s.cells s.trail.items (s.marks.floor ∷ s.marks.marks) c.self.invariant (sound_heap (parts s.heap s.cells s.trail.items (s.marks.floor ∷ s.marks.marks)) c.self.invariant) c.push_term.ensures.grown)
