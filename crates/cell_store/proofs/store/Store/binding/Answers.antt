use Rattle.std.proofs.Common.{◌≡◌, ◌∷◌, MatchOption, subst}
use Rattle.au_term.specs.Term.{VarTerm}
use Rattle.au_model.specs.Terms.Substitutions.{value_of}
use Rattle.cell_store.specs.MadeBindings.{IsBindingOf}
use Rattle.cell_store.specs.StoreView.{StoreView}
use Rattle.cell_store.proofs.OlderBindingLemmas.{binding_found}
use Rattle.cell_store.proofs.StoreLemmas.{parts}
use Rattle.cell_store.proofs.store.Store.binding.Goals as goal

pub returns : goal.returns
returns c =
    let s = c.self.inside in
    let p = parts s.heap s.cells s.trail.items (s.marks.floor ∷ s.marks.marks) in
    subst (λ (st : StoreView). MatchOption c.get.result (value_of st.now.bound c.args.variable ≡ VarTerm c.args.variable) (IsBindingOf st c.args.variable)) c.self.view_is
    (binding_found p c.self.invariant c.args.variable c.get.result c.get.ensures)
