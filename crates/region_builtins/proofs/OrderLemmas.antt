-- Atoms for an order.
use Rattle.std.proofs.Common.{◌≡◌, ℕ, true, false, cond, List, [], ◌∷◌, Some, None, Err, sym, ap, ◌∙◌}
use Rattle.std.specs.Prelude.{codes}
use Rattle.au_term.specs.Term.{Term, AtomTerm}
use Rattle.au_model.specs.Terms.ErrorTerms.{domain_error}
use Rattle.au_model.specs.Terms.Forms.{same_name}
use Rattle.au_model.specs.Terms.Unifier.{Dropped, Clash, by_rule, unifier}
use Rattle.au_model.proofs.UnifierLemmas.{unifier_goes}
use Rattle.run_model.specs.Goals.BuiltinAnswers.{equal}
use Rattle.run_model.specs.Goals.StandardOrder.{order}
use Rattle.run_model.specs.Goals.TermTests.{compare_answer, is_order_symbol, order_symbol}
use Rattle.clause_compile.specs.AtomNumbers.{name_at}
use Rattle.binding_array.specs.declared.cell.BindingCell.{BindingCell}
use Rattle.binding_array.specs.declared.cell.BindingCell.TheVariants.{Atom}
use Rattle.cell_store.specs.StoreView.{StoreView, IsDereferenced, meaning, text_in}

pub same_atoms : (f g : List ℕ) → true ≡ same_name f g → unifier ((AtomTerm f, AtomTerm g) ∷ []) ≡ Some []
same_atoms f g e = unifier_goes.first (AtomTerm f) (AtomTerm g) [] ∙ (ap (λ b. by_rule (cond b Dropped Clash) [] unifier) (sym e) ∙ unifier_goes.none_left)

pub other_atoms : (f g : List ℕ) → false ≡ same_name f g → unifier ((AtomTerm f, AtomTerm g) ∷ []) ≡ None
other_atoms f g e = unifier_goes.first (AtomTerm f) (AtomTerm g) [] ∙ ap (λ b. by_rule (cond b Dropped Clash) [] unifier) (sym e)

pub symbol_ordered : (o : List ℕ) (a b : Term) → true ≡ is_order_symbol o → compare_answer (AtomTerm o) a b ≡ equal (AtomTerm o) (AtomTerm (order_symbol (order a b)))
symbol_ordered o a b e = ap (λ c. cond c (equal (AtomTerm o) (AtomTerm (order_symbol (order a b)))) (Err (domain_error (codes "order") (AtomTerm o)))) (sym e)

-- what a value stands for, by what it is dereferenced to
pub atom_seen : (st : StoreView) (value reached : BindingCell) (a : ℕ) → IsDereferenced st value reached → reached ≡ Atom a → meaning st value ≡ AtomTerm (name_at (text_in st).names a)
atom_seen st value reached a d is = sym d.same ∙ ap (meaning st) is
