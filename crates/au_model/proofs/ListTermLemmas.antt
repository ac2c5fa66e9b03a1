-- Compounds built argument by argument.
use Rattle.std.proofs.Common.{◌≡◌, ℕ, suc, ◌<◌, ◌≤◌, List, [], ◌∷◌, ◌++◌, length, drop, refl, sym, ap, ◌∙◌, subst, append_assoc, append-nil}
use Rattle.std.proofs.lemmas.List.{drop_all}
use Rattle.au_term.specs.Term.{Term, VarTerm, IntTerm, AtomTerm, Compound, count}
use Rattle.au_term.specs.PrefixOrder.{cells_of, all_cells, term_of, term_of-cells_of, DueAfter, AreDue, due_after}
use Rattle.au_term.specs.declared.cell.Cell.{Cell}
use Rattle.au_term.specs.declared.cell.Cell.TheVariants.{Var as VarCell, Int as IntCell, Atom as AtomCell, Functor}
use Rattle.au_term.proofs.WholeTermLemmas.{DueAfter-term, DueAfter-due, cells_are_due, due_after-is}
use Rattle.au_model.specs.Terms.Lists.{terms_from}

pub count-terms_from : (ts : List Term) → count (terms_from ts) ≡ length ts
count-terms_from [] = refl
count-terms_from (t ∷ ts) = ap suc (count-terms_from ts)

due_here : (built : List Cell) (t : Term) (rest : List Cell) → DueAfter 1 (built ++ (cells_of t ++ rest)) 0 → 0 < due_after 1 built
due_here built (VarTerm n) rest h = DueAfter-due 1 0 built rest (VarCell n) h
due_here built (IntTerm n) rest h = DueAfter-due 1 0 built rest (IntCell n) h
due_here built (AtomTerm n) rest h = DueAfter-due 1 0 built rest (AtomCell n) h
due_here built (Compound f ts) rest h = DueAfter-due 1 0 built (all_cells ts ++ rest) (Functor f (count ts)) h

-- what is built and the cells to come are the whole term's
pub due_next : (whole a : Term) (built rest : List Cell) → built ++ (cells_of a ++ rest) ≡ cells_of whole → AreDue (due_after 1 built) (cells_of a)
due_next whole a built rest e = cells_are_due a (due_after 1 built) (due_here built a rest (subst (λ cs. DueAfter 1 cs 0) (sym e) (DueAfter-term whole)))

pub built_more : (built now a rest all : List Cell) → built ++ (a ++ rest) ≡ all → now ≡ built ++ a → now ++ rest ≡ all
built_more built now a rest all e n = ap (λ cs. cs ++ rest) n ∙ (append_assoc built a rest ∙ e)

pub all_built : (i : ℕ) (ts : List Term) (built all : List Cell) → length ts ≤ i → built ++ all_cells (terms_from (drop i ts)) ≡ all → built ++ [] ≡ all
all_built i ts built all le e = ap (λ us. built ++ all_cells (terms_from us)) (sym (drop_all i ts le)) ∙ e

pub none_due : (whole : Term) (built : List Cell) → built ++ [] ≡ cells_of whole → due_after 1 built ≡ 0
none_due whole built e = ap (due_after 1) (sym (append-nil built) ∙ e) ∙ due_after-is 1 (cells_of whole) 0 (DueAfter-term whole)

pub is_whole : (t whole : Term) (built : List Cell) → cells_of t ≡ built → built ++ [] ≡ cells_of whole → t ≡ whole
is_whole t whole built c e = sym (term_of-cells_of t) ∙ (ap term_of (c ∙ (sym (append-nil built) ∙ e)) ∙ term_of-cells_of whole)
