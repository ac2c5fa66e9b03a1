-- Lists built item by item.
use Rattle.std.proofs.Common.{◌≡◌, ◌<◌, List, [], ◌∷◌, ◌++◌, sym, ap, ◌∙◌, subst, append_assoc, append-nil}
use Rattle.std.specs.Prelude.{codes}
use Rattle.au_term.specs.Term.{Term, AtomTerm}
use Rattle.au_term.specs.PrefixOrder.{cells_of, DueAfter, AreDue, due_after}
use Rattle.au_term.specs.declared.cell.Cell.{Cell}
use Rattle.au_term.specs.declared.cell.Cell.TheVariants.{Functor}
use Rattle.au_term.proofs.WholeTermLemmas.{DueAfter-term, DueAfter-due}
use Rattle.au_model.specs.Terms.Forms.{list_term}
use Rattle.au_model.proofs.ListTermLemmas.{due_next, none_due, is_whole}

pub list_due : (whole t : Term) (ts : List Term) (built : List Cell) → built ++ cells_of (list_term (t ∷ ts)) ≡ cells_of whole → 0 < due_after 1 built
list_due whole t ts built e = DueAfter-due 1 0 built (cells_of t ++ (cells_of (list_term ts) ++ [])) (Functor (codes ".") 2) (subst (λ cs. DueAfter 1 cs 0) (sym e) (DueAfter-term whole))

pub list_opened : (whole t : Term) (ts : List Term) (built now : List Cell) → built ++ cells_of (list_term (t ∷ ts)) ≡ cells_of whole → now ≡ built ++ Functor (codes ".") 2 ∷ []
    → now ++ (cells_of t ++ (cells_of (list_term ts) ++ [])) ≡ cells_of whole
list_opened whole t ts built now e n = ap (λ cs. cs ++ (cells_of t ++ (cells_of (list_term ts) ++ []))) n ∙ (append_assoc built (Functor (codes ".") 2 ∷ []) (cells_of t ++ (cells_of (list_term ts) ++ [])) ∙ e)

pub list_item_due : (whole t : Term) (ts : List Term) (built now : List Cell) → built ++ cells_of (list_term (t ∷ ts)) ≡ cells_of whole → now ≡ built ++ Functor (codes ".") 2 ∷ [] → AreDue (due_after 1 now) (cells_of t)
list_item_due whole t ts built now e n = due_next whole t now (cells_of (list_term ts) ++ []) (list_opened whole t ts built now e n)

pub list_further : (whole t : Term) (ts : List Term) (built now more : List Cell) → built ++ cells_of (list_term (t ∷ ts)) ≡ cells_of whole → now ≡ built ++ Functor (codes ".") 2 ∷ [] → more ≡ now ++ cells_of t
    → more ++ cells_of (list_term ts) ≡ cells_of whole
list_further whole t ts built now more e n m =
    ap (λ cs. cs ++ cells_of (list_term ts)) m
    ∙ (append_assoc now (cells_of t) (cells_of (list_term ts))
    ∙ (ap (λ cs. now ++ (cells_of t ++ cs)) (sym (append-nil (cells_of (list_term ts)))) ∙ list_opened whole t ts built now e n))

pub nil_due : (whole nil : Term) (built : List Cell) → built ++ cells_of (list_term []) ≡ cells_of whole → nil ≡ AtomTerm (codes "[]") → AreDue (due_after 1 built) (cells_of nil)
nil_due whole nil built e n = due_next whole nil built [] (ap (λ t. built ++ (cells_of t ++ [])) n ∙ e)

all_built : (whole nil : Term) (built now : List Cell) → built ++ cells_of (list_term []) ≡ cells_of whole → nil ≡ AtomTerm (codes "[]") → now ≡ built ++ cells_of nil → now ++ [] ≡ cells_of whole
all_built whole nil built now e n m = append-nil now ∙ (m ∙ (ap (λ t. built ++ cells_of t) n ∙ e))

pub list_whole : (whole nil : Term) (built now : List Cell) → built ++ cells_of (list_term []) ≡ cells_of whole → nil ≡ AtomTerm (codes "[]") → now ≡ built ++ cells_of nil → due_after 1 now ≡ 0
list_whole whole nil built now e n m = none_due whole now (all_built whole nil built now e n m)

pub list_built : (t whole nil : Term) (built now : List Cell) → built ++ cells_of (list_term []) ≡ cells_of whole → nil ≡ AtomTerm (codes "[]") → now ≡ built ++ cells_of nil → cells_of t ≡ now → t ≡ whole
list_built t whole nil built now e n m c = is_whole t whole now c (all_built whole nil built now e n m)
