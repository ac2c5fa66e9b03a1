-- What a term is as a list, read from its front.
use Rattle.std.specs.Prelude.{◌≡◌, Bool, false, ◌&&◌, ◌==◌, if◌then◌else◌, List, [], ◌∷◌, codes}
use Rattle.au_term.specs.Term.{Term}
use Rattle.au_term.specs.declared.cell.Cell.{Cell}
use Rattle.au_term.specs.declared.cell.Cell.TheVariants.{Var as VarCell, Int as IntCell, Atom as AtomCell, Functor}
use Rattle.au_model.specs.Terms.Forms.{same_name}
use Rattle.au_model.specs.Terms.ListForms.{ListForm, ProperList, PartialList, NoList, item_before}
use Rattle.au_model.specs.declared.lists.ListForm.{ListForm as FormCode}
use Rattle.au_model.specs.declared.lists.ListForm.TheVariants as form

abbrev pub IsForm : ListForm → FormCode → Type 0
IsForm f (form.Proper items) = f ≡ ProperList items.items
IsForm f (form.Partial items) = f ≡ PartialList items.items
IsForm f form.NoList = f ≡ NoList

-- the first cell of an item with the rest of its list
abbrev pub opens_pair : Cell → Bool
opens_pair (VarCell n) = false
opens_pair (IntCell z) = false
opens_pair (AtomCell a) = false
opens_pair (Functor f n) = (n == 2) && same_name f (codes ".")

-- items before a term with another first cell
abbrev pub ends_list : Cell → List Term → ListForm
ends_list (VarCell n) ts = PartialList ts
ends_list (IntCell z) ts = NoList
ends_list (AtomCell a) ts = if same_name a (codes "[]") then ProperList ts else NoList
ends_list (Functor f n) ts = NoList

abbrev pub items_before : List Term → ListForm → ListForm
items_before [] f = f
items_before (t ∷ ts) f = item_before t (items_before ts f)
