-- Lists, and terms that end in a variable where a list ends in `[]` (ISO/IEC 13211-1, 6.3.5 and 3.128).
use Rattle.std.specs.Prelude.{if◌then◌else◌, List, [], ◌∷◌, codes}
use Rattle.au_term.specs.Term.{Term, VarTerm, IntTerm, AtomTerm, Compound, end, more}
use Rattle.au_model.specs.Terms.Forms.{same_name}

-- the items of a list or of a partial list; other terms have none
pub data ListForm : Type 0 where
  ProperList : List Term → ListForm
  PartialList : List Term → ListForm
  NoList : ListForm

abbrev pub item_before : Term → ListForm → ListForm
item_before t (ProperList ts) = ProperList (t ∷ ts)
item_before t (PartialList ts) = PartialList (t ∷ ts)
item_before t NoList = NoList

abbrev pub list_form : Term → ListForm
list_form (VarTerm n) = PartialList []
list_form (IntTerm z) = NoList
list_form (AtomTerm a) = if same_name a (codes "[]") then ProperList [] else NoList
list_form (Compound f (more t (more rest end))) = if same_name f (codes ".") then item_before t (list_form rest) else NoList
list_form (Compound f ts) = NoList
