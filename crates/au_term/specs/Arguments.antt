-- Lists of terms, as they are stored.
use Rattle.std.specs.Prelude.{◌≡◌, List, []}
use Rattle.std.proofs.Common.{sym, ap, ◌∙◌, append-nil, refl}
use Rattle.std.specs.Coded.{Coded, code_by, coded_list}
use Rattle.au_term.specs.Term.{Terms, end, more}
use Rattle.au_term.specs.PrefixOrder.{all_cells, terms_of, terms_of-all_cells, append_terms, cell_code}
use Rattle.au_term.specs.declared.cell.Cell.{Cell}

append_end : (ts : Terms) → append_terms ts end ≡ ts
append_end end = refl
append_end (more t ts) = ap (more t) (append_end ts)

-- the cells of terms stand for these
pub terms_of-cells : (ts : Terms) → terms_of (all_cells ts) ≡ ts
terms_of-cells ts = ap terms_of (sym (append-nil (all_cells ts))) ∙ (terms_of-all_cells ts [] ∙ append_end ts)

-- terms are stored as their cells, one after another
abbrev pub terms_code : Coded Terms
terms_code = code_by (List Cell) (coded_list cell_code) all_cells terms_of terms_of-cells
