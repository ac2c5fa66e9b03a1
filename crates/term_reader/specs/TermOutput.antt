-- The cells of what was read, each compound's after its arguments, and the variables.
use Rattle.std.specs.Prelude.{ℕ, zero, suc, pos, List, [], ◌∷◌, ◌++◌}
use Rattle.au_term.specs.declared.cell.Cell.{Cell}
use Rattle.au_term.specs.declared.cell.Cell.TheVariants.{Var as VarCell, Int as IntCell, Atom as AtomCell, Functor}
use Rattle.au_model.specs.Syntax.Trees.{Tree, VarTree, IntTree, AtomTree, CompoundTree, Trees, no_trees, more_trees, tree_count, list_name}
use Rattle.au_model.specs.Syntax.VariableNumbers.{Variables, no_variables, numbered_name}

pub record TermOutput : Type 0 where
  pub cells : List Cell
  pub variables : Variables

abbrev pub no_cells : TermOutput
no_cells = record { cells = []; variables = no_variables }

abbrev pub emit_cell : TermOutput → Cell → TermOutput
emit_cell s c = record { cells = s.cells ++ c ∷ []; variables = s.variables }

abbrev pub emit_variable : TermOutput → List ℕ → TermOutput
emit_variable s n = let r = numbered_name s.variables n in record { cells = s.cells ++ VarCell r.0 ∷ []; variables = r.1 }

-- a term after the others
abbrev mutual
  pub emit_tree : TermOutput → Tree → TermOutput
  emit_tree s (VarTree n) = emit_variable s n
  emit_tree s (IntTree z) = emit_cell s (IntCell z)
  emit_tree s (AtomTree n) = emit_cell s (AtomCell n)
  emit_tree s (CompoundTree n ts) = emit_cell (emit_trees s ts) (Functor n (tree_count ts))

  pub emit_trees : TermOutput → Trees → TermOutput
  emit_trees s no_trees = s
  emit_trees s (more_trees t ts) = emit_trees (emit_tree s t) ts

-- the cells of this many lists, each the tail of the next
abbrev pub emit_lists : ℕ → TermOutput → TermOutput
emit_lists zero s = s
emit_lists (suc n) s = emit_cell (emit_lists n s) (Functor list_name 2)

abbrev pub emit_codes : TermOutput → List ℕ → TermOutput
emit_codes s [] = s
emit_codes s (c ∷ cs) = emit_codes (emit_cell s (IntCell (pos c))) cs

abbrev pub emit_chars : TermOutput → List ℕ → TermOutput
emit_chars s [] = s
emit_chars s (c ∷ cs) = emit_chars (emit_cell s (AtomCell (c ∷ []))) cs
