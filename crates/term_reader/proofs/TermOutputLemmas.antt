-- What a sheet's cells come to.
use Rattle.std.proofs.Common.{◌≡◌, ◌∙◌, ℕ, suc, pos, List, [], ◌∷◌, ◌++◌, map, length, refl, sym, ap, append_assoc, append-nil}
use Rattle.au_term.specs.Term.{Term, VarTerm, IntTerm, AtomTerm, Compound, Terms, end, more, count}
use Rattle.au_term.specs.PrefixOrder.{cells_of, all_cells, AreValidCells, IsTerm}
use Rattle.au_term.proofs.WholeTermLemmas.{DueAfter-term}
use Rattle.au_term.specs.declared.cell.Cell.{Cell}
use Rattle.au_term.specs.declared.cell.Cell.TheVariants.{Int as IntCell, Atom as AtomCell, Functor}
use Rattle.au_model.specs.Syntax.Trees.{Tree, VarTree, IntTree, AtomTree, CompoundTree, Trees, no_trees, more_trees, tree_count, list_name, code_list, char_list}
use Rattle.au_model.specs.Terms.Forms.{nil_name}
use Rattle.au_model.specs.Syntax.VariableNumbers.{Variables, numbered, all_numbered}
use Rattle.term_reader.specs.Postorder.{postorder, all_postorder}
use Rattle.term_reader.specs.TermOutput.{TermOutput, emit_cell, emit_tree, emit_trees, emit_lists, emit_codes, emit_chars}

count-numbered : (vs : Variables) (ts : Trees) → count (all_numbered vs ts).0 ≡ tree_count ts
count-numbered vs no_trees = refl
count-numbered vs (more_trees t ts) = ap suc (count-numbered (numbered vs t).1 ts)

-- a sheet with a term after it has the cells of the numbered term after its arguments
mutual
  pub emit-numbered : (s : TermOutput) (t : Tree) → emit_tree s t ≡ record { cells = s.cells ++ postorder (numbered s.variables t).0; variables = (numbered s.variables t).1 }
  emit-numbered s (VarTree n) = refl
  emit-numbered s (IntTree z) = refl
  emit-numbered s (AtomTree n) = refl
  emit-numbered s (CompoundTree n ts) =
      let r = all_numbered s.variables ts in
      ap (λ x. emit_cell x (Functor n (tree_count ts))) (puts-numbered s ts)
      ∙ (ap (λ (cs : List Cell). let out : TermOutput = record { cells = cs; variables = r.1 } in out) (append_assoc s.cells (all_postorder r.0) (Functor n (tree_count ts) ∷ []))
      ∙ ap (λ (k : ℕ). let out : TermOutput = record { cells = s.cells ++ (all_postorder r.0 ++ Functor n k ∷ []); variables = r.1 } in out) (sym (count-numbered s.variables ts)))

  pub puts-numbered : (s : TermOutput) (ts : Trees) → emit_trees s ts ≡ record { cells = s.cells ++ all_postorder (all_numbered s.variables ts).0; variables = (all_numbered s.variables ts).1 }
  puts-numbered s no_trees = ap (λ (cs : List Cell). let out : TermOutput = record { cells = cs; variables = s.variables } in out) (sym (append-nil s.cells))
  puts-numbered s (more_trees t ts) =
      let r = numbered s.variables t in
      let q = all_numbered r.1 ts in
      ap (λ x. emit_trees x ts) (emit-numbered s t)
      ∙ (puts-numbered (record { cells = s.cells ++ postorder r.0; variables = r.1 }) ts
      ∙ ap (λ (cs : List Cell). let out : TermOutput = record { cells = cs; variables = q.1 } in out) (append_assoc s.cells (postorder r.0) (all_postorder q.0)))

-- lists
pub emit-codes : (s : TermOutput) (cs : List ℕ) → emit_lists (length cs) (emit_tree (emit_codes s cs) (AtomTree nil_name)) ≡ emit_tree s (code_list cs)
emit-codes s [] = refl
emit-codes s (c ∷ cs) = ap (λ x. emit_cell x (Functor list_name 2)) (emit-codes (emit_cell s (IntCell (pos c))) cs)

pub emit-chars : (s : TermOutput) (cs : List ℕ) → emit_lists (length cs) (emit_tree (emit_chars s cs) (AtomTree nil_name)) ≡ emit_tree s (char_list cs)
emit-chars s [] = refl
emit-chars s (c ∷ cs) = ap (λ x. emit_cell x (Functor list_name 2)) (emit-chars (emit_cell s (AtomCell (c ∷ []))) cs)

pub put_codes-last : (s : TermOutput) (cs : List ℕ) (c : ℕ) → emit_codes s (cs ++ c ∷ []) ≡ emit_cell (emit_codes s cs) (IntCell (pos c))
put_codes-last s [] c = refl
put_codes-last s (d ∷ cs) c = put_codes-last (emit_cell s (IntCell (pos d))) cs c

pub put_chars-last : (s : TermOutput) (cs : List ℕ) (c : ℕ) → emit_chars s (cs ++ c ∷ []) ≡ emit_cell (emit_chars s cs) (AtomCell (c ∷ []))
put_chars-last s [] c = refl
put_chars-last s (d ∷ cs) c = put_chars-last (emit_cell s (AtomCell (d ∷ []))) cs c

-- sound cells
sound-front : (xs ys : List Cell) → AreValidCells (xs ++ ys) → AreValidCells xs
sound-front [] ys h = tt
sound-front (x ∷ xs) ys h = (h.0, sound-front xs ys h.1)

sound-back : (xs ys : List Cell) → AreValidCells (xs ++ ys) → AreValidCells ys
sound-back [] ys h = h
sound-back (x ∷ xs) ys h = sound-back xs ys h.1

sound-both : (xs ys : List Cell) → AreValidCells xs → AreValidCells ys → AreValidCells (xs ++ ys)
sound-both [] ys h k = k
sound-both (x ∷ xs) ys h k = (h.0, sound-both xs ys h.1 k)

mutual
  sound-turned : (t : Term) → AreValidCells (postorder t) → AreValidCells (cells_of t)
  sound-turned (VarTerm n) h = h
  sound-turned (IntTerm z) h = h
  sound-turned (AtomTerm a) h = h
  sound-turned (Compound f ts) h = ((sound-back (all_postorder ts) (Functor f (count ts) ∷ []) h).0, all_sound-turned ts (sound-front (all_postorder ts) (Functor f (count ts) ∷ []) h))

  all_sound-turned : (ts : Terms) → AreValidCells (all_postorder ts) → AreValidCells (all_cells ts)
  all_sound-turned end h = tt
  all_sound-turned (more t ts) h =
      sound-both (cells_of t) (all_cells ts) (sound-turned t (sound-front (postorder t) (all_postorder ts) h)) (all_sound-turned ts (sound-back (postorder t) (all_postorder ts) h))

pub turned-term : (t : Term) → AreValidCells (postorder t) → IsTerm (cells_of t)
turned-term t h = record { leaves = DueAfter-term t; sound = sound-turned t h }

pub map_same : (xs : List ℕ) → map (λ x. x) xs ≡ xs
map_same [] = refl
map_same (x ∷ xs) = ap (λ ys. x ∷ ys) (map_same xs)
