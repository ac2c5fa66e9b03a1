-- Written terms as tokens, and what they are when they are read (ISO/IEC 13211-1, 7.10.5).
use Rattle.std.specs.Prelude.{◌≡◌, true, ℤ, pos, negsuc, ◌<◌, ◌≤◌, ◌^◌, ◌∷◌}
use Rattle.std.specs.Fmt.{decimal}
use Rattle.std.specs.Str.{all_scalars}
use Rattle.au_term.specs.Term.{Term, VarTerm, IntTerm, AtomTerm, Compound, Terms, end, more, count}
use Rattle.au_model.specs.Syntax.Trees.{Tree, VarTree, IntTree, AtomTree, CompoundTree, Trees, no_trees, more_trees}

-- a variable is named as it is written
abbrev mutual
  pub tree_of : Term → Tree
  tree_of (VarTerm n) = VarTree (95 ∷ decimal n)
  tree_of (IntTerm z) = IntTree z
  tree_of (AtomTerm a) = AtomTree a
  tree_of (Compound f ts) = CompoundTree f (trees_of ts)

  pub trees_of : Terms → Trees
  trees_of end = no_trees
  trees_of (more t ts) = more_trees (tree_of t) (trees_of ts)

-- an integer of 64 bits
abbrev pub IsSmall : ℤ → Type 0
IsSmall (pos k) = k < 2 ^ 63
IsSmall (negsuc k) = k < 2 ^ 63

-- numbers have 64 bits, names are of Unicode's characters, and compounds have 1 to 65,535 arguments
abbrev mutual
  pub IsWritable : Term → Type 0
  IsWritable (VarTerm n) = n < 2 ^ 64
  IsWritable (IntTerm z) = IsSmall z
  IsWritable (AtomTerm a) = all_scalars a ≡ true
  IsWritable (Compound f ts) = (all_scalars f ≡ true) × (0 < count ts) × (count ts ≤ 65535) × AreWritable ts

  pub AreWritable : Terms → Type 0
  AreWritable end = Unit {0}
  AreWritable (more t ts) = IsWritable t × AreWritable ts
