-- A term as it is spelled: its variables have names, and no numbers yet. A list's cells have the name `'.'`
-- (ISO/IEC 13211-1:1995, 6.3.5).
use Rattle.std.specs.Prelude.{ℕ, suc, ℤ, pos, List, [], ◌∷◌, codes}
use Rattle.au_model.specs.Terms.Forms.{nil_name}
use Rattle.au_model.specs.declared.types.DoubleQuotes.{DoubleQuotes}
use Rattle.au_model.specs.declared.types.DoubleQuotes.TheVariants.{Codes, Chars, Atom}

mutual
  pub data Tree : Type 0 where
    VarTree : List ℕ → Tree
    IntTree : ℤ → Tree
    AtomTree : List ℕ → Tree
    CompoundTree : List ℕ → Trees → Tree

  pub data Trees : Type 0 where
    no_trees : Trees
    more_trees : Tree → Trees → Trees

abbrev pub tree_count : Trees → ℕ
tree_count no_trees = 0
tree_count (more_trees t ts) = suc (tree_count ts)

abbrev pub one : List ℕ → Tree → Tree
one n t = CompoundTree n (more_trees t no_trees)

abbrev pub two : List ℕ → Tree → Tree → Tree
two n t u = CompoundTree n (more_trees t (more_trees u no_trees))

abbrev pub list_name : List ℕ
list_name = codes "."

abbrev pub cell : Tree → Tree → Tree
cell t u = two list_name t u

abbrev pub code_list : List ℕ → Tree
code_list [] = AtomTree nil_name
code_list (c ∷ cs) = cell (IntTree (pos c)) (code_list cs)

abbrev pub char_list : List ℕ → Tree
char_list [] = AtomTree nil_name
char_list (c ∷ cs) = cell (AtomTree (c ∷ [])) (char_list cs)

-- what a double-quoted item with these characters stands for
abbrev pub text_tree : DoubleQuotes → List ℕ → Tree
text_tree Codes cs = code_list cs
text_tree Chars cs = char_list cs
text_tree Atom cs = AtomTree cs
