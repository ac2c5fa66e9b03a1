-- The numbers of a read term's variables: by first occurrence, and each `_` has its own (ISO/IEC 13211-1, 6.1.2 and 7.1.1.2).
use Rattle.std.specs.Prelude.{ℕ, suc, Bool, nat_eq, cond, List, [], ◌∷◌, ◌++◌, Option, Some, None, codes, if◌then◌else◌}
use Rattle.std.specs.Cmp.Lexicographic.{pointwise}
use Rattle.au_term.specs.Term.{Term, VarTerm, IntTerm, AtomTerm, Compound, Terms, end, more}
use Rattle.au_model.specs.Syntax.Trees.{Tree, VarTree, IntTree, AtomTree, CompoundTree, Trees, no_trees, more_trees}
use Rattle.au_model.specs.Terms.Named.{NamedVariable}

-- the names that have come, each with its number, and the next number
pub record Variables : Type 0 where
  pub named : List NamedVariable
  pub next : ℕ

abbrev pub no_variables : Variables
no_variables = record { named = []; next = 0 }

abbrev pub number_of : List NamedVariable → List ℕ → Option ℕ
number_of [] n = None
number_of (v ∷ vs) n = cond (pointwise nat_eq v.name n) (Some v.number) (number_of vs n)

abbrev pub is_anonymous : List ℕ → Bool
is_anonymous n = pointwise nat_eq n (codes "_")

abbrev pub new_name : Variables → List ℕ → Variables
new_name vs n = record { named = vs.named ++ record { name = n; number = vs.next } ∷ []; next = suc vs.next }

abbrev pub old_or_new : Variables → List ℕ → Option ℕ → ℕ × Variables
old_or_new vs n (Some k) = (k, vs)
old_or_new vs n None = (vs.next, new_name vs n)

-- the number of a variable, and the variables after it
abbrev pub numbered_name : Variables → List ℕ → ℕ × Variables
numbered_name vs n =
    if is_anonymous n then (vs.next, record { named = vs.named; next = suc vs.next })
    else old_or_new vs n (number_of vs.named n)

-- the term of a tree after these variables, and the variables after it
abbrev mutual
  pub numbered : Variables → Tree → Term × Variables
  numbered vs (VarTree n) = let r = numbered_name vs n in (VarTerm r.0, r.1)
  numbered vs (IntTree z) = (IntTerm z, vs)
  numbered vs (AtomTree a) = (AtomTerm a, vs)
  numbered vs (CompoundTree n ts) = let r = all_numbered vs ts in (Compound n r.0, r.1)

  pub all_numbered : Variables → Trees → Terms × Variables
  all_numbered vs no_trees = (end, vs)
  all_numbered vs (more_trees t ts) = let r = numbered vs t in let q = all_numbered r.1 ts in (more r.0 q.0, q.1)
