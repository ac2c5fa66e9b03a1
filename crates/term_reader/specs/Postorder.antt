-- The cells of a term with each compound's after its arguments, and how they are turned.
use Rattle.std.specs.Prelude.{ℕ, suc, ◌<◌, List, [], ◌∷◌, ◌++◌, length}
use Rattle.au_term.specs.Term.{Term, VarTerm, IntTerm, AtomTerm, Compound, Terms, end, more, count}
use Rattle.au_term.specs.PrefixOrder.{cells_of}
use Rattle.au_term.specs.declared.cell.Cell.{Cell}
use Rattle.au_term.specs.declared.cell.Cell.TheVariants.{Var as VarCell, Int as IntCell, Atom as AtomCell, Functor}
use Rattle.term_reader.specs.declared.order.Pending.{Pending}

abbrev mutual
  pub postorder : Term → List Cell
  postorder (VarTerm n) = VarCell n ∷ []
  postorder (IntTerm z) = IntCell z ∷ []
  postorder (AtomTerm a) = AtomCell a ∷ []
  postorder (Compound f ts) = all_postorder ts ++ Functor f (count ts) ∷ []

  pub all_postorder : Terms → List Cell
  all_postorder end = []
  all_postorder (more t ts) = postorder t ++ all_postorder ts

-- terms, the last first: their cells in either order
abbrev pub back_post : List Term → List Cell
back_post [] = []
back_post (t ∷ ts) = back_post ts ++ postorder t

abbrev pub back_pre : List Term → List Cell
back_pre [] = []
back_pre (t ∷ ts) = back_pre ts ++ cells_of t

-- what is still to come: the first arguments of a compound, with its cell, of an argument of a compound, and so on
pub data Levels : Type 0 where
  base : List Term → Levels
  level : List Term → Cell → Levels → Levels

-- the cells still to come
abbrev pub posts : Levels → List Cell
posts (base ts) = back_post ts
posts (level ts c ls) = posts ls ++ back_post ts

-- all cells, where these have come
abbrev pub finals : Levels → List Cell → List Cell
finals (base ts) cs = back_pre ts ++ cs
finals (level ts c ls) cs = finals ls (c ∷ (back_pre ts ++ cs))

abbrev pub pending_compound : Cell → ℕ → Pending
pending_compound c n = record { cell = c; left = n }

-- with one argument of each compound under way
abbrev pub lower_levels_pending : Levels → List Pending
lower_levels_pending (base ts) = []
lower_levels_pending (level ts c ls) = lower_levels_pending ls ++ pending_compound c (suc (length ts)) ∷ []

-- with none of the last compound under way
abbrev pub levels_pending : Levels → List Pending
levels_pending (base ts) = []
levels_pending (level ts c ls) = lower_levels_pending ls ++ pending_compound c (length ts) ∷ []

-- an argument of the last compound is still to come
abbrev pub IsBusy : Levels → Type 0
IsBusy (base ts) = Unit {0}
IsBusy (level ts c ls) = 0 < length ts
