-- Terms compared pair by pair, from the left.
use Rattle.std.specs.Prelude.{◌≡◌, ℕ, ◌+◌, ◌<◌, List, [], ◌∷◌}
use Rattle.std.specs.declared.cmp.Ordering.{Ordering}
use Rattle.std.specs.declared.cmp.Ordering.TheVariants.{Equal}
use Rattle.std.specs.Ordering.{ordering_then}
use Rattle.au_model.specs.Terms.EquationsInTurn.{resolved_equations}
use Rattle.au_model.specs.Terms.Unifier.{Equations as Pairs, size}
use Rattle.run_model.specs.Goals.StandardOrder.{order}
use Rattle.binding_array.specs.declared.cell.BindingCell.{BindingCell}
use Rattle.binding_array.specs.declared.cell.BindingCell.TheVariants.{Free, Var, Int, Atom, Compound}
use Rattle.cell_store.specs.Arguments.{AreArguments}
use Rattle.cell_store.specs.StoreView.{StoreView, substitution, text_in}
use Rattle.cell_store.specs.UnificationSteps.{AreEquations, equations_in}
use Rattle.cell_store.specs.declared.arguments.Equations.{Equations}
use Rattle.value_goals.specs.declared.comparison.Compared.{Compared}
use Rattle.value_goals.specs.declared.comparison.Compared.TheVariants.{Decided, Inside}
use Rattle.value_goals.specs.declared.comparison.Walked.{Walked}
use Rattle.value_goals.specs.declared.comparison.Walked.TheVariants.{Ended, Entered}

-- the first two that differ decide
abbrev pub order_of_pairs : Pairs → Ordering
order_of_pairs [] = Equal
order_of_pairs (p ∷ ps) = ordering_then (order p.0 p.1) (order_of_pairs ps)

-- of the left terms
abbrev pub left_size : Pairs → ℕ
left_size [] = 0
left_size (p ∷ ps) = size p.0 + left_size ps

-- what the arguments on either side stand for
abbrev pub argument_pairs : StoreView → Equations → Pairs
argument_pairs st e = resolved_equations (substitution st) (equations_in (text_in st) e)

-- the top ones first
abbrev pub order_of_all : StoreView → List Equations → Ordering
order_of_all st [] = Equal
order_of_all st (e ∷ es) = ordering_then (order_of_pairs (argument_pairs st e)) (order_of_all st es)

abbrev pub size_of_all : StoreView → List Equations → ℕ
size_of_all st [] = 0
size_of_all st (e ∷ es) = left_size (argument_pairs st e) + size_of_all st es

-- as many arguments on the one side as on the other, and maybe none
pub record AreSides (st : StoreView) (e : Equations) : Type 0 where
  pub left : AreArguments (text_in st) st.now.next e.left.base e.left.count e.left.at
  pub right : AreArguments (text_in st) st.now.next e.right.base e.right.count e.right.at
  pub as_many : e.left.count ≡ e.right.count

-- variables, integers, atoms, compounds
abbrev pub kind_number : BindingCell → ℕ
kind_number Free = 4
kind_number (Var v) = 0
kind_number (Int z) = 1
kind_number (Atom a) = 2
kind_number (Compound at base) = 3

-- the order of two compounds is that of their arguments
pub record OpensInto (st : StoreView) (o : Ordering) (n : ℕ) (e : Equations) : Type 0 where
  pub same : order_of_pairs (argument_pairs st e) ≡ o
  pub there : AreEquations (text_in st) st.now.next e
  pub fewer : left_size (argument_pairs st e) < n

-- two terms with this order, the left one of this size, were compared
abbrev pub IsCompared : StoreView → Ordering → ℕ → Compared → Type 0
IsCompared st o n (Decided found) = found ≡ o
IsCompared st o n (Inside e) = OpensInto st o n e

-- the pairs up to the arguments of two compounds are equal, and then come the others
pub record Enters (st : StoreView) (ps : Pairs) (e rest : Equations) : Type 0 where
  pub same : ordering_then (order_of_pairs (argument_pairs st e)) (order_of_pairs (argument_pairs st rest)) ≡ order_of_pairs ps
  pub there : AreEquations (text_in st) st.now.next e
  pub rest_there : AreSides st rest
  pub fewer : left_size (argument_pairs st e) + left_size (argument_pairs st rest) < left_size ps

abbrev pub IsPairWalk : StoreView → Pairs → Walked → Type 0
IsPairWalk st ps (Ended found) = found ≡ order_of_pairs ps
IsPairWalk st ps (Entered e rest) = Enters st ps e rest
