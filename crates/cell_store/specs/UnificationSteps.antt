-- Equations between the arguments of compounds, and how they are solved one after another (ISO/IEC 13211-1, 7.3.2).
use Rattle.std.specs.Prelude.{◌≡◌, ℕ, Bool, true, false, List, [], ◌∷◌, ◌++◌, Some, None}
use Rattle.au_term.specs.Term.{Term}
use Rattle.au_model.specs.Terms.Substitutions.{Substitution, occurs}
use Rattle.au_model.specs.Terms.Unifier.{Equations, Replaced, Opened, Clash, rule, unifier}
use Rattle.au_model.specs.Terms.EquationsInTurn.{resolved_equations}
use Rattle.clause_compile.specs.Places.{CodeView}
use Rattle.binding_array.specs.declared.cell.BindingCell.{BindingCell}
use Rattle.cell_store.specs.StoreView.{StoreView, substitution, meaning, text_in, with_substitution, BindsFurther}
use Rattle.cell_store.specs.Arguments.{argument_at, argument_meaning, arguments_in, AreThere}
use Rattle.cell_store.specs.declared.arguments.Equations.{Equations as ArgumentEquations}
use Rattle.cell_store.specs.declared.unify.Outcome.{Outcome}
use Rattle.cell_store.specs.declared.unify.Outcome.TheVariants.{Clash as ClashOutcome, Solved, Inside}

abbrev pub paired : List Term → List Term → Equations
paired [] us = []
paired (t ∷ ts) [] = []
paired (t ∷ ts) (u ∷ us) = (t, u) ∷ paired ts us

abbrev pub equations_in : CodeView → ArgumentEquations → Equations
equations_in code e = paired (arguments_in code e.left) (arguments_in code e.right)

-- both sides are there, and as many on the one as on the other
pub record AreEquations (code : CodeView) (next : ℕ) (e : ArgumentEquations) : Type 0 where
  pub left : AreThere code next e.left
  pub right : AreThere code next e.right
  pub as_many : e.left.count ≡ e.right.count

-- the top ones first
abbrev pub pending_equations : CodeView → List ArgumentEquations → Equations
pending_equations code [] = []
pending_equations code (e ∷ es) = equations_in code e ++ pending_equations code es

abbrev pub AllEquations : CodeView → ℕ → List ArgumentEquations → Type 0
AllEquations code next [] = Unit {0}
AllEquations code next (e ∷ es) = AreEquations code next e × AllEquations code next es

-- with what is bound
abbrev pub equations_left : StoreView → List ArgumentEquations → Equations
equations_left st es = resolved_equations (substitution st) (pending_equations (text_in st) es)

-- the rule for two sides was gone by, and these equations were opened
pub data FollowsRule (old new : StoreView) (a b : Term) (opened : List ArgumentEquations) : Type 0 where
  after_same : a ≡ b → new ≡ old → opened ≡ [] → FollowsRule old new a b opened
  after_binding : (x : ℕ) (t : Term) → rule a b ≡ Replaced x t → BindsFurther old new ((x, t) ∷ []) → opened ≡ [] → FollowsRule old new a b opened
  after_opening : (e : ArgumentEquations) → rule a b ≡ Opened (resolved_equations (substitution old) (equations_in (text_in old) e)) → AreEquations (text_in old) old.now.next e → new ≡ old → opened ≡ e ∷ [] → FollowsRule old new a b opened

-- a rule was gone by, or there is none
abbrev pub TakesRule : StoreView → StoreView → Term → Term → Outcome → Type 0
TakesRule old new a b ClashOutcome = rule a b ≡ Clash
TakesRule old new a b Solved = FollowsRule old new a b []
TakesRule old new a b (Inside e) = FollowsRule old new a b (e ∷ [])

abbrev pub solved_if : Bool → Outcome
solved_if true = Solved
solved_if false = ClashOutcome

-- a variable was bound to a term, unless it occurs in it
abbrev pub IsBoundOr : ℕ → Term → StoreView → StoreView → Outcome → Type 0
IsBoundOr x t old new ClashOutcome = (occurs x t ≡ true) × (new ≡ old)
IsBoundOr x t old new Solved = (occurs x t ≡ false) × BindsFurther old new ((x, t) ∷ [])
IsBoundOr x t old new (Inside e) = ⊥

-- the others are all but the first equation, before those that wait
pub record HasRestEquations (code : CodeView) (next : ℕ) (e : ArgumentEquations) (old new : List ArgumentEquations) : Type 0 where
  pub equations : (argument_at code e.left.base e.left.at, argument_at code e.right.base e.right.at) ∷ pending_equations code new ≡ equations_in code e ++ pending_equations code old
  pub there : AllEquations code next new

abbrev pub KeepsRestEquations : ArgumentEquations → List ArgumentEquations → List ArgumentEquations → Type 0
KeepsRestEquations e old new = (code : CodeView) (next : ℕ) → AreEquations code next e → AllEquations code next old → HasRestEquations code next e old new

-- all but what is bound is as it was
pub record OnlyBinds (old new : StoreView) : Type 0 where
  pub others : new ≡ with_substitution (substitution new) old

-- the unifier of what two values stand for was bound, or there is none
pub record AreUnified (a b : BindingCell) (old new : StoreView) : Type 0 where
  pub further : Substitution
  pub unified : unifier ((meaning old a, meaning old b) ∷ []) ≡ Some further
  pub binds : BindsFurther old new further

abbrev pub IsUnified : BindingCell → BindingCell → StoreView → StoreView → Bool → Type 0
IsUnified a b old new true = AreUnified a b old new
IsUnified a b old new false = unifier ((meaning old a, meaning old b) ∷ []) ≡ None

-- the unifier of equations was bound, or there is none
pub record AreSolved (es : List ArgumentEquations) (old new : StoreView) : Type 0 where
  pub further : Substitution
  pub unified : unifier (equations_left old es) ≡ Some further
  pub binds : BindsFurther old new further

abbrev pub IsSolved : List ArgumentEquations → StoreView → StoreView → Bool → Type 0
IsSolved es old new true = AreSolved es old new
IsSolved es old new false = unifier (equations_left old es) ≡ None

-- the first equation of arguments
abbrev pub first_equation : StoreView → ArgumentEquations → Equations
first_equation st e = (argument_meaning st e.left.base e.left.at, argument_meaning st e.right.base e.right.at) ∷ []

-- its unifier was bound, or there is none
pub record IsFirstSolved (e : ArgumentEquations) (old new : StoreView) : Type 0 where
  pub further : Substitution
  pub unified : unifier (first_equation old e) ≡ Some further
  pub binds : BindsFurther old new further

abbrev pub SolvesFirst : ArgumentEquations → StoreView → StoreView → Bool → Type 0
SolvesFirst e old new true = IsFirstSolved e old new
SolvesFirst e old new false = unifier (first_equation old e) ≡ None
