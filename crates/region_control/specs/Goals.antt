-- Goals before what follows at a position.
use Rattle.std.specs.Prelude.{ℕ, List, [], ◌∷◌, codes}
use Rattle.au_term.specs.Term.{Term, AtomTerm}
use Rattle.run_model.specs.Programs.Bodies.{goals_of, call_of}
use Rattle.run_model.specs.Machine.Items.{Item, goals_at}
use Rattle.cell_store.specs.StoreView.{StoreView, IsValueIn, meaning}
use Rattle.region_split.specs.ChoicePoints.{height_of_cut}
use Rattle.region_control.specs.declared.goals.Goals.{Goals}
use Rattle.region_control.specs.declared.goals.Goals.TheVariants.{Body, Call, True, Fail}

-- goals in a scope, by the heights
abbrev pub goals_by : List Term → ℕ → List ℕ → List (Item ℕ)
goals_by goals cut heights = goals_at (height_of_cut heights cut) goals

-- the goals that are given
abbrev pub given_goals : StoreView → Goals → List Term
given_goals st (Body value) = goals_of (meaning st value)
given_goals st (Call value) = call_of (meaning st value) ∷ []
given_goals st True = AtomTerm (codes "true") ∷ []
given_goals st Fail = AtomTerm (codes "fail") ∷ []

-- values that are there
abbrev pub AreGoalsIn : StoreView → Goals → Type 0
AreGoalsIn st (Body value) = IsValueIn st value
AreGoalsIn st (Call value) = IsValueIn st value
AreGoalsIn st True = Unit {0}
AreGoalsIn st Fail = Unit {0}
