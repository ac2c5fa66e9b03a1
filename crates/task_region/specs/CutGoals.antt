-- Goals that cut to their scope: those of this name with no argument, and no others.
use Rattle.std.specs.Prelude.{◌≡◌, ℕ, true, List, codes, IsSomeAnd}
use Rattle.au_term.specs.Term.{Term, argument_count}
use Rattle.au_model.specs.Terms.Forms.{is_callable, name_of}
use Rattle.cell_store.specs.StoreView.{StoreView}
use Rattle.region_split.specs.declared.frame.FrameItem.{FrameItem}
use Rattle.region_run.specs.Inferences.{item_goal}
use Rattle.run_model.specs.Programs.Clauses.{Clause}
use Rattle.run_model.specs.Goals.Outcomes.{CutToScope, Controls}
use Rattle.run_model.specs.Goals.GoalOutcomes.{outcome_of}

abbrev pub IsCutGoal : Term → Type 0
IsCutGoal goal = (name_of goal ≡ codes "!") × (argument_count goal ≡ 0)

abbrev pub CutsAreNamed : Type 0
CutsAreNamed = (clauses : List Clause) (goal : Term) (next : ℕ) → outcome_of clauses goal next ≡ Controls CutToScope → IsCutGoal goal

abbrev pub NamedCutsCut : Type 0
NamedCutsCut =
    (clauses : List Clause) (goal : Term) (next : ℕ) → is_callable goal ≡ true → IsCutGoal goal → outcome_of clauses goal next ≡ Controls CutToScope

-- a goal that cuts, and an item that is one
abbrev pub IsCutCall : Term → Type 0
IsCutCall goal = (is_callable goal ≡ true) × IsCutGoal goal

abbrev pub IsCutItem : StoreView → FrameItem → Type 0
IsCutItem st item = IsSomeAnd (item_goal st item) IsCutCall
