-- One inference in a region (ISO/IEC 13211-1, 7.7 and 7.8).
use Rattle.std.specs.Prelude.{◌≡◌, ◌<◌, Bool, false, Option, Some, None, IsSomeAnd, codes}
use Rattle.au_term.specs.Term.{Term, AtomTerm, argument_count}
use Rattle.run_model.specs.Goals.GoalOutcomes.{outcome_of}
use Rattle.run_model.specs.Programs.Bodies.{call_of}
use Rattle.run_model.specs.Programs.Clauses.{is_defined}
use Rattle.clause_compile.specs.AtomNumbers.{name_at}
use Rattle.binding_array.specs.declared.cell.BindingCell.TheVariants.{Compound}
use Rattle.goal_kinds.specs.declared.kind.GoalKind.{GoalKind}
use Rattle.goal_kinds.specs.declared.kind.GoalKind.TheVariants as kind
use Rattle.cell_store.specs.StoreView.{StoreView, meaning, text_in}
use Rattle.region_split.specs.Regions.{RegionView}
use Rattle.region_split.specs.declared.frame.FrameItem.{FrameItem}
use Rattle.region_split.specs.declared.frame.FrameItem.TheVariants.{Goal, Call, Cut, True, Fail, CatchEnd, Collect, Removal}
use Rattle.region_control.specs.Replies.{LeavesOutcome}
use Rattle.region_control.specs.declared.control.GoalPlace.{GoalPlace}
use Rattle.region_control.specs.declared.forms.GoalForm.{GoalForm}
use Rattle.region_control.specs.declared.replies.AfterGoal.{AfterGoal}

-- the goal that an item is; marks and removals are none
abbrev pub item_goal : StoreView → FrameItem → Option Term
item_goal st (Goal value) = Some (meaning st value)
item_goal st (Call value) = Some (call_of (meaning st value))
item_goal st Cut = Some (AtomTerm (codes "!"))
item_goal st True = Some (AtomTerm (codes "true"))
item_goal st Fail = Some (AtomTerm (codes "fail"))
item_goal st CatchEnd = None
item_goal st (Collect value) = None
item_goal st (Removal number) = None

-- the goal of a compound
abbrev pub IsCompoundItem : FrameItem → Type 0
IsCompoundItem (Goal (Compound at base)) = Unit {0}
IsCompoundItem _ = ⊥

-- the goal has arguments, as that of a compound has
abbrev pub HasArguments : StoreView → FrameItem → Type 0
HasArguments st item = IsSomeAnd (item_goal st item) (λ goal. 0 < argument_count goal)

-- whether a goal of a kind calls a procedure of the text
abbrev pub is_procedure_call : RegionView → GoalKind → GoalForm → Bool
is_procedure_call r kind.Call form = is_defined r.text.clauses (name_at (text_in r.store).names form.name) form.arguments.count
is_procedure_call r _ form = false

-- a goal was taken: what takes its place is what it comes to
abbrev pub Infers : RegionView → RegionView → Term → GoalPlace → AfterGoal → Type 0
Infers old new goal g after = LeavesOutcome old new (outcome_of old.text.clauses goal old.store.now.next) g after

-- the same of the goal that an item is
abbrev pub InfersItem : RegionView → RegionView → FrameItem → GoalPlace → AfterGoal → Type 0
InfersItem old new item g after = (goal : Term) → item_goal old.store item ≡ Some goal → Infers old new goal g after
