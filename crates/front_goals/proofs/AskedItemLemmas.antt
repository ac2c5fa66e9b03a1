-- Only a goal that is a value asks the world, and it asks by itself.
use Rattle.std.proofs.Common.{◌≡◌, ℕ, List, Some, None, refl, sym, ap, ◌∙◌, subst}
use Rattle.std.specs.Prelude.{codes}
use Rattle.au_term.specs.Term.{Term, AtomTerm, end}
use Rattle.run_model.specs.Goals.GoalOutcomes.{outcome_of}
use Rattle.run_model.specs.Goals.Outcomes.{AskWorld}
use Rattle.run_model.specs.Programs.Bodies.{call_of}
use Rattle.run_model.specs.Programs.Clauses.{Clause}
use Rattle.binding_array.specs.declared.cell.BindingCell.{BindingCell}
use Rattle.cell_store.specs.StoreView.{IsValueIn, meaning}
use Rattle.region_control.specs.declared.control.GoalPlace.{GoalPlace}
use Rattle.region_run.specs.Runs.{AsksWorldNext}
use Rattle.region_split.specs.Regions.{RegionView}
use Rattle.region_split.specs.declared.frame.FrameItem.{FrameItem}
use Rattle.region_split.specs.declared.frame.FrameItem.TheVariants as item
use Rattle.region_world.proofs.AskedGoalLemmas.{asked_itself, call_never}

abbrev IsAskedBy : RegionView → FrameItem → Type 0
IsAskedBy r (item.Goal value) = (outcome_of r.text.clauses (meaning r.store value) r.store.now.next ≡ AskWorld (meaning r.store value)) × IsValueIn r.store value
IsAskedBy r (item.Call value) = ⊥
IsAskedBy r item.Cut = ⊥
IsAskedBy r item.True = ⊥
IsAskedBy r item.Fail = ⊥
IsAskedBy r item.CatchEnd = ⊥
IsAskedBy r (item.Collect value) = ⊥
IsAskedBy r (item.Removal number) = ⊥

call_asks_nothing : (clauses : List Clause) (g : Term) (next : ℕ) (goal : Term) → outcome_of clauses (call_of g) next ≡ AskWorld goal → ⊥
unfolding outcome_of
call_asks_nothing clauses g next goal e = call_never 1 g end goal e

cut_asks_nothing : (clauses : List Clause) (next : ℕ) (goal : Term) → outcome_of clauses (AtomTerm (codes "!")) next ≡ AskWorld goal → ⊥
unfolding outcome_of
cut_asks_nothing clauses next goal e = cc

true_asks_nothing : (clauses : List Clause) (next : ℕ) (goal : Term) → outcome_of clauses (AtomTerm (codes "true")) next ≡ AskWorld goal → ⊥
unfolding outcome_of
true_asks_nothing clauses next goal e = cc

fail_asks_nothing : (clauses : List Clause) (next : ℕ) (goal : Term) → outcome_of clauses (AtomTerm (codes "fail")) next ≡ AskWorld goal → ⊥
unfolding outcome_of
fail_asks_nothing clauses next goal e = cc

some_same : (t u : Term) → Some t ≡ Some u → t ≡ u
some_same t u e = cc

none_some : (t : Term) → None ≡ Some t → ⊥
none_some t e = cc

asked_of : (r : RegionView) (t : Term) (i : FrameItem) (g : GoalPlace) (a : AsksWorldNext r i g) → t ≡ a.goal → outcome_of r.text.clauses t r.store.now.next ≡ AskWorld t
asked_of r t i g a e =
    let own = asked_itself r.text.clauses a.goal r.store.now.next a.asked a.asks in
    subst (λ u. outcome_of r.text.clauses u r.store.now.next ≡ AskWorld u) (sym e) (a.asks ∙ ap AskWorld own)

asked_by : (r : RegionView) (i : FrameItem) (g : GoalPlace) → AsksWorldNext r i g → IsAskedBy r i
asked_by r (item.Goal value) g a = (asked_of r (meaning r.store value) (item.Goal value) g a (some_same (meaning r.store value) a.goal a.is), a.there.there)
asked_by r (item.Call value) g a = call_asks_nothing r.text.clauses (meaning r.store value) r.store.now.next _ (asked_of r _ (item.Call value) g a (some_same _ a.goal a.is))
asked_by r item.Cut g a = cut_asks_nothing r.text.clauses r.store.now.next _ (asked_of r _ item.Cut g a (some_same _ a.goal a.is))
asked_by r item.True g a = true_asks_nothing r.text.clauses r.store.now.next _ (asked_of r _ item.True g a (some_same _ a.goal a.is))
asked_by r item.Fail g a = fail_asks_nothing r.text.clauses r.store.now.next _ (asked_of r _ item.Fail g a (some_same _ a.goal a.is))
asked_by r item.CatchEnd g a = none_some a.goal a.is
asked_by r (item.Collect value) g a = none_some a.goal a.is
asked_by r (item.Removal number) g a = none_some a.goal a.is

pub asks_itself : (r : RegionView) (i : FrameItem) (value : BindingCell) (g : GoalPlace) → i ≡ item.Goal value → AsksWorldNext r i g → IsAskedBy r (item.Goal value)
asks_itself r i value g is a = subst (IsAskedBy r) is (asked_by r i g a)

pub only_goals_ask : (r : RegionView) (i : FrameItem) (g : GoalPlace) → AsksWorldNext r i g → ((value : BindingCell) → i ≡ item.Goal value → ⊥) → ⊥
only_goals_ask r i g a none = by_item i (asked_by r i g a) none
  where
    by_item : (j : FrameItem) → IsAskedBy r j → ((value : BindingCell) → j ≡ item.Goal value → ⊥) → ⊥
    by_item (item.Goal value) h never = never value refl
    by_item (item.Call value) h never = h
    by_item item.Cut h never = h
    by_item item.True h never = h
    by_item item.Fail h never = h
    by_item item.CatchEnd h never = h
    by_item (item.Collect value) h never = h
    by_item (item.Removal number) h never = h
