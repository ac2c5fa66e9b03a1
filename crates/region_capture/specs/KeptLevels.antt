-- Which of the bindings that were made between two moments are kept: those of variables that something can reach which is left.
use Rattle.std.specs.Prelude.{◌≡◌, ◌⊎◌, ℕ, ◌<◌, ◌≤◌, Bool, true, false, List, [], ◌∷◌, get_or, length}
use Rattle.au_term.specs.Term.{Term, VarTerm, var_bound}
use Rattle.au_term.specs.declared.segment.Binding.{Binding}
use Rattle.au_model.specs.Terms.Each.{Each}
use Rattle.au_model.specs.Terms.Substitutions.{value_of, resolve, occurs}
use Rattle.run_model.specs.Machine.Items.{Item, GoalItem, CatchMark, CollectMark, RemovalItem}
use Rattle.branch_bindings.specs.Extensions.{IsBoundAmong, BindOnce}
use Rattle.branch_bindings.specs.ExtensionLaws.{IsFinal}
use Rattle.region_split.specs.ResultLists.{IsNumberedFrom}
use Rattle.region_capture.specs.CapturedItems.{ItemLists, HasItems}
use Rattle.region_capture.specs.CapturedMeanings.{captured_bindings, AreMeant, IsKindBelow}
use Rattle.region_capture.specs.CapturedChoices.{BoundThen, MeantChoice, IsAloneOf}
use Rattle.region_capture.specs.declared.captured.CapturedAlternative.{CapturedAlternative}
use Rattle.region_capture.specs.declared.captured.CapturedChoice.{CapturedChoice}
use Rattle.region_capture.specs.declared.captured.CapturedKind.{CapturedKind}
use Rattle.region_capture.specs.declared.captured.CapturedKind.TheVariants.{Choice, Catch, Findall}

-- a variable was seen
abbrev pub IsSeen : List Bool → ℕ → Type 0
IsSeen seen v = get_or seen v false ≡ true

-- further variables were seen, all of them below a number
pub record SeesBelow (next : ℕ) (old new : List Bool) : Type 0 where
  pub kept : (v : ℕ) → IsSeen old v → IsSeen new v
  pub only : (v : ℕ) → IsSeen new v → IsSeen old v ⊎ (v < next)

-- a variable was seen, if it is below a number
abbrev pub IsVariableReached : ℕ → List Bool → ℕ → Type 0
IsVariableReached next seen v = (next ≤ v) ⊎ IsSeen seen v

-- all variables of a term
abbrev pub AreReachedIn : ℕ → List Bool → Term → Type 0
AreReachedIn next seen t = (v : ℕ) → occurs v t ≡ true → IsVariableReached next seen v

abbrev pub IsItemReached : ℕ → List Bool → Item ℕ → Type 0
IsItemReached next seen (GoalItem t c) = AreReachedIn next seen t
IsItemReached next seen (CatchMark over) = Unit {0}
IsItemReached next seen (CollectMark t over) = AreReachedIn next seen t
IsItemReached next seen (RemovalItem number) = Unit {0}

pub record IsBindingReached (next : ℕ) (seen : List Bool) (b : Binding) : Type 0 where
  pub variable : IsVariableReached next seen b.var
  pub value : AreReachedIn next seen b.value

abbrev pub AreBindingsReached : ℕ → List Bool → CapturedAlternative → Type 0
AreBindingsReached next seen a = Each (IsBindingReached next seen) a.bindings

-- the results of a findall have variables of their own
abbrev pub IsKindReached : ℕ → List Bool → CapturedKind → Type 0
IsKindReached next seen Choice = Unit {0}
IsKindReached next seen (Catch catcher recovery) = AreReachedIn next seen catcher × AreReachedIn next seen recovery
IsKindReached next seen (Findall list results) = AreReachedIn next seen list

abbrev pub HasResultsFrom : ℕ → CapturedKind → Type 0
HasResultsFrom next Choice = Unit {0}
HasResultsFrom next (Catch catcher recovery) = Unit {0}
HasResultsFrom next (Findall list results) = Each (IsNumberedFrom next) results.items

-- the items of a number
abbrev pub ReachesItems : ℕ → List Bool → ItemLists → ℕ → Type 0
ReachesItems next seen lists number = (left : List (Item ℕ)) → HasItems lists number left → Each (IsItemReached next seen) left

-- what an alternative has left, and its bindings
pub record ReachesAlternative (next : ℕ) (seen : List Bool) (lists : ItemLists) (a : CapturedAlternative) : Type 0 where
  pub items : ReachesItems next seen lists a.first
  pub bindings : AreBindingsReached next seen a

-- the binding of a variable that was seen, and was free at the first of two moments: what the variable stands for at the second is what
-- its value stands for then
pub record IsKeptBinding (under now : BoundThen) (seen : List Bool) (b : Binding) : Type 0 where
  pub is_seen : IsSeen seen b.var
  pub there : b.var < now.next
  pub free : value_of under.bound b.var ≡ VarTerm b.var
  pub stands : value_of now.bound b.var ≡ resolve now.bound b.value
  pub older : (w : ℕ) → b.value ≡ VarTerm w → w < b.var
  pub below : var_bound b.value ≤ now.next

-- the bindings of the variables that were seen, each once: among these are the older ones that were bound between the two moments
pub record KeepsSeen (under now : BoundThen) (seen : List Bool) (bs : List Binding) : Type 0 where
  pub later : under.next ≤ now.next
  pub unbound : (v : ℕ) → under.next ≤ v → value_of under.bound v ≡ VarTerm v
  pub below : (v : ℕ) → v < under.next → var_bound (value_of under.bound v) ≤ under.next
  pub further : (v : ℕ) → value_of now.bound v ≡ resolve now.bound (value_of under.bound v)
  pub new : (v : ℕ) → now.next ≤ v → value_of now.bound v ≡ VarTerm v
  pub each : Each (IsKeptBinding under now seen) bs
  pub once : BindOnce (captured_bindings bs)
  pub all : (v : ℕ) → value_of under.bound v ≡ VarTerm v → IsSeen seen v → (value_of now.bound v ≡ VarTerm v) ⊎ IsBoundAmong (captured_bindings bs) v
  pub older : (v : ℕ) → v < under.next → value_of under.bound v ≡ VarTerm v → (value_of now.bound v ≡ VarTerm v) ⊎ IsSeen seen v

abbrev pub ReachesValues : ℕ → List Bool → List Binding → Type 0
ReachesValues next seen bs = Each (λ b. AreReachedIn next seen b.value) bs

-- the variables of their values were seen too
pub record KeepsLevel (under now : BoundThen) (seen : List Bool) (bs : List Binding) : Type 0 where
  pub keeps : KeepsSeen under now seen bs
  pub values : ReachesValues now.next seen bs

-- a choice point over so many others, with the bindings that were kept since what was bound under it, and where all that is left of it
-- was seen
pub record KeepsChoice (lists : ItemLists) (under : BoundThen) (cut : ℕ) (seen : List Bool) (c : CapturedChoice) (m : MeantChoice) : Type 0 where
  pub kind : c.kind ≡ m.kind
  pub level : KeepsLevel under m.came seen c.below
  pub next : m.came.next ≡ c.next
  pub final : IsFinal m.came.bound
  pub alternatives : AreMeant lists m.came.bound c.next cut c.alternatives.items m.alternatives
  pub alone : IsAloneOf m.kind (length m.alternatives)
  pub terms : (a : CapturedAlternative) → c.alternatives.items ≡ a ∷ [] → IsKindBelow a.next m.kind
  pub items : Each (λ a. Each (IsItemReached c.next seen) a.items) m.alternatives
  pub bindings : Each (AreBindingsReached c.next seen) c.alternatives.items
  pub guard : IsKindReached c.next seen m.kind
  pub results : HasResultsFrom c.next m.kind
