-- Bodies for what was taken off a region mean the entries to which its run has come, with what was deferred in its place.
use Rattle.std.specs.Prelude.{◌≡◌, ℕ, ◌+◌, true, List, [], ◌∷◌, length, map, reverse}
use Rattle.std.specs.List.{list_all}
use Rattle.au_model.specs.Terms.Each.{Each}
use Rattle.au_model.specs.Terms.Substitutions.{resolve}
use Rattle.run_model.specs.Machine.Items.{Item, GoalItem, CatchMark, CollectMark, RemovalItem, Continuation, resolve_continuation}
use Rattle.run_model.specs.Machine.Entries.{Entry, PlainEntry, CatchEntry, FindallEntry}
use Rattle.clause_compile.specs.declared.item.Item.{Item as BranchItem}
use Rattle.region_floor.specs.Deferred.{joined_items}
use Rattle.tree_nodes.specs.Bodies.{Body}
use Rattle.branch_reading.specs.Readings.{items_meant}
use Rattle.branch_reading.specs.SettledWays.{is_item_settled, is_guard_settled}
use Rattle.branch_shapes.specs.ChoiceScopes.{IsOverChoices}
use Rattle.branch_shapes.specs.FloorItems.{NamesLevels, items_over_floor}
use Rattle.branch_shapes.specs.MeantBranches.{Placement, floor_in, continuation_in}
use Rattle.branch_shapes.specs.MeantRuns.{MeanRun}
use Rattle.region_capture.specs.CapturedMeanings.{MeantAlternative, MeansAlternative}
use Rattle.region_capture.specs.CapturedChoices.{BoundThen, MeantChoice, bound_under, CaptureChoices}
use Rattle.region_capture.specs.declared.captured.Captured.{Captured}
use Rattle.region_capture.specs.declared.captured.CapturedKind.{CapturedKind}
use Rattle.region_capture.specs.declared.captured.CapturedKind.TheVariants.{Choice, Catch, Findall}
use Rattle.task_publishing.specs.KeptScopes.{AreNodesDown}
use Rattle.task_publishing.specs.LiveChoices.{IsBoundAtStart}
use Rattle.task_publishing.specs.MadeBodies.{published_kind}

-- the items of an alternative, with those that were deferred in the place of what stands for them
abbrev pub items_left : Placement → List BranchItem → MeantAlternative → List (Item ℕ)
items_left p deferred a = joined_items (items_over_floor p.levels (items_meant deferred)) a.items

abbrev pub published_continuation : Placement → List BranchItem → MeantAlternative → Continuation ℕ
published_continuation p deferred a = resolve_continuation a.bound (continuation_in p a.next (items_left p deferred a))

-- the entry of an alternative at a choice point of a kind
abbrev pub published_entry : Placement → List BranchItem → CapturedKind → MeantAlternative → Entry
published_entry p deferred Choice a = PlainEntry (published_continuation p deferred a)
published_entry p deferred (Catch catcher recovery) a = CatchEntry (resolve a.bound catcher) (resolve a.bound recovery)
    (published_continuation p deferred a)
published_entry p deferred (Findall list results) a = FindallEntry (map (resolve a.bound) results.items) (resolve a.bound list)
    (published_continuation p deferred a)

-- those of a choice point
abbrev pub published_group : Placement → List BranchItem → MeantChoice → List Entry
published_group p deferred m = map (published_entry p deferred m.kind) m.alternatives

-- nothing comes behind what stands for deferred items
abbrev pub EndsDeferred : List (Item ℕ) → Type 0
EndsDeferred [] = Unit {0}
EndsDeferred (GoalItem t n ∷ items) = EndsDeferred items
EndsDeferred (CatchMark n ∷ items) = EndsDeferred items
EndsDeferred (CollectMark t n ∷ items) = EndsDeferred items
EndsDeferred (RemovalItem number ∷ items) = items ≡ []

-- an alternative that marks choice points with one entry, at one of a kind whose terms are below its next number
pub record CanBeBranch (p : Placement) (kind : CapturedKind) (a : MeantAlternative) : Type 0 where
  pub last : EndsDeferred a.items
  pub over : Each (IsOverChoices (floor_in p) p.groups) a.items
  pub guard : is_guard_settled a.next (published_kind kind) ≡ true

-- what an alternative of the tree had left, and the numbers of the nodes on its branch
pub record IsDeferredAt (p : Placement) (deferred : List BranchItem) (base : ℕ) (branch : List ℕ) (next : ℕ) : Type 0 where
  pub nodes : AreNodesDown p.levels branch
  pub number : p.number ≡ next
  pub names : Each (NamesLevels p.levels) (items_meant deferred)
  pub settled : list_all (is_item_settled base) deferred ≡ true

-- what was taken off a region means these alternatives, from what was bound at the start
pub record IsTakenOff (p : Placement) (deferred : List BranchItem) (start : BoundThen) (c : Captured) (current : MeantAlternative)
    (choices : List MeantChoice) : Type 0 where
  pub captured : CaptureChoices c.items start (floor_in p) c.choices.items choices
  pub goes_on : let under = bound_under start choices in MeansAlternative c.items under.bound under.next (floor_in p + length choices) c.current
      current
  pub on_top : CanBeBranch p Choice current
  pub each : Each (λ m. Each (CanBeBranch p m.kind) m.alternatives) choices
  pub groups : p.groups ≡ map (published_group p deferred) (reverse choices)

-- bodies mean it, wherever it is put
abbrev pub MeanPublished : Captured → List BranchItem → ℕ → List ℕ → ℕ → List Body → Type 0
MeanPublished c deferred base branch next bodies = (p : Placement) (start : BoundThen) (current : MeantAlternative) (choices : List MeantChoice)
    → IsBoundAtStart base start → IsDeferredAt p deferred base branch next → IsTakenOff p deferred start c current choices
    → MeanRun p base start.bound bodies (published_entry p deferred Choice current)
