-- The steps by which a region is taken off.
use Rattle.std.specs.Prelude.{◌≡◌, ◌⊎◌, ℕ, ◌≤◌, Bool, List, [], ◌∷◌, ◌++◌, length, map, slice_get, IsSomeAnd, Option, Some, None, option_to_list}
use Rattle.au_term.specs.declared.segment.Binding.{Binding}
use Rattle.au_model.specs.Terms.Named.{NamedTerm}
use Rattle.au_model.specs.Terms.Each.{Each}
use Rattle.run_model.specs.Machine.Entries.{Entry}
use Rattle.run_model.specs.Machine.Items.{Item, GoalItem, CatchMark, CollectMark, RemovalItem}
use Rattle.binding_array.specs.declared.cell.BindingCell.{BindingCell}
use Rattle.cell_store.specs.StoreView.{Moment, StoreView, IsValueIn, meaning}
use Rattle.region_split.specs.Candidates.{entries_of_clauses}
use Rattle.region_split.specs.ChoicePoints.{height_of_cut, alternative_entries, IsCatching, IsCollecting}
use Rattle.region_split.specs.QueryEnds.{StandsForNoEnd}
use Rattle.region_split.specs.Regions.{RegionView, region_setting, entries_of, heights_of, items_here, continuation_here, IsPositionIn}
use Rattle.region_split.specs.Solutions.{SolutionView}
use Rattle.region_split.specs.SolutionTrials.{AreSolutionsHere}
use Rattle.region_split.specs.declared.choice.Alternatives.{Alternatives}
use Rattle.region_split.specs.declared.choice.Alternatives.TheVariants.{Solutions}
use Rattle.region_split.specs.declared.choice.ChoicePoint.{ChoicePoint}
use Rattle.region_split.specs.declared.choice.Trial.{Trial}
use Rattle.region_split.specs.declared.frame.Position.{Position}
use Rattle.branch_bindings.specs.Extensions.{ExtendsBy}
use Rattle.region_capture.specs.CapturedItems.{ItemLists, HasItems, AddsItems}
use Rattle.region_capture.specs.CapturedMeanings.{captured_bindings, MeantAlternative, meant_entry, AreMeant, IsKindBelow}
use Rattle.region_capture.specs.CapturedChoices.{MeantChoice, group_entries, IsAloneOf}
use Rattle.region_capture.specs.CapturedRegions.{bound_at}
use Rattle.region_capture.specs.KeptLevels.{SeesBelow, HasResultsFrom, KeepsChoice}
use Rattle.region_capture.specs.declared.captured.CapturedAlternative.{CapturedAlternative}
use Rattle.region_capture.specs.declared.captured.CapturedChoice.{CapturedChoice}
use Rattle.region_capture.specs.declared.captured.CapturedKind.{CapturedKind}
use Rattle.region_capture.specs.declared.captured.CapturedKind.TheVariants.{Choice}

-- a moment that is marked over so many other marks
pub record IsMarkedOver (st : StoreView) (mark : ℕ) (m : Moment) : Type 0 where
  pub before : List Moment
  pub after : List Moment
  pub are : st.marks ≡ before ++ m ∷ after
  pub over : mark ≡ length before

-- bindings that made what is bound of what was bound at a mark, with as many variables or more
abbrev pub AreWrittenSince : StoreView → ℕ → List Binding → Type 0
AreWrittenSince st mark bs = (m : Moment) → IsMarkedOver st mark m → ExtendsBy m.bound st.now.bound st.now.next (captured_bindings bs) × (m.next ≤ st.now.next)

-- and of what was bound at the floor
abbrev pub AreWrittenOverFloor : StoreView → List Binding → Type 0
AreWrittenOverFloor st bs = ExtendsBy st.floor.bound st.now.bound st.now.next (captured_bindings bs)

-- what is left at a position was written down, with the bindings since a mark
pub record CapturesPosition (r : RegionView) (mark : ℕ) (p : Position) (old new : ItemLists) (a : CapturedAlternative) : Type 0 where
  pub items : HasItems new a.first (items_here r p)
  pub next : a.next ≡ r.store.now.next
  pub bindings : AreWrittenSince r.store mark a.bindings
  pub adds : AddsItems old new

-- the same, where a position was reached
abbrev pub CapturesReached : RegionView → ℕ → Option Position → ItemLists → ItemLists → Option CapturedAlternative → Type 0
CapturesReached r mark None old new None = new ≡ old
CapturesReached r mark None old new (Some a) = ⊥
CapturesReached r mark (Some p) old new None = ⊥
CapturesReached r mark (Some p) old new (Some a) = CapturesPosition r mark p old new a

-- what was tried was undone: the choice points are there with their marks, and stand for what they stood for
pub record ComesBack (old new : RegionView) : Type 0 where
  pub entries : (named : List NamedTerm) → entries_of named new ≡ entries_of named old
  pub heights : (named : List NamedTerm) (n : ℕ) → n ≤ length old.choices → height_of_cut (heights_of named new) n ≡ height_of_cut (heights_of named old) n
  pub choices : new.choices ≡ old.choices
  pub marks : new.store.marks ≡ old.store.marks
  pub now : new.store.now ≡ old.store.now
  pub text : new.text ≡ old.text

-- a catch or a findall
abbrev pub IsGuarding : Alternatives → Type 0
IsGuarding alternatives = IsCatching alternatives ⊎ IsCollecting alternatives

-- there is one over so many choice points
abbrev pub IsGuardAt : List ChoicePoint → ℕ → Type 0
IsGuardAt choices over = IsSomeAnd (slice_get choices over) (λ c. IsGuarding c.alternatives)

-- an item that marks such a one, if any
abbrev pub HasMarkAt : List ChoicePoint → Item ℕ → Type 0
HasMarkAt choices (GoalItem t c) = Unit {0}
HasMarkAt choices (CatchMark over) = IsGuardAt choices over
HasMarkAt choices (CollectMark t over) = IsGuardAt choices over
HasMarkAt choices (RemovalItem number) = Unit {0}

abbrev pub HasMarksAt : List ChoicePoint → MeantAlternative → Type 0
HasMarksAt choices m = Each (HasMarkAt choices) m.items

-- of some entries on top of what stands, of a kind, those before others were written down as alternatives
pub record CapturesUpTo (kind : CapturedKind) (old new : RegionView) (lists more : ItemLists) (all left : List NamedTerm → List Entry)
    (taken : List CapturedAlternative) : Type 0 where
  pub meant : List MeantAlternative
  pub are : AreMeant more old.store.now.bound old.store.now.next (length old.choices) taken meant
  pub entries : (named : List NamedTerm) → all named ≡ map (meant_entry kind (heights_of named old) named) meant ++ left named
  pub marked : Each (HasMarksAt old.choices) meant
  pub adds : AddsItems lists more
  pub back : ComesBack old new

-- the entries of clauses with these numbers that are tried now, before what follows at a position
abbrev pub clause_entries_here : RegionView → BindingCell → Position → List ℕ → List NamedTerm → List Entry
clause_entries_here r goal after numbers named =
    entries_of_clauses r.text (meaning r.store goal) r.store.now.next (length (entries_of named r)) (continuation_here named r after) numbers

-- a clause was tried and undone: it was captured before any others that are left
pub record CapturesClause (old new : RegionView) (lists more : ItemLists) (t : Trial) (o : Option CapturedAlternative) : Type 0 where
  pub captures : (left : List ℕ)
      → CapturesUpTo Choice old new lists more (clause_entries_here old t.goal t.after (t.clause ∷ left)) (clause_entries_here new t.goal t.after left) (option_to_list o)
  pub goal : IsValueIn new.store t.goal
  pub after : IsPositionIn new t.after

-- no entry is left
abbrev pub no_entries : List NamedTerm → List Entry
no_entries named = []

abbrev pub CapturesClauses : RegionView → RegionView → ItemLists → ItemLists → Trial → List ℕ → List CapturedAlternative → Type 0
CapturesClauses old new lists more t left taken =
    CapturesUpTo Choice old new lists more (clause_entries_here old t.goal t.after (t.clause ∷ left)) no_entries taken

-- the entries of alternatives over what stands now, before what follows at a position
abbrev pub entries_here : RegionView → Alternatives → Position → List NamedTerm → List Entry
entries_here r alternatives after named =
    alternative_entries (region_setting named r) r.store.now (length (entries_of named r)) (continuation_here named r after) alternatives

abbrev pub AreSolutions : Alternatives → Type 0
AreSolutions alternatives = (left : List SolutionView) × (alternatives ≡ Solutions left)

-- a solution was tried and undone, before those that are left
pub record CapturesSolution (old new : RegionView) (lists more : ItemLists) (solution : SolutionView) (left : List SolutionView)
    (after : Position) (o : Option CapturedAlternative) (others : List SolutionView) : Type 0 where
  pub same : others ≡ left
  pub captures : let all = entries_here old (Solutions (solution ∷ left)) after in
      CapturesUpTo Choice old new lists more all (entries_here new (Solutions left) after) (option_to_list o)
  pub there : AreSolutionsHere new left
  pub position : IsPositionIn new after

abbrev pub CapturesSolutions : RegionView → RegionView → ItemLists → ItemLists → List SolutionView → Position → List CapturedAlternative → Type 0
CapturesSolutions old new lists more solutions after taken =
    CapturesUpTo Choice old new lists more (entries_here old (Solutions solutions) after) no_entries taken

-- one alternative, which goes on at a position with nothing bound
pub record CapturesFollowing (r : RegionView) (lists more : ItemLists) (after : Position) (next : ℕ) (taken : List CapturedAlternative) : Type 0 where
  pub alternative : CapturedAlternative
  pub is : taken ≡ alternative ∷ []
  pub items : HasItems more alternative.first (items_here r after)
  pub bindings : alternative.bindings ≡ []
  pub next_is : alternative.next ≡ next
  pub adds : AddsItems lists more

-- alternatives that go on at a position were written down
pub record CapturesGroup (old new : RegionView) (lists more : ItemLists) (alternatives : Alternatives) (after : Position)
    (kind : CapturedKind) (taken : List CapturedAlternative) : Type 0 where
  pub captures : CapturesUpTo kind old new lists more (entries_here old alternatives after) no_entries taken
  pub alone : IsAloneOf kind (length taken)
  pub guard : IsGuarding alternatives → length taken ≡ 1
  pub terms : (a : CapturedAlternative) → taken ≡ a ∷ [] → IsKindBelow a.next kind
  pub results : HasResultsFrom old.store.now.next kind

-- the newest choice point is no end of a query
abbrev pub HasOwnOnTop : RegionView → Type 0
HasOwnOnTop r = (cs : List ChoicePoint) (c : ChoicePoint) → r.choices ≡ cs ++ c ∷ [] → StandsForNoEnd c

-- the newest mark is of a moment with so many variables or less
abbrev pub HasNewestBelow : RegionView → ℕ → Type 0
HasNewestBelow r count = (before : List Moment) (m : Moment) → r.store.marks ≡ before ++ m ∷ [] → m.next ≤ count

-- the newest choice point was taken off, and written down; what it has left was seen beside what had been seen
pub record CapturesNewest (old new : RegionView) (lists more : ItemLists) (was seen : List Bool) (c : CapturedChoice) : Type 0 where
  pub meant : MeantChoice
  pub captures : (before : List Moment) (under : Moment) → new.store.marks ≡ before ++ under ∷ []
      → KeepsChoice more (bound_at under) (length new.choices) seen c meant
  pub sees : SeesBelow new.store.now.next was seen
  pub long : length seen ≡ length was
  pub came : meant.came ≡ bound_at new.store.now
  pub marked : old.store.marks ≡ new.store.marks ++ new.store.now ∷ []
  pub entries : (named : List NamedTerm) → entries_of named old ≡ group_entries (heights_of named old) named meant ++ entries_of named new
  pub heights : (named : List NamedTerm) (n : ℕ) → n ≤ length new.choices → height_of_cut (heights_of named new) n ≡ height_of_cut (heights_of named old) n
  pub newest : ChoicePoint
  pub guard : IsGuarding newest.alternatives → length meant.alternatives ≡ 1
  pub marks : Each (HasMarksAt old.choices) meant.alternatives
  pub choices : old.choices ≡ new.choices ++ newest ∷ []
  pub text : new.text ≡ old.text
  pub adds : AddsItems lists more
