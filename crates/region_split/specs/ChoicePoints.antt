-- What a choice point stands for: entries of the sequential machine.
use Rattle.std.specs.Prelude.{◌≡◌, ◌<◌, ℕ, Bool, true, suc, ◌+◌, ◌-◌, ◌≤◌, List, [], ◌∷◌, ◌++◌, length, map, get_or, slice_get, IsSomeAnd, None}
use Rattle.au_term.specs.Term.{Term}
use Rattle.au_model.specs.Terms.Named.{NamedTerm}
use Rattle.au_model.specs.Terms.Substitutions.{resolve}
use Rattle.run_model.specs.Machine.Items.{Item, GoalItem, CatchMark, CollectMark, RemovalItem, Continuation, with_next, resolve_continuation}
use Rattle.run_model.specs.Machine.Entries.{Entry, PlainEntry, CatchEntry, FindallEntry, EndEntry, solution_entries}
use Rattle.clause_compile.specs.Places.{CodeView}
use Rattle.binding_array.specs.Represented.{cell_term}
use Rattle.binding_array.specs.declared.cell.BindingCell.{BindingCell}
use Rattle.cell_store.specs.StoreView.{Moment}
use Rattle.cell_store.specs.Values.{IsValue}
use Rattle.region_split.specs.Frames.{LeftItem, PlacedGoal, OwnItem, left_items, items_at, AreLeftScoped}
use Rattle.clause_index.specs.Cursors.{IsCursorOf, numbers_left}
use Rattle.clause_index.specs.declared.key.HeadKey.{HeadKey}
use Rattle.region_split.specs.Texts.{TextView}
use Rattle.region_split.specs.Candidates.{entries_of_clauses}
use Rattle.au_model.specs.Terms.Each.{Each}
use Rattle.region_split.specs.Solutions.{SolutionView, solution_at, IsSolutionAt}
use Rattle.region_split.specs.ResultLists.{with_copy, AreResultsFrom}
use Rattle.region_split.specs.declared.choice.Alternatives.{Alternatives}
use Rattle.region_split.specs.declared.choice.Alternatives.TheVariants.{Clauses, Solutions, Elsewhere, Catch, Findall, QueryEnd}
use Rattle.region_split.specs.declared.choice.ChoicePoint.{ChoicePoint}
use Rattle.region_split.specs.declared.frame.Frame.{Frame}
use Rattle.region_split.specs.declared.frame.FrameItem.{FrameItem}
use Rattle.region_split.specs.declared.frame.FrameItem.TheVariants.{Goal, Call, Cut, True, Fail, CatchEnd, Collect, Removal}
use Rattle.region_split.specs.declared.text.BodyItem.{BodyItem}
use Rattle.region_split.specs.declared.frame.Position.{Position}

-- what does not change while choice points come and go: the text, the store's own text and further names, the state at its floor, the
-- frames, and what the query's named variables stand for before anything is bound
pub record RegionSetting : Type 0 where
  pub text : TextView
  pub program : CodeView
  pub names : List (List ℕ)
  pub floor : Moment
  pub frames : List Frame
  pub named : List NamedTerm

-- the text with the terms that were made at a moment
abbrev pub code_at : RegionSetting → Moment → CodeView
code_at s m = record { names = s.program.names ++ s.names; places = s.program.places ++ m.made }

-- what a value stood for at a moment
abbrev pub meant_at : RegionSetting → Moment → BindingCell → Term
meant_at s m c = resolve m.bound (cell_term (code_at s m) c)

-- how many entries so many of the choice points stand for, the oldest ones
abbrev pub height_of_cut : List ℕ → ℕ → ℕ
height_of_cut heights cut = get_or heights cut 0

-- an item with its scope by a height
abbrev pub by_height : List ℕ → Item ℕ → Item ℕ
by_height heights (GoalItem t cut) = GoalItem t (height_of_cut heights cut)
by_height heights (CatchMark cut) = CatchMark (height_of_cut heights cut)
by_height heights (CollectMark t cut) = CollectMark t (height_of_cut heights cut)
by_height heights (RemovalItem number) = RemovalItem number

-- what was left to do at a position at a moment
abbrev pub continuation_at : RegionSetting → List ℕ → Moment → Position → Continuation ℕ
continuation_at s heights m p =
    resolve_continuation m.bound (record { items = map (by_height heights) (items_at (code_at s m) s.text.bodies s.frames p); named = s.named; next = m.next })

-- the entries of alternatives, over so many entries, before what follows: one for each clause that is to be tried and whose
-- head unifies with the goal, and for each solution whose equations unify; one for what goes on elsewhere, for a catch, for a findall
-- and for the end of a query
abbrev pub alternative_entries : RegionSetting → Moment → ℕ → Continuation ℕ → Alternatives → List Entry
alternative_entries s m height f (Clauses goal clause left) = entries_of_clauses s.text (meant_at s m goal) m.next height f (clause ∷ numbers_left s.text.heads left)
alternative_entries s m height f (Solutions left) = solution_entries height f (map (solution_at (code_at s m) m.bound) left)
alternative_entries s m height f Elsewhere = PlainEntry f ∷ []
alternative_entries s m height f (Catch catcher recovery) = CatchEntry (meant_at s m catcher) (meant_at s m recovery) f ∷ []
alternative_entries s m height f (Findall list results) = FindallEntry results.terms (meant_at s m list) (with_next results.next f) ∷ []
alternative_entries s m height f QueryEnd = EndEntry None ∷ []

-- the entries of choice points, and how many those of none, of the oldest one, of the two oldest, and so on are
pub record Standing : Type 0 where
  pub entries : List Entry
  pub heights : List ℕ

-- the entries of a choice point that was made at a moment, over those of older ones
abbrev pub choice_entries : RegionSetting → Standing → ChoicePoint → Moment → List Entry
choice_entries s below c m = alternative_entries s m (length below.entries) (continuation_at s below.heights m c.after) c.alternatives

abbrev pub with_entries_on_top : List Entry → Standing → Standing
with_entries_on_top entries below = record { entries = entries ++ below.entries; heights = below.heights ++ length (entries ++ below.entries) ∷ [] }

-- choice points over others, the oldest first, each with the moment at which it was made
abbrev pub standing_over : RegionSetting → Standing → List ChoicePoint → List Moment → Standing
standing_over s below [] moments = below
standing_over s below (c ∷ choices) [] = below
standing_over s below (c ∷ choices) (m ∷ moments) = standing_over s (with_entries_on_top (choice_entries s below c m) below) choices moments

-- alternatives that are no clauses
abbrev pub HaveNoClause : Alternatives → Type 0
HaveNoClause (Clauses goal clause left) = ⊥
HaveNoClause (Solutions left) = Unit {0}
HaveNoClause Elsewhere = Unit {0}
HaveNoClause (Catch catcher recovery) = Unit {0}
HaveNoClause (Findall list results) = Unit {0}
HaveNoClause QueryEnd = Unit {0}

-- alternatives of which no solution is left
abbrev pub HaveNoSolution : Alternatives → Type 0
HaveNoSolution (Clauses goal clause left) = Unit {0}
HaveNoSolution (Solutions left) = left ≡ []
HaveNoSolution Elsewhere = Unit {0}
HaveNoSolution (Catch catcher recovery) = Unit {0}
HaveNoSolution (Findall list results) = Unit {0}
HaveNoSolution QueryEnd = Unit {0}

-- the first solution was taken off, and it is said to be the last only where none is left
pub record HaveSolution (old new : Alternatives) (solution : SolutionView) (is_last : Bool) : Type 0 where
  pub rest : List SolutionView
  pub was : old ≡ Solutions (solution ∷ rest)
  pub is : new ≡ Solutions rest
  pub last : is_last ≡ true → rest ≡ []

-- how often alternatives can be taken, and how often all choice points can
abbrev pub takes_left : List HeadKey → Alternatives → ℕ
takes_left heads (Clauses goal clause left) = suc (length (numbers_left heads left))
takes_left heads (Solutions left) = length left
takes_left heads Elsewhere = 0
takes_left heads (Catch catcher recovery) = 0
takes_left heads (Findall list results) = 0
takes_left heads QueryEnd = 0

abbrev pub all_takes_left : List HeadKey → List ChoicePoint → ℕ
all_takes_left heads [] = 0
all_takes_left heads (c ∷ choices) = suc (takes_left heads c.alternatives) + all_takes_left heads choices

abbrev pub IsCollecting : Alternatives → Type 0
IsCollecting (Clauses goal clause left) = ⊥
IsCollecting (Solutions left) = ⊥
IsCollecting Elsewhere = ⊥
IsCollecting (Catch catcher recovery) = ⊥
IsCollecting (Findall list results) = Unit {0}
IsCollecting QueryEnd = ⊥

abbrev pub IsCatching : Alternatives → Type 0
IsCatching (Clauses goal clause left) = ⊥
IsCatching (Solutions left) = ⊥
IsCatching Elsewhere = ⊥
IsCatching (Catch catcher recovery) = Unit {0}
IsCatching (Findall list results) = ⊥
IsCatching QueryEnd = ⊥

-- there is a catch over so many choice points, or a findall
abbrev pub IsCatchAt : List ChoicePoint → ℕ → Type 0
IsCatchAt choices over = IsSomeAnd (slice_get choices over) (λ c. IsCatching c.alternatives)

abbrev pub IsFindallAt : List ChoicePoint → ℕ → Type 0
IsFindallAt choices over = IsSomeAnd (slice_get choices over) (λ c. IsCollecting c.alternatives)

-- the choice point of a mark is there: the newest that a cut there would leave
abbrev pub IsMarkOf : List ChoicePoint → ℕ → FrameItem → Type 0
IsMarkOf choices cut (Goal value) = Unit {0}
IsMarkOf choices cut (Call value) = Unit {0}
IsMarkOf choices cut Cut = Unit {0}
IsMarkOf choices cut True = Unit {0}
IsMarkOf choices cut Fail = Unit {0}
IsMarkOf choices cut CatchEnd = (0 < cut) × IsCatchAt choices (cut - 1)
IsMarkOf choices cut (Collect value) = (0 < cut) × IsFindallAt choices (cut - 1)
IsMarkOf choices cut (Removal number) = Unit {0}

abbrev pub IsMarkedIn : List ChoicePoint → LeftItem → Type 0
IsMarkedIn choices (PlacedGoal place base cut) = Unit {0}
IsMarkedIn choices (OwnItem item cut) = IsMarkOf choices cut item

-- each mark that is left has its choice point
abbrev pub AreMarked : List ChoicePoint → List LeftItem → Type 0
AreMarked choices [] = Unit {0}
AreMarked choices (i ∷ left) = IsMarkedIn choices i × AreMarked choices left

-- and so has each that is left where a choice point goes on, among those that are older
abbrev pub AreMarkedOver : List BodyItem → List Frame → List ChoicePoint → List ChoicePoint → Type 0
AreMarkedOver bodies frames below [] = Unit {0}
AreMarkedOver bodies frames below (c ∷ choices) = AreMarked below (left_items bodies frames c.after) × AreMarkedOver bodies frames (below ++ c ∷ []) choices

-- a findall with one more result
abbrev pub with_found : Term → Alternatives → Alternatives
with_found t (Clauses goal clause left) = Clauses goal clause left
with_found t (Solutions left) = Solutions left
with_found t Elsewhere = Elsewhere
with_found t (Catch catcher recovery) = Catch catcher recovery
with_found t (Findall list results) = Findall list (with_copy t results)
with_found t QueryEnd = QueryEnd

-- no choice point
abbrev pub nothing_standing : Standing
nothing_standing = record { entries = []; heights = 0 ∷ [] }

-- values that were there at a moment, and clauses of the text; the end of a query comes at the floor
abbrev pub AreAlternativesAt : RegionSetting → Moment → Alternatives → Type 0
AreAlternativesAt s m (Clauses goal clause left) = IsValue (code_at s m) m.next goal × (clause < length s.text.clauses) × IsCursorOf s.text.heads left
AreAlternativesAt s m (Solutions left) = Each (IsSolutionAt (code_at s m) m.next) left
AreAlternativesAt s m Elsewhere = Unit {0}
AreAlternativesAt s m (Catch catcher recovery) = IsValue (code_at s m) m.next catcher × IsValue (code_at s m) m.next recovery
AreAlternativesAt s m (Findall list results) = IsValue (code_at s m) m.next list × AreResultsFrom m.next results
AreAlternativesAt s m QueryEnd = m ≡ s.floor

-- a choice point over so many others, of which so many frames are kept: it keeps these and its own, and what it goes on
-- with cuts to those others alone
pub record IsChoiceOver (s : RegionSetting) (cut frames : ℕ) (c : ChoicePoint) (m : Moment) : Type 0 where
  pub own : c.after.frame ≤ c.frames
  pub older : frames ≤ c.frames
  pub scoped : AreLeftScoped (code_at s m) m.next cut (left_items s.text.bodies s.frames c.after)
  pub values : AreAlternativesAt s m c.alternatives

-- each choice point over those that are older, each with its moment
abbrev pub AreChoicesOver : RegionSetting → ℕ → ℕ → List ChoicePoint → List Moment → Type 0
AreChoicesOver s cut frames [] [] = Unit {0}
AreChoicesOver s cut frames [] (m ∷ moments) = ⊥
AreChoicesOver s cut frames (c ∷ choices) [] = ⊥
AreChoicesOver s cut frames (c ∷ choices) (m ∷ moments) = IsChoiceOver s cut frames c m × AreChoicesOver s (cut + 1) c.frames choices moments

-- how many frames choice points keep
abbrev pub frames_kept : ℕ → List ChoicePoint → ℕ
frames_kept frames [] = frames
frames_kept frames (c ∷ choices) = frames_kept c.frames choices
