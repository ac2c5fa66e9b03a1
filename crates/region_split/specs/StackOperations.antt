-- What each operation on the frames and choice points of a region leaves of the entries that it stands for.
use Rattle.std.specs.Prelude.{◌≡◌, ℕ, ◌≤◌, ◌<◌, List, [], ◌∷◌, ◌++◌, length, take, ◌-◌, Some, slice_get, map}
use Rattle.au_model.specs.Terms.Named.{NamedTerm}
use Rattle.au_term.specs.Term.{Term}
use Rattle.run_model.specs.Programs.Clauses.{Clause}
use Rattle.run_model.specs.Goals.Outcomes.{Solution, clause_solution}
use Rattle.run_model.specs.Machine.Items.{Item, before, goals_at, resolve_item}
use Rattle.run_model.specs.Machine.Entries.{Entry, lowest, solution_entry, collected}
use Rattle.cell_store.specs.StoreView.{Moment, AddsText, text_in, with_mark, with_marks, new_store, IsValueIn, meaning}
use Rattle.region_split.specs.Texts.{TextView}
use Rattle.region_split.specs.Solutions.{SolutionView, solution_at, IsSolutionAt}
use Rattle.region_split.specs.Frames.{own_body_left, scoped_item}
use Rattle.region_split.specs.ChoicePoints.{height_of_cut, by_height, HaveNoClause, HaveNoSolution, IsFindallAt, all_takes_left}
use Rattle.region_split.specs.Regions.{RegionView, left_here, continuation_here, standing, entries_of, heights_of, position_entry, entries_on, IsPositionIn, IsPositionOver, AreAlternativesIn}
use Rattle.region_split.specs.declared.choice.Alternatives.{Alternatives}
use Rattle.region_split.specs.declared.choice.ChoicePoint.{ChoicePoint}
use Rattle.region_split.specs.declared.choice.Trial.{Trial}
use Rattle.region_split.specs.declared.frame.Frame.{Frame}
use Rattle.region_split.specs.declared.frame.FrameItem.{FrameItem}
use Rattle.region_split.specs.declared.frame.Position.{Position}

-- no frame and no choice point
abbrev pub new_region : TextView → RegionView
new_region text = record { text = text; store = new_store text.code; frames = []; choices = [] }

-- what was left to do up to a frame is left there still, in each entry and at each position
pub record KeepsPositions (old new : RegionView) (frame : ℕ) : Type 0 where
  pub position : (cut : ℕ) (p : Position) → p.frame ≤ frame → IsPositionOver old cut p → IsPositionOver new cut p
  pub same : (named : List NamedTerm) (p : Position) → p.frame ≤ frame → IsPositionIn old p → position_entry named new p ≡ position_entry named old p

-- a frame was made, in place of those in which nothing goes on: it has its own body and then what was left where it goes on
pub record AddsFrame (old new : RegionView) (f : Frame) (number : ℕ) : Type 0 where
  pub there : number ≤ length new.frames
  pub younger : f.after.frame < number
  pub left : (at : ℕ) → left_here new (record { frame = number; at = at }) ≡ own_body_left old.text.bodies f.body f.cut at ++ left_here old f.after
  pub stands : (named : List NamedTerm) → standing named new ≡ standing named old
  pub keeps : KeepsPositions old new f.after.frame
  pub others : new ≡ record old { frames = new.frames }

-- items were put before what follows at a position, in frames of their own: what they are depends on the heights alone
pub record PutsBefore (old new : RegionView) (items : List ℕ → List (Item ℕ)) (cut : ℕ) (after p : Position) : Type 0 where
  pub position : IsPositionOver new cut p
  pub goes_on : (named : List NamedTerm) → continuation_here named new p ≡ before (items (heights_of named old)) (continuation_here named old after)
  pub stands : (named : List NamedTerm) → standing named new ≡ standing named old
  pub older : after.frame ≤ p.frame
  pub keeps : KeepsPositions old new after.frame
  pub others : new ≡ record old { frames = new.frames }

-- goals in one scope by the heights, as they are now
abbrev pub goals_here : RegionView → List Term → ℕ → List ℕ → List (Item ℕ)
goals_here r goals cut heights = map (resolve_item r.store.now.bound) (goals_at (height_of_cut heights cut) goals)

-- goals were copied in and put before what follows at a position; no variable was bound or taken
pub record PutsGoals (old new : RegionView) (goals : List Term) (cut : ℕ) (after p : Position) : Type 0 where
  pub position : IsPositionOver new cut p
  pub goes_on : (named : List NamedTerm) → continuation_here named new p ≡ before (goals_here old goals cut (heights_of named old)) (continuation_here named old after)
  pub stands : (named : List NamedTerm) → standing named new ≡ standing named old
  pub older : after.frame ≤ p.frame
  pub keeps : KeepsPositions old new after.frame
  pub adds : AddsText old.store new.store
  pub others : new ≡ record old { store = new.store; frames = new.frames }

-- an item by the heights, as it is now
abbrev pub item_here : RegionView → FrameItem → ℕ → List ℕ → List (Item ℕ)
item_here r item cut heights = resolve_item r.store.now.bound (by_height heights (scoped_item (text_in r.store) item cut)) ∷ []

-- a choice point came on top: its entries come over those that were there
pub record AddsChoice (old new : RegionView) (alternatives : Alternatives) (after : Position) : Type 0 where
  pub choice : ChoicePoint
  pub is : (choice.alternatives ≡ alternatives) × (choice.after ≡ after)
  pub entries : (named : List NamedTerm) → entries_of named new ≡ entries_on named old choice old.store.now ++ entries_of named old
  pub heights : (named : List NamedTerm) → height_of_cut (heights_of named new) (length old.choices) ≡ length (entries_of named old)
  pub older : (named : List NamedTerm) (n : ℕ) → n ≤ length old.choices → height_of_cut (heights_of named new) n ≡ height_of_cut (heights_of named old) n
  pub keeps : KeepsPositions old new (length old.frames)
  pub others : new ≡ record old { store = with_mark old.store; choices = old.choices ++ choice ∷ [] }

-- choice points were cut down to so many: the entries of these are left, and nothing is undone
pub record CutsTo (old new : RegionView) (kept : ℕ) : Type 0 where
  pub entries : (named : List NamedTerm) → entries_of named new ≡ lowest (height_of_cut (heights_of named old) kept) (entries_of named old)
  pub position : (p : Position) → IsPositionOver old kept p → IsPositionIn new p
  pub same : (named : List NamedTerm) (p : Position) → IsPositionOver old kept p → position_entry named new p ≡ position_entry named old p
  pub text : new.text ≡ old.text
  pub store : new.store ≡ with_marks kept old.store
  pub frames : new.frames ≡ old.frames
  pub choices : new.choices ≡ take kept old.choices
  pub heights : (named : List NamedTerm) (n : ℕ) → n ≤ kept → height_of_cut (heights_of named new) n ≡ height_of_cut (heights_of named old) n
  pub count : length new.choices ≡ kept

-- the newest choice point was taken off, and all that was bound and made since was undone: its entries were the first, and
-- it can go on
pub record TakesNewest (old new : RegionView) (c : ChoicePoint) : Type 0 where
  pub entries : (named : List NamedTerm) → entries_of named old ≡ entries_on named new c new.store.now ++ entries_of named new
  pub position : IsPositionIn new c.after
  pub alternatives : AreAlternativesIn new c.alternatives
  pub heights : (named : List NamedTerm) (n : ℕ) → n ≤ length new.choices → height_of_cut (heights_of named new) n ≡ height_of_cut (heights_of named old) n
  pub choices : old.choices ≡ new.choices ++ c ∷ []
  pub marked : old.store.marks ≡ new.store.marks ++ new.store.now ∷ []
  pub store : new.store ≡ record old.store { now = new.store.now; marks = new.store.marks }
  pub text : new.text ≡ old.text
  pub frames : new.frames ≡ old.frames

-- the newest choice point was taken off, and nothing was undone: its entries, of some moment, were the first
pub record DropsNewest (old new : RegionView) (c : ChoicePoint) : Type 0 where
  pub moment : Moment
  pub marked : old.store.marks ≡ new.store.marks ++ moment ∷ []
  pub entries : (named : List NamedTerm) → entries_of named old ≡ entries_on named new c moment ++ entries_of named new
  pub choices : old.choices ≡ new.choices ++ c ∷ []
  pub cuts : CutsTo old new (length new.choices)

-- the newest choice point is none over clauses, or there is none
abbrev pub HasNoClauseOnTop : RegionView → Type 0
HasNoClauseOnTop r = (cs : List ChoicePoint) (c : ChoicePoint) → r.choices ≡ cs ++ c ∷ [] → HaveNoClause c.alternatives

-- the entry of a clause that is tried, in whose body a cut leaves so many choice points
abbrev pub trial_entries : List NamedTerm → RegionView → Trial → ℕ → Clause → List Entry
trial_entries named r t cut clause =
    solution_entry (height_of_cut (heights_of named r) cut) (continuation_here named r t.after) (clause_solution (meaning r.store t.goal) r.store.now.next clause)

-- the clause that was next was taken off the newest choice point, at the store of the time when it came: the entry of that
-- clause, if its head unifies, was the first. Where none after it may match, the choice point is gone
pub record TakesClause (old new : RegionView) (t : Trial) : Type 0 where
  pub clause : Clause
  pub is : slice_get old.text.clauses t.clause ≡ Some clause
  pub position : IsPositionOver new (length old.choices - 1) t.after
  pub goal : IsValueIn new.store t.goal
  pub entries : (named : List NamedTerm) → entries_of named old ≡ trial_entries named new t (length old.choices - 1) clause ++ entries_of named new
  pub older : List Moment
  pub marked : old.store.marks ≡ older ++ new.store.now ∷ []
  pub store : new.store ≡ record old.store { now = new.store.now; marks = new.store.marks }
  pub many : length old.choices - 1 ≤ length new.choices
  pub fewer : all_takes_left new.text.heads new.choices < all_takes_left old.text.heads old.choices
  pub text : new.text ≡ old.text
  pub frames : new.frames ≡ old.frames

-- the newest choice point has no solution, or there is none
abbrev pub HasNoSolutionOnTop : RegionView → Type 0
HasNoSolutionOnTop r = (cs : List ChoicePoint) (c : ChoicePoint) → r.choices ≡ cs ++ c ∷ [] → HaveNoSolution c.alternatives

-- a solution whose values are there now
abbrev pub IsSolutionHere : RegionView → SolutionView → Type 0
IsSolutionHere r solution = IsSolutionAt (text_in r.store) r.store.now.next solution

-- what it stands for now
abbrev pub solution_here : RegionView → SolutionView → Solution
solution_here r solution = solution_at (text_in r.store) r.store.now.bound solution

-- the entry of a solution before what follows at a position, in whose goals a cut leaves so many choice points
abbrev pub solved_entries : List NamedTerm → RegionView → SolutionView → ℕ → Position → List Entry
solved_entries named r solution cut after = solution_entry (height_of_cut (heights_of named r) cut) (continuation_here named r after) (solution_here r solution)

-- the first solution that was left was taken off the newest choice point, at the store of the time when it came: the entry of
-- that solution, if its equations unify, was the first. Where none is left, the choice point is gone
pub record TakesSolution (old new : RegionView) (solution : SolutionView) (after : Position) : Type 0 where
  pub position : IsPositionOver new (length old.choices - 1) after
  pub there : IsSolutionHere new solution
  pub entries : (named : List NamedTerm) → entries_of named old ≡ solved_entries named new solution (length old.choices - 1) after ++ entries_of named new
  pub many : length old.choices - 1 ≤ length new.choices
  pub fewer : all_takes_left new.text.heads new.choices < all_takes_left old.text.heads old.choices
  pub text : new.text ≡ old.text
  pub floor : new.store.floor ≡ old.store.floor

-- there is a findall over so many choice points
abbrev pub HasFindallAt : RegionView → ℕ → Type 0
HasFindallAt r over = IsFindallAt r.choices over

-- a result was added to the findall over so many choice points
pub record AddsResult (old new : RegionView) (over : ℕ) (t : Term) : Type 0 where
  pub entries : (named : List NamedTerm) → entries_of named new ≡ collected (height_of_cut (heights_of named old) over) t (entries_of named old)
  pub heights : (named : List NamedTerm) → heights_of named new ≡ heights_of named old
  pub position : (cut : ℕ) (p : Position) → IsPositionOver old cut p → IsPositionOver new cut p
  pub many : length new.choices ≡ length old.choices
  pub others : new ≡ record old { choices = new.choices }

-- the store went on from the same marks and floor: the choice points stand for what they stood for, and positions stay
pub record StaysStanding (old new : RegionView) : Type 0 where
  pub stands : (named : List NamedTerm) → standing named new ≡ standing named old
  pub position : (cut : ℕ) (p : Position) → IsPositionOver old cut p → IsPositionOver new cut p
  pub marks : new.store.marks ≡ old.store.marks
  pub floor : new.store.floor ≡ old.store.floor
  pub others : new ≡ record old { store = new.store }
