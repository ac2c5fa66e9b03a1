-- Solutions that are tried in a region, and what a segment keeps of that.
use Rattle.std.specs.Prelude.{◌≡◌, List, Option, Some, None}
use Rattle.au_term.specs.declared.segment.Binding.{Binding}
use Rattle.au_term.specs.declared.segment.Segment.{Segment}
use Rattle.au_model.specs.Terms.Each.{Each}
use Rattle.au_model.specs.Terms.Substitutions.{Substitution}
use Rattle.au_model.specs.Terms.Unifier.{Equations, unifier}
use Rattle.clause_compile.specs.Places.{Keeps}
use Rattle.cell_store.specs.StoreView.{StoreView, IsComposition, text_at, text_in}
use Rattle.branch_bindings.specs.Extensions.{ExtendsBy}
use Rattle.branch_shapes.specs.ExtendedWays.{number_after, written_on}
use Rattle.region_capture.specs.CaptureSteps.{AreWrittenOverFloor}
use Rattle.region_split.specs.Regions.{RegionView, IsPositionIn}
use Rattle.region_split.specs.Solutions.{SolutionView}
use Rattle.region_split.specs.SolutionTrials.{AreAllSolved}
use Rattle.region_split.specs.StackOperations.{solution_here}
use Rattle.region_split.specs.declared.frame.Position.{Position}

-- the marks are those that were there, and so are the terms that were made at each
pub record KeepsMarked (old new : StoreView) : Type 0 where
  pub marks : new.marks ≡ old.marks
  pub kept : Each (λ m. Keeps (text_at old m) (text_at new m)) old.marks

-- equations were solved, and what is bound since the floor was written down; or they have no unifier
abbrev pub WritesSolvedOr : RegionView → RegionView → Equations → Option (List Binding) → Type 0
WritesSolvedOr old new es None = unifier es ≡ None
WritesSolvedOr old new es (Some bindings) = AreAllSolved old new es × AreWrittenOverFloor new.store bindings

-- a region that could go on at a position is as it was, but for names that its text may have got
pub record IsRegionTakenBack (old new : RegionView) (position : Position) : Type 0 where
  pub now : new.store.now ≡ old.store.now
  pub floor : new.store.floor ≡ old.store.floor
  pub text : new.text ≡ old.text
  pub keeps : Keeps (text_in old.store) (text_in new.store)
  pub there : IsPositionIn new position

-- the equations of a solution unify, and a segment with its variables leads from what was bound at the floor to that
pub record SolvesBy (r : RegionView) (solution : SolutionView) (segment : Segment) : Type 0 where
  pub further : Substitution
  pub unified : unifier (solution_here r solution).equations ≡ Some further
  pub after : Substitution
  pub composed : IsComposition r.store.now.bound further after
  pub leads : ExtendsBy r.store.floor.bound after (number_after segment) (written_on segment)
  pub base : segment.base ≡ r.store.now.next
  pub vars : segment.vars ≡ solution.variables

-- or they do not
abbrev pub SolvesOr : RegionView → SolutionView → Option Segment → Type 0
SolvesOr r solution None = unifier (solution_here r solution).equations ≡ None
SolvesOr r solution (Some segment) = SolvesBy r solution segment
