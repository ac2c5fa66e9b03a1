-- How a catcher takes a copy of a ball in a region, and the recovery is made from that.
use Rattle.std.specs.Prelude.{◌≡◌, ◌+◌, true, List, [], ◌∷◌, Option, Some, None, MatchOption}
use Rattle.au_term.specs.Term.{Term}
use Rattle.au_term.specs.declared.segment.Segment.{Segment}
use Rattle.au_model.specs.Terms.Copies.{copied, copy_takes}
use Rattle.au_model.specs.Terms.Substitutions.{Substitution, resolve}
use Rattle.au_model.specs.Terms.Unifier.{unifier}
use Rattle.cell_store.specs.StoreView.{Moment, IsComposition}
use Rattle.region_split.specs.Regions.{RegionView}
use Rattle.region_split.specs.Texts.{TextView}
use Rattle.task_region.specs.TaskLoads.{IsBoundOver}
use Rattle.tree_model.specs.Levels.{Place}
use Rattle.tree_nodes.specs.Bodies.{Body}
use Rattle.tree_nodes.specs.Rows.{Rows}
use Rattle.branch_shapes.specs.ExtendedWays.{LeadsOn, number_after}
use Rattle.task_stops.specs.Landings.{PassesOn, is_beside_sleeper}
use Rattle.task_stops.specs.LandingBodies.{IsRecoveryBody}

-- the unifier of a catcher and the copy of a ball, by what is bound at a moment
abbrev pub taken_over : Moment → Term → Term → Option Substitution
taken_over m catcher ball = unifier ((resolve m.bound catcher, copied ball m.next) ∷ [])

-- from what was bound at a moment, a segment leads to that with the unifier
pub record LeadsToTaken (m : Moment) (catcher ball : Term) (segment : Segment) : Type 0 where
  pub unifier : Substitution
  pub takes : taken_over m catcher ball ≡ Some unifier
  pub after : Substitution
  pub composed : IsComposition m.bound unifier after
  pub leads : LeadsOn m.bound after m.next segment
  pub base : segment.base ≡ m.next
  pub numbers : number_after segment ≡ m.next + copy_takes ball

abbrev pub TakesBall : Moment → Term → Term → Option Segment → Type 0
TakesBall m catcher ball None = taken_over m catcher ball ≡ None
TakesBall m catcher ball (Some segment) = LeadsToTaken m catcher ball segment

-- it does so in a region in which nothing but what is bound at these places is bound
pub record TakesBallOver (rows : Rows) (places : List Place) (text : TextView) (catcher ball : Term) (taken : Option Segment) : Type 0 where
  pub region : RegionView
  pub bound : IsBoundOver rows places text region
  pub takes : TakesBall region.store.now catcher ball taken

-- a body is made of the recovery that sleeps beside a place, where its catch takes the ball
abbrev pub RecoversBeside : Rows → Place → List Place → Term → Body → Type 0
RecoversBeside rows p above ball body = (is_beside_sleeper rows p ≡ true) × IsRecoveryBody rows p above ball body

-- where its catch takes the ball, and nothing is made where it does not
abbrev pub RecoversIfTaken : {B : Type 0} → (B → Body) → Rows → Place → List Place → Term → Option B → Type 0
RecoversIfTaken view rows p above ball made = MatchOption made (PassesOn rows p above ball) (λ b. RecoversBeside rows p above ball (view b))
