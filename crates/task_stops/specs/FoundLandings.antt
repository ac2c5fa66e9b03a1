-- What is found of where a ball lands.
use Rattle.std.specs.Prelude.{◌≡◌, ℕ, true, is_some, IsSome, List, [], ◌∷◌, Option, Some, None}
use Rattle.std.specs.Arc.{arc_value}
use Rattle.au_term.specs.Term.{Term}
use Rattle.run_model.specs.Programs.Jobs.{Job}
use Rattle.tree_model.specs.Legality.{taken_at}
use Rattle.tree_model.specs.LegalTrees.{IsLegalTree}
use Rattle.tree_model.specs.Levels.{Place}
use Rattle.tree_model.specs.TreeStates.{TreeState}
use Rattle.tree_nodes.specs.TreeTables.{NodesView, IsTableOf}
use Rattle.branch_reading.specs.Readings.{reading}
use Rattle.tree_nodes.specs.Bodies.{body_view}
use Rattle.tree_nodes.specs.Rows.{Rows, cell_at, scope_number}
use Rattle.task_region.specs.PlacesUp.{AreAllUp, LeadsUp, items_at_place}
use Rattle.branch_shapes.specs.RestBodies.{items_behind}
use Rattle.task_stops.specs.Landings.{AreReadableBeside, innermost_catch, landing}
use Rattle.task_stops.specs.LandingBodies.{IsLandingBody, IsRecoveryBody}
use Rattle.task_stops.specs.declared.landing.BallLanding.{BallLanding}

-- the first catch on the way up that takes a ball, with the body of its recovery, or that none does
pub record IsCaughtAt (rows : Rows) (places : List Place) (ball : Term) (first : Option ℕ) (l : BallLanding) : Type 0 where
  pub place : Place
  pub above : List Place
  pub lands : landing rows ball first places ≡ place ∷ above
  pub scope : scope_number l.scope ≡ place.node
  pub body : IsRecoveryBody rows place above ball (body_view (arc_value l.body))

abbrev pub FindsCaught : Rows → List Place → Term → Option ℕ → Option BallLanding → Type 0
FindsCaught rows places ball first None = landing rows ball first places ≡ []
FindsCaught rows places ball first (Some l) = IsCaughtAt rows places ball first l

-- places on the way up, to the top
abbrev pub LeadToTop : Rows → List Place → Type 0
LeadToTop rows places = (from : Option Place) × LeadsUp rows places from None

-- all catches that sleep on the way up from a place can be read
abbrev pub HasReadableCatches : Rows → Place → Type 0
HasReadableCatches rows a = (places : List Place) → AreAllUp rows a places → AreReadableBeside rows places

-- so it is above what is out to a worker in a legal tree
pub record CanLandBalls (rows : Rows) (a : Place) : Type 0 where
  pub there : IsSome (cell_at rows a)
  pub readable : HasReadableCatches rows a

abbrev pub OutsCanLandBalls : Type 0
OutsCanLandBalls =
    (job : Job) (nodes : NodesView) (worker : ℕ) (a : Place) (t : TreeState) → IsTableOf nodes (reading job) t.root → IsLegalTree t
    → is_some (taken_at worker a t) ≡ true → CanLandBalls nodes.rows a

-- where a ball lands that the first goal at a place throws, and the body of what it leaves there
pub record LandsBall (rows : Rows) (a : Place) (ball : Term) (l : BallLanding) : Type 0 where
  pub places : List Place
  pub up : AreAllUp rows a places
  pub lands : IsLandingBody rows places ball (landing rows ball (innermost_catch (items_behind (items_at_place rows a))) places) (scope_number l.scope) (body_view (arc_value l.body))
