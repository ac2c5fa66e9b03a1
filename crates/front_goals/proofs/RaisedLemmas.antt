-- A ball that the world raises reads, where it lands, as what it leaves there.
use Rattle.std.proofs.Common.{◌≡◌, ℕ, List, [], ◌∷◌, map, Some, sym, ap, ◌∙◌, subst}
use Rattle.std.specs.Arc.{arc_value}
use Rattle.au_term.specs.Term.{Term}
use Rattle.clause_compile.specs.declared.item.Item.{Item as BranchItem}
use Rattle.run_model.specs.Machine.Balls.{unwound}
use Rattle.run_model.specs.Programs.Jobs.{Job}
use Rattle.tree_model.specs.Floors.{floor_of}
use Rattle.tree_model.specs.FrontGates.{Raises}
use Rattle.tree_model.specs.Gates.{ball_scope}
use Rattle.tree_model.specs.LegalTrees.{IsLegalTree}
use Rattle.tree_model.specs.Legality.{taken_at}
use Rattle.tree_model.specs.Levels.{Level, Place, Spot, levels_of, place_at}
use Rattle.tree_model.specs.Nodes.{Pending}
use Rattle.tree_model.specs.NumberedTrees.{IsNumberedStatus}
use Rattle.tree_model.specs.SoundTrees.{IsSound}
use Rattle.tree_model.specs.TreeStates.{TreeState}
use Rattle.tree_nodes.specs.Bodies.{Body, IsWhole, body_view, is_whole}
use Rattle.tree_nodes.specs.Rows.{Rows, scope_number}
use Rattle.tree_nodes.specs.TreeTables.{NodesView, IsTableOf}
use Rattle.public_tree.specs.Answering.{FallsAs, ReadsAsRaised, taken_as}
use Rattle.branch_reading.specs.NumberedReadings.{NumberedTreesAreSettled}
use Rattle.branch_reading.specs.Readings.{reading}
use Rattle.branch_reading.specs.SettledWays.{items_on}
use Rattle.task_region.specs.PlacesUp.{AreAllUp, PlacesAreLevels, items_at_place}
use Rattle.task_region.proofs.AtPlaceLemmas.{items_at}
use Rattle.branch_shapes.specs.FloorItems.{ScopedItemsNameLevels}
use Rattle.branch_shapes.proofs.OutLemmas.{IsOutAt, out_at}
use Rattle.branch_shapes.specs.RestBodies.{items_behind}
use Rattle.task_stops.specs.FoundLandings.{LandsBall}
use Rattle.task_stops.specs.LandingBodies.{IsLandingBody, LandingsRead, ReadsAsLanded, left_by_ball}
use Rattle.task_stops.specs.Landings.{innermost_catch, landing}
use Rattle.task_stops.specs.declared.landing.BallLanding.{BallLanding}
use Rattle.front_goals.specs.RaisedBalls.{RaisesNext, RaisesThere}
use Rattle.front_goals.proofs.NextLemmas.{first_is, marks_over}

-- the laws on which it rests
pub record RaiseLaws : Type 0 where
  pub numbered : NumberedTreesAreSettled
  pub scoped : ScopedItemsNameLevels
  pub places : PlacesAreLevels
  pub read : LandingsRead

module _ (laws : RaiseLaws) (job : Job) (nodes : NodesView) (t : TreeState) (w : ℕ) (a : Place) (placed : IsTableOf nodes (reading job) t.root) (legal : IsLegalTree t)
    (ball : Term) (raises : RaisesThere ball w a t) (l : BallLanding) (lands : LandsBall nodes.rows a ball l) where
  abbrev scope : ℕ
  scope = scope_number l.scope

  abbrev body : Body
  body = body_view (arc_value l.body)

  module _ (s : Spot) (taken : taken_at w a t ≡ Some s) where
    abbrev levels : List Level
    levels = levels_of s

    abbrev there : RaisesNext ball t s
    there = raises s taken

    out : IsOutAt job nodes t w a s
    out = out_at job nodes t w a s placed taken

    abbrev rest : List BranchItem
    rest = items_behind (items_on out.way)

    places_are : lands.places ≡ map place_at levels
    places_are =
        (laws.places nodes (reading job) s.level s.above (Pending s.hold s.entry) out.way lands.places out.table out.on
        (subst (λ p. AreAllUp nodes.rows p lands.places) (sym out.at) lands.up)).levels_are

    rest_is : items_behind (items_at_place nodes.rows a) ≡ rest
    rest_is = ap items_behind (ap (items_at_place nodes.rows) (sym out.at) ∙ sym (items_at nodes.rows s.level s.above out.way out.on))

    found : IsLandingBody nodes.rows (map place_at levels) ball (landing nodes.rows ball (innermost_catch rest) (map place_at levels)) scope body
    found =
        subst (λ (ps : List Place). IsLandingBody nodes.rows ps ball (landing nodes.rows ball (innermost_catch rest) ps) scope body) places_are
        (subst (λ (is : List BranchItem). IsLandingBody nodes.rows lands.places ball (landing nodes.rows ball (innermost_catch is) lands.places) scope body) rest_is lands.lands)

    landed : ReadsAsLanded job nodes.rows levels ball (innermost_catch rest) scope body
    landed =
        laws.read job nodes levels (Pending s.hold s.entry) ball (innermost_catch rest) scope body out.table
        (subst (IsSound []) (sym out.in_tree) legal.sound.sound) (subst IsNumberedStatus (sym out.in_tree) legal.numbered)
        (marks_over job nodes t w a placed legal laws.numbered laws.scoped s taken there.item there.behind there.has out.way out.on) found

    raised_is : taken_as t s ≡ Raises (left_by_ball ball (innermost_catch rest) levels)
    raised_is =
        there.raises
        ∙ ap (λ m. Raises (unwound ball m (floor_of levels)))
        (first_is job nodes t w a placed legal laws.numbered laws.scoped s taken there.item there.behind there.has out.way out.on)

    reads : ReadsAsRaised (reading job) nodes.rows scope body levels (taken_as t s)
    reads = record {
      entry = landed.reads.entry;
      under = landed.reads.under;
      raises = raised_is ∙ ap Raises landed.reads.top;
      scope = ap (ball_scope levels) (sym landed.reads.top) ∙ landed.scope_is;
      beside = landed.reads.beside;
    }

  pub falls_as : FallsAs nodes.rows scope body w a (reading job) t
  falls_as s taken = ((raises s taken).gate, reads s taken)
