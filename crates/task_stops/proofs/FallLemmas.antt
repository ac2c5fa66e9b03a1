-- A landing that was found of a ball is that of what the alternative throws.
use Rattle.std.proofs.Common.{◌≡◌, ℕ, List, [], map, Some, sym, ap, ◌∙◌, subst}
use Rattle.std.specs.Arc.{arc_value}
use Rattle.au_term.specs.Term.{Term}
use Rattle.au_model.specs.Terms.Copies.{copied}
use Rattle.clause_compile.specs.declared.item.Item.{Item as BranchItem}
use Rattle.run_model.specs.Machine.Entries.{Entry}
use Rattle.run_model.specs.Programs.Jobs.{Job}
use Rattle.tree_model.specs.Effects.{or_none, spot_stack}
use Rattle.tree_model.specs.LegalTrees.{IsLegalTree}
use Rattle.tree_model.specs.Legality.{gate_of, taken_at}
use Rattle.tree_model.specs.Levels.{Level, Place, Spot, levels_of, place_at}
use Rattle.tree_model.specs.Nodes.{BallGate, Pending}
use Rattle.tree_model.specs.NumberedTrees.{IsNumberedStatus}
use Rattle.tree_model.specs.PrivateRuns.{taken_alone}
use Rattle.tree_model.specs.SoundTrees.{IsSound}
use Rattle.tree_model.specs.TreeStates.{TreeState}
use Rattle.tree_nodes.specs.Bodies.{Body, body_view}
use Rattle.tree_nodes.specs.Rows.{scope_number}
use Rattle.tree_nodes.specs.TreeTables.{NodesView, IsTableOf}
use Rattle.public_tree.specs.PublicPruning.{LandsAs, ReadsAsFallen}
use Rattle.branch_reading.specs.NumberedReadings.{NumberedTreesAreSettled}
use Rattle.branch_reading.specs.Readings.{reading}
use Rattle.branch_reading.specs.SettledWays.{items_on}
use Rattle.task_region.specs.PlacesUp.{AreAllUp, PlacesAreLevels, items_at_place}
use Rattle.task_region.proofs.AtPlaceLemmas.{items_at}
use Rattle.branch_shapes.specs.FloorItems.{ScopedItemsNameLevels}
use Rattle.branch_shapes.proofs.OutLemmas.{IsOutAt}
use Rattle.branch_shapes.specs.RestBodies.{items_behind}
use Rattle.task_stops.specs.CopiesAgain.{CopiesAreAlike}
use Rattle.task_stops.specs.FoundLandings.{LandsBall}
use Rattle.task_stops.specs.LandingBodies.{IsLandingBody, LandingsRead, ReadsAsLanded}
use Rattle.task_stops.specs.Landings.{innermost_catch, landing}
use Rattle.task_stops.specs.declared.landing.BallLanding.{BallLanding}
use Rattle.task_stops.specs.ThrownBalls.{IsAtBall, ThrowsThere}
use Rattle.task_stops.proofs.CopiedBallLemmas.{body_alike, landing_alike}
use Rattle.task_stops.proofs.SpotBallLemmas.{gate_is, leaves, out, rest_over}

-- the laws on which it rests
pub record FallLaws : Type 0 where
  pub numbered : NumberedTreesAreSettled
  pub scoped : ScopedItemsNameLevels
  pub places : PlacesAreLevels
  pub copies : CopiesAreAlike
  pub read : LandingsRead

module _ (laws : FallLaws) (job : Job) (nodes : NodesView) (t : TreeState) (w : ℕ) (a : Place) (placed : IsTableOf nodes (reading job) t.root) (legal : IsLegalTree t)
    (ball : Term) (throws : ThrowsThere w a ball t) (l : BallLanding) (lands : LandsBall nodes.rows a ball l) where
  abbrev scope : ℕ
  scope = scope_number l.scope

  abbrev body : Body
  body = body_view (arc_value l.body)

  module _ (s : Spot) (taken : taken_at w a t ≡ Some s) where
    abbrev levels : List Level
    levels = levels_of s

    abbrev there : IsAtBall t s ball
    there = throws s taken

    abbrev thrown : Term
    thrown = there.thrown

    abbrev on_branch : IsOutAt job nodes t w a s
    on_branch = out job nodes t w a placed legal laws.numbered laws.scoped s taken ball there

    abbrev rest : List BranchItem
    rest = items_behind (items_on on_branch.way)

    places_are : lands.places ≡ map place_at levels
    places_are =
        (laws.places nodes (reading job) s.level s.above (Pending s.hold s.entry) on_branch.way lands.places on_branch.table on_branch.on
        (subst (λ p. AreAllUp nodes.rows p lands.places) (sym on_branch.at) lands.up)).levels_are

    rest_is : items_behind (items_at_place nodes.rows a) ≡ rest
    rest_is = ap items_behind (ap (items_at_place nodes.rows) (sym on_branch.at) ∙ sym (items_at nodes.rows s.level s.above on_branch.way on_branch.on))

    found : IsLandingBody nodes.rows (map place_at levels) thrown (landing nodes.rows thrown (innermost_catch rest) (map place_at levels)) scope body
    found =
        let alike = laws.copies thrown in
        let by_levels : IsLandingBody nodes.rows (map place_at levels) ball (landing nodes.rows ball (innermost_catch rest) (map place_at levels)) scope body
        = subst (λ (ps : List Place). IsLandingBody nodes.rows ps ball (landing nodes.rows ball (innermost_catch rest) ps) scope body) places_are
        (subst (λ (is : List BranchItem). IsLandingBody nodes.rows lands.places ball (landing nodes.rows ball (innermost_catch is) lands.places) scope body) rest_is lands.lands) in
        let of_copy = subst (λ (b : Term). IsLandingBody nodes.rows (map place_at levels) b (landing nodes.rows b (innermost_catch rest) (map place_at levels)) scope body)
        there.ball_is by_levels in
        body_alike nodes.rows thrown alike (map place_at levels) _ scope body
        (subst (λ (ps : List Place). IsLandingBody nodes.rows (map place_at levels) (copied thrown 0) ps scope body)
        (landing_alike nodes.rows thrown alike (innermost_catch rest) (map place_at levels)) of_copy)

    landed : ReadsAsLanded job nodes.rows levels thrown (innermost_catch rest) scope body
    landed =
        laws.read job nodes levels (Pending s.hold s.entry) thrown (innermost_catch rest) scope body on_branch.table
        (subst (IsSound []) (sym on_branch.in_tree) legal.sound.sound) (subst IsNumberedStatus (sym on_branch.in_tree) legal.numbered)
        (rest_over job nodes t w a placed legal laws.numbered laws.scoped s taken ball there) found

    gate : gate_of t s ≡ Some (BallGate scope)
    gate = gate_is job nodes t w a placed legal laws.numbered laws.scoped s taken ball there ∙ ap (λ n. Some (BallGate n)) landed.scope_is

    reads : ReadsAsFallen (reading job) nodes.rows scope body levels (or_none (taken_alone t.job.clauses (spot_stack s)))
    reads =
        subst (λ (es : List Entry). ReadsAsFallen (reading job) nodes.rows scope body levels es)
        (sym (leaves job nodes t w a placed legal laws.numbered laws.scoped s taken ball there)) landed.reads

  pub lands_as : LandsAs nodes.rows scope body w a (reading job) t
  lands_as s taken = (gate s taken, reads s taken)
