-- Catches that sleep on a branch can be read.
use Rattle.std.proofs.Common.{List, [], ◌∷◌, map, sym, subst}
use Rattle.au_term.specs.Term.{VarTerm}
use Rattle.run_model.specs.Programs.Jobs.{Job}
use Rattle.tree_model.specs.Legality.{taken_at}
use Rattle.tree_model.specs.Levels.{Level, level_node, levels_of, plug, place_at}
use Rattle.tree_model.specs.Nodes.{Status, Inner, Pending}
use Rattle.tree_model.specs.NumberedTrees.{IsNumberedStatus}
use Rattle.tree_model.specs.SoundTrees.{IsSound}
use Rattle.tree_nodes.specs.TreeTables.{NodesView, IsTableOf}
use Rattle.branch_reading.specs.NumberedReadings.{NumberedTreesAreSettled}
use Rattle.branch_reading.specs.Readings.{reading}
use Rattle.task_region.specs.PlacesUp.{AreAllUp, PlacesAreLevels}
use Rattle.branch_shapes.proofs.OutLemmas.{out_at, spot_out}
use Rattle.task_stops.specs.Landings.{AreReadableBeside}
use Rattle.task_stops.specs.FoundLandings.{OutsCanLandBalls}
use Rattle.task_stops.proofs.LandingLemmas.{readable_here}

readable : NumberedTreesAreSettled → (job : Job) (nodes : NodesView) (levels : List Level) (status : Status) → IsTableOf nodes (reading job) (plug levels status)
    → IsSound [] (plug levels status) → IsNumberedStatus (plug levels status) → AreReadableBeside nodes.rows (map place_at levels)
readable settled job nodes [] status table sound numbered = tt
readable settled job nodes (v ∷ up) status table sound numbered = (
  λ catcher recovery asleep kind. readable_here settled job nodes (VarTerm 0) v up status table sound numbered asleep catcher recovery kind,
  readable settled job nodes up (Inner (level_node v status)) table sound numbered,
)

pub outs_can_land : NumberedTreesAreSettled → PlacesAreLevels → OutsCanLandBalls
outs_can_land settled placed job nodes worker a t table legal out =
    let s = spot_out (taken_at worker a t) out in
    let there = out_at job nodes t worker a s.0 table s.1 in
    let whole = readable settled job nodes (levels_of s.0) (Pending s.0.hold s.0.entry) there.table
    (subst (IsSound []) (sym there.in_tree) legal.sound.sound) (subst IsNumberedStatus (sym there.in_tree) legal.numbered) in
    record {
      there = there.cell_there;
      readable = λ places all.
          let are = placed nodes (reading job) s.0.level s.0.above (Pending s.0.hold s.0.entry) there.way places there.table there.on
          (subst (λ q. AreAllUp nodes.rows q places) (sym there.at) all) in
          subst (AreReadableBeside nodes.rows) (sym are.levels_are) whole;
    }
