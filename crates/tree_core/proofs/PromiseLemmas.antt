-- What is promised of legal histories is promised of a job's tree.
use Rattle.run_model.specs.Programs.Jobs.{Job}
use Rattle.branch_reading.specs.Readings.{reading}
use Rattle.public_tree.specs.PublicTrees.{PublicView}
use Rattle.public_tree.specs.Following.{IsOnce, GoesOn, IsPrefix, IsRightEnd}
use Rattle.tree_core.specs.Histories.{history_of, IsTreeOf}
use Rattle.tree_core.specs.KeptPromises.{KeepsPromises}

pub kept_promises : (job : Job) (p : PublicView) → IsTreeOf job p → IsOnce → GoesOn → IsPrefix → IsRightEnd → KeepsPromises (history_of job p)
kept_promises job p h once going prefix end = record {
  legal = h.follows.legal;
  once = λ a. once job (reading job) p a h.follows;
  going = going job (reading job) p h.follows;
  prefix = prefix job (reading job) p h.follows h.countable;
  end = end job (reading job) p h.follows h.countable;
}
