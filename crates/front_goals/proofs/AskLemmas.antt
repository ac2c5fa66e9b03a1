-- The goal of the world at which a task has stopped is next of its alternative in the tree of a job.
use Rattle.std.proofs.Common.{◌≡◌, ℕ, true, List, sym, ap, ap₂, ◌∙◌}
use Rattle.std.specs.Prelude.{is_some}
use Rattle.au_term.specs.Term.{Term}
use Rattle.binding_array.specs.declared.cell.BindingCell.{BindingCell}
use Rattle.branch_reading.specs.Readings.{reading}
use Rattle.branch_shapes.proofs.OutLemmas.{spot_out}
use Rattle.cell_store.specs.StoreView.{IsValidStore, meaning}
use Rattle.region_control.specs.declared.control.GoalPlace.{GoalPlace}
use Rattle.region_split.specs.declared.frame.FrameItem.{FrameItem}
use Rattle.region_split.specs.declared.frame.FrameItem.TheVariants as item
use Rattle.region_world.specs.WorldAnswers.{AnswersWorldGoal}
use Rattle.region_world.specs.declared.asking.WorldAnswer.{WorldAnswer}
use Rattle.run_model.specs.Goals.Outcomes.{Reply}
use Rattle.run_model.specs.Goals.Worlds.{World, world_step}
use Rattle.run_model.specs.Programs.Clauses.{Clause}
use Rattle.run_model.specs.Programs.Jobs.{Job}
use Rattle.task_publishing.proofs.JobLemmas.{job_of_state}
use Rattle.task_region.specs.TaskViews.{TaskView}
use Rattle.task_region.specs.declared.running.TaskStop.TheVariants.{World as WorldStop}
use Rattle.task_world.specs.FrontSteps.{IsWorldAfter}
use Rattle.task_world.specs.FrontsTold.{IsTreeAt, StopsAtFront}
use Rattle.tree_core.specs.Histories.{TreeView, state_of}
use Rattle.tree_model.specs.LegalTrees.{IsLegalTree}
use Rattle.tree_model.specs.Legality.{taken_at}
use Rattle.tree_model.specs.Levels.{Place}
use Rattle.tree_model.specs.TreeStates.{TreeState}
use Rattle.tree_nodes.specs.TreeTables.{IsTableOf}
use Rattle.public_tree.specs.Answering.{is_first_at}
use Rattle.public_tree.specs.PublicTrees.{is_going}
use Rattle.front_goals.specs.RepliesNext.{IsAskedNext, TellsNext}
use Rattle.front_goals.proofs.ReplyLemmas.{asked_world, tells_next}
use Rattle.front_goals.proofs.ToldGoalLemmas.{same_clauses, told}

module _ (v : TreeView) (w : ℕ) (a : Place) (task : TaskView) (i : FrameItem) (value : BindingCell) (g : GoalPlace) (is : i ≡ item.Goal value)
    (placed : IsTableOf v.nodes (reading v.history.job) (state_of v.history).root) (legal : IsLegalTree (state_of v.history))
    (out : is_some (taken_at w a (state_of v.history)) ≡ true) (stops : StopsAtFront v.nodes a v.history.job.clauses task (WorldStop i g))
    (valid : IsValidStore task.region.store) where
  abbrev t : TreeState
  t = state_of v.history

  abbrev job : Job
  job = v.history.job

  abbrev goal : Term
  goal = meaning task.region.store value

  tree : IsTreeAt job v.nodes t
  tree = record { placed = placed; legal = legal }

  pub asked : IsAskedNext goal task.region.store.now w a t
  asked s taken = told job v.nodes t w a job.clauses task i value g is tree stops valid s taken (ap (λ (j : Job). j.clauses) (job_of_state v.history))

  -- the task's text is the program's
  pub clauses_are : job.clauses ≡ task.region.text.clauses
  clauses_are = let o = spot_out (taken_at w a t) out in same_clauses job v.nodes t w a job.clauses task i value g is tree stops valid o.0 o.1

  all_clauses : task.region.text.clauses ≡ t.job.clauses
  all_clauses = sym clauses_are ∙ sym (ap (λ (j : Job). j.clauses) (job_of_state v.history))

  module _ (before after : World) (same : before ≡ t.world) (answered : WorldAnswer) (answers : AnswersWorldGoal task.region goal before after answered) where
    stepped : world_step task.region.text.clauses goal task.region.store.now.next before ≡ world_step t.job.clauses goal task.region.store.now.next t.world
    stepped = ap₂ (λ (cs : List Clause) (x : World). world_step cs goal task.region.store.now.next x) all_clauses same

    pub tells : TellsNext task.region answered w a t
    tells =
        tells_next task.region t w a goal asked (world_step task.region.text.clauses goal task.region.store.now.next before).1 answered answers.reply
        (ap (λ (p : World × Reply). p.1) stepped)

    pub world_is : (is_going t ≡ true) × (is_first_at a t ≡ true) → IsWorldAfter v.history w a after
    world_is may =
        asked_world v.history w a goal task.region.store.now after asked may out (answers.world ∙ ap (λ (p : World × Reply). p.0) stepped)
