-- A region that a worker keeps from turn to turn.
use Rattle.std.specs.Prelude.{Option, IfSome}
use Rattle.std.specs.Arc.{arc_value}
use Rattle.task_region.specs.KeptRegions.{KeptView, IsKeptIn}
use Rattle.tree_core.specs.Histories.{TreeView}
use Rattle.scheduler.specs.declared.job_run.JobRun.{JobRun}

-- if there is one, it is one of the tree's nodes, and of the program
abbrev pub IsKeptFor : TreeView → JobRun → Option KeptView → Type 0
IsKeptFor v run kept = IfSome kept (IsKeptIn v.nodes.rows (arc_value run.text))
