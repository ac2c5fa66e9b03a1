use Rattle.task_stops.proofs.CauseLemmas.{loaded_stop_for, stopped_run_on_for, causes_are_stops}
use Rattle.task_stops.proofs.gate_laws.tasks_stop_for_causes.Goals as goal

pub returns : goal.returns
returns c = record { loaded = loaded_stop_for; on = stopped_run_on_for; stops = causes_are_stops }
