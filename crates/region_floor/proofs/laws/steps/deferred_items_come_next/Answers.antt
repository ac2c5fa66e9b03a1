use Rattle.region_floor.proofs.GateTopLemmas.{answers_are_gates, removals_are_gates, goals_load, catch_marks_skip, results_are_given}
use Rattle.region_floor.proofs.laws.steps.deferred_items_come_next.Goals as goal

pub returns : goal.returns
returns c = record { answer = answers_are_gates; removal = removals_are_gates; goals = goals_load; mark = catch_marks_skip; result = results_are_given }
