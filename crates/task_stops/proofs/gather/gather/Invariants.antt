use Rattle.std.proofs.Common.{◌≡◌, drop}
use Rattle.task_stops.specs.GatheredResults.{gathered, gathered_view}
use Rattle.task_stops.proofs.gather.gather.Given as goal

abbrev pub invariant-loop-record : goal.invariant-loop-record
invariant-loop-record l =
    gathered (drop l.record-index l.records) (gathered_view l.all) ≡ gathered l.records (record { terms = l.fn.results; next = l.next })
