use Rattle.std.proofs.Common.{◌≡◌}
use Rattle.dyn_clauses.specs.declared.indicator.Indicator.{Indicator as IndicatorTerms}
use Rattle.dyn_clauses.specs.DatabaseView.{is_static}
use Rattle.dyn_clauses.proofs.database.Database.new.Given as goal

abbrev pub invariant-loop-procedure : goal.invariant-loop-procedure
invariant-loop-procedure l = (i : IndicatorTerms) → is_static l.known.keys i ≡ is_static l.yielded i
