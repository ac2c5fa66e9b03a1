use Rattle.std.proofs.Common.{◌≡◌, ◌||◌, drop, map}
use Rattle.std.specs.Arc.{arc_value}
use Rattle.run_model.specs.Programs.Clauses.{is_defined}
use Rattle.dyn_clauses.specs.declared.indicator.Indicator.{Indicator}
use Rattle.dyn_clauses.specs.DatabaseView.{is_static}
use Rattle.text_load.proofs.assembly.defined_by.Given as goal

abbrev pub invariant-loop-clause : goal.invariant-loop-clause
invariant-loop-clause l = (i : Indicator) → (is_static l.procedures.items i || is_defined (map arc_value (drop l.clause-index l.clauses)) i.name i.arity) ≡ is_defined (map arc_value l.clauses) i.name i.arity
