use Rattle.std.proofs.Common.{◌≡◌, false, drop, fold, map}
use Rattle.std.specs.Arc.{arc_value}
use Rattle.au_model.specs.Terms.Each.{Each}
use Rattle.run_model.specs.Programs.DatabaseChanges.{with_last_clause}
use Rattle.dyn_clauses.specs.ClauseEnds.{indicator_of}
use Rattle.dyn_clauses.specs.DatabaseView.{is_static}
use Rattle.text_load.proofs.assembly.add_all.Given as goal

abbrev pub invariant-loop-clause : goal.invariant-loop-clause
invariant-loop-clause l = record {
  kept : fold with_last_clause l.database.kept (map arc_value (drop l.clause-index l.clauses)) ≡ fold with_last_clause l.fn.database.kept (map arc_value l.clauses);
  statics : l.database.statics ≡ l.fn.database.statics;
  free : Each (λ c. is_static l.fn.database.statics (indicator_of c) ≡ false) (map arc_value (drop l.clause-index l.clauses));
}
