use Rattle.std.proofs.Common.{◌≡◌, false, drop, fold}
use Rattle.au_model.specs.Terms.Each.{Each}
use Rattle.run_model.specs.Programs.DatabaseChanges.{declared_in}
use Rattle.dyn_clauses.specs.DatabaseView.{is_static}
use Rattle.text_load.proofs.assembly.declare_all.Given as goal

abbrev pub invariant-loop-procedure : goal.invariant-loop-procedure
invariant-loop-procedure l = record {
  kept : fold (λ db i. declared_in db i.name i.arity) l.database.kept (drop l.procedure-index l.procedures) ≡ fold (λ db i. declared_in db i.name i.arity) l.fn.database.kept l.procedures;
  statics : l.database.statics ≡ l.fn.database.statics;
  free : Each (λ i. is_static l.fn.database.statics i ≡ false) (drop l.procedure-index l.procedures);
}
