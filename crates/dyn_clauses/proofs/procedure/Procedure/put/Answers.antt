use Rattle.std.proofs.Common.{◌∙◌, ap}
use Rattle.std.specs.Ordering.{nat_cmp}
use Rattle.std.specs.Map.{lookup}
use Rattle.std.specs.BTreeMap.{is_at}
use Rattle.dyn_clauses.proofs.ProcedureLemmas.{absent_is}
use Rattle.dyn_clauses.proofs.procedure.Procedure.put.Goals as goal

pub put_keyed-requires-clause-absent : goal.put_keyed-requires-clause-absent
put_keyed-requires-clause-absent c = absent_is c.self.inside.clauses c.args.position (ap (lookup (is_at (nat_cmp c.args.position))) c.self.view_is ∙ c.requires)
