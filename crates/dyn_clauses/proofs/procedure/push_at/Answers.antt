use Rattle.std.proofs.Common.{◌≡◌, ◌∙◌, ◌++◌, List, map, ap, sym, subst, append-nil}
use Rattle.std.specs.Prelude.{OnOk}
use Rattle.run_model.specs.Programs.Databases.{NumberedClause}
use Rattle.dyn_clauses.specs.PositionIndex.{numbered_clauses}
use Rattle.clause_compile.specs.CompiledClauses.{shown}
use Rattle.dyn_clauses.proofs.ProcedureLemmas.{picked_one, picked_none}
use Rattle.dyn_clauses.proofs.procedure.push_at.Goals as goal

pub returns-in-Some : goal.returns-in-Some
returns-in-Some c =
    subst (λ (cs : List NumberedClause). OnOk c.push.result (map shown c.push.new.found.items ≡ map shown c.args.found.now.items ++ cs))
    (sym (ap numbered_clauses (picked_one c.args.clauses.now c.args.position c.in-Some.keyed.now c.in-Some.ensures.value))) c.push.ensures

pub returns-in-None : goal.returns-in-None
returns-in-None c =
    sym (ap (λ es. map shown c.args.found.now.items ++ numbered_clauses es) (picked_none c.args.clauses.now c.args.position c.in-None.ensures.value) ∙ append-nil (map shown c.args.found.now.items))
