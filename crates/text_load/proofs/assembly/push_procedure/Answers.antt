use Rattle.text_load.proofs.ProcedureLemmas.{procedure_pushed}
use Rattle.text_load.proofs.assembly.push_procedure.Goals as goal

pub returns : goal.returns
returns c = procedure_pushed c.args.procedures.now.items c.push.new.self.items c.in_ok-of_clause.field-0 c.args.clause.now c.in_ok-of_clause.ensures.0 c.in_ok-of_clause.ensures.1 c.in_ok-push.ensures.items
