use Rattle.std.proofs.Common.{◌∙◌, ap}
use Rattle.run_model.specs.Programs.DatabaseChanges.{without_procedure}
use Rattle.dyn_clauses.specs.DatabaseView.{procedures_meant}
use Rattle.dyn_clauses.proofs.EntriesLemmas.{meant_removed}
use Rattle.dyn_clauses.proofs.ViewLemmas.{changed}
use Rattle.dyn_clauses.proofs.database.Database.abolish.Goals as goal

pub returns-clause-ok : goal.returns-clause-ok
returns-clause-ok c =
    let i = c.args.procedure.now in
    let n = c.self.inside.next in
    changed c.self.view_is (λ d. without_procedure d i.name i.arity) (record { procedures = procedures_meant c.abolish.new.procedures.entries; next = n })
    (ap (λ ps. record { procedures = ps; next = n }) (ap procedures_meant c.abolish.ensures.taken ∙ meant_removed i c.self.inside.procedures.entries c.self.invariant.kept.ordered))
