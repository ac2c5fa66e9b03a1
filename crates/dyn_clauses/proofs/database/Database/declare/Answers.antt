use Rattle.std.proofs.Common.{◌∙◌, ap, refl}
use Rattle.run_model.specs.Programs.DatabaseChanges.{declared_in}
use Rattle.dyn_clauses.specs.DatabaseView.{procedures_meant}
use Rattle.dyn_clauses.proofs.EntriesLemmas.{meant_with}
use Rattle.dyn_clauses.proofs.DatabaseLemmas.{database_same}
use Rattle.dyn_clauses.proofs.ViewLemmas.{changed}
use Rattle.dyn_clauses.proofs.database.Database.declare.Goals as goal

pub invariant_of-self : goal.invariant_of-self
invariant_of-self c =
    let a = c.self.inside.places in
    database_same c.self.inside.procedures c.declare.new.procedures a a c.self.inside.next c.self.invariant c.in_err-declare.ensures.ordered c.in_err-declare.ensures.clauses (λ k. refl)

pub invariant_of-self-2 : goal.invariant_of-self-2
invariant_of-self-2 c =
    let a = c.self.inside.places in
    database_same c.self.inside.procedures c.declare.new.procedures a a c.self.inside.next c.self.invariant c.in_ok-declare.ensures.ordered c.in_ok-declare.ensures.clauses (λ k. refl)

pub returns-clause-ok : goal.returns-clause-ok
returns-clause-ok c =
    let i = c.args.procedure.now in
    let n = c.self.inside.next in
    changed c.self.view_is (λ d. declared_in d i.name i.arity) (record { procedures = procedures_meant c.declare.new.procedures.entries; next = n })
    (ap (λ ps. record { procedures = ps; next = n }) (ap procedures_meant c.in_ok-declare.ensures.ok ∙ meant_with (λ ps. ps) i (λ cs. cs) c.self.inside.procedures.entries refl (λ ps k. refl)))
