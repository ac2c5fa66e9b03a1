use Rattle.std.proofs.Common.{rules, ◌∙◌, ◌+◌, ap}
use Rattle.std.specs.Arc.{arc_value}
use Rattle.run_model.specs.Programs.Clauses.{Clause as ClauseTerms}
use Rattle.dyn_clauses.specs.DatabaseView.{KnownDatabase, procedures_meant}
use Rattle.dyn_clauses.specs.ClauseEnds.{with_clause_at}
use Rattle.dyn_clauses.proofs.ViewLemmas.{added, changed}
use Rattle.au_term.specs.Term.{argument_count}
use Rattle.au_model.specs.Terms.Forms.{name_of}
use Rattle.dyn_clauses.proofs.database.Database.add.Goals as goal

pub returns-clause-ok : goal.returns-clause-ok
returns-clause-ok c =
    let m = c.self.inside.procedures in
    let n = c.self.inside.next in
    let clause = arc_value c.args.clause in
    let name = c.in_ok-procedure.ensures.0 ∙ ap (λ (d : ClauseTerms). name_of d.head) c.deref.ensures in
    let arity = c.in_ok-procedure.ensures.1 ∙ ap (λ (d : ClauseTerms). argument_count d.head) c.deref.ensures in (
      ap (λ (d : KnownDatabase). d.kept.next) c.self.view_is,
      changed c.self.view_is (λ d. with_clause_at c.args.end d clause) (record { procedures = procedures_meant c.add.new.procedures.entries; next = n + 1 })
          (added m c.self.inside.places n c.self.invariant c.in_ok-procedure.procedure clause name arity (search rules) c.args.end c.position-position.result c.add.new.procedures.entries c.position-position.ensures c.in_ok-add.ensures.ok),
    )
