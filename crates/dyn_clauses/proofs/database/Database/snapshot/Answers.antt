use Rattle.std.proofs.Common.{◌∙◌, Some, option_map, ap, sym}
use Rattle.run_model.specs.Programs.Databases.{clauses_of}
use Rattle.dyn_clauses.specs.PositionIndex.{numbered_clauses}
use Rattle.dyn_clauses.specs.DatabaseView.{KnownDatabase}
use Rattle.dyn_clauses.proofs.EntriesLemmas.{clauses_found}
use Rattle.dyn_clauses.proofs.database.Database.snapshot.Goals as goal

pub returns-in_ok-all-in-Some : goal.returns-in_ok-all-in-Some
returns-in_ok-all-in-Some c =
    let i = c.args.procedure.now in (
      sym c.if-is_static.ensures,
      sym (ap (λ (d : KnownDatabase). clauses_of d.kept i.name i.arity) c.self.view_is)
          ∙ (clauses_found i c.self.inside.procedures.entries ∙ (ap (option_map numbered_clauses) (sym c.in-Some.ensures.value) ∙ ap Some (sym c.in_ok-all-in-Some.ensures))),
    )

pub returns-in-None : goal.returns-in-None
returns-in-None c =
    let i = c.args.procedure.now in (
      sym c.if-is_static.ensures,
      sym (ap (λ (d : KnownDatabase). clauses_of d.kept i.name i.arity) c.self.view_is)
          ∙ (clauses_found i c.self.inside.procedures.entries ∙ ap (option_map numbered_clauses) (sym c.in-None.ensures.value)),
    )
