use Rattle.std.proofs.Common.{◌∙◌, Some, option_map, ap, sym}
use Rattle.run_model.specs.Programs.Databases.{clauses_of}
use Rattle.dyn_clauses.specs.PositionIndex.{numbered_clauses}
use Rattle.dyn_clauses.specs.DatabaseView.{KnownDatabase, matching_numbered}
use Rattle.dyn_clauses.proofs.EntriesLemmas.{clauses_found}
use Rattle.dyn_clauses.proofs.ViewLemmas.{matching_meant}
use Rattle.dyn_clauses.proofs.database.Database.candidates.Goals as goal

pub returns-in-Some : goal.returns-in-Some
returns-in-Some c =
    let i = c.args.procedure.now in
    let key = c.in_ok-key.key in
    let known = clauses_of c.args.self.now.kept i.name i.arity in
    ap Some (c.in_ok-matching-in-Some.ensures ∙ matching_meant key c.in-Some.known.now)
    ∙ (ap (option_map (matching_numbered key)) (ap (option_map numbered_clauses) c.in-Some.ensures.value
    ∙ (sym (clauses_found i c.self.inside.procedures.entries) ∙ ap (λ (d : KnownDatabase). clauses_of d.kept i.name i.arity) c.self.view_is))
    ∙ ap (λ k. option_map (matching_numbered k) known) c.in_ok-key.ensures)

pub returns : goal.returns
returns c =
    let i = c.args.procedure.now in
    let known = clauses_of c.args.self.now.kept i.name i.arity in
    ap (option_map (matching_numbered c.in_ok-key.key)) (ap (option_map numbered_clauses) c.in-None.ensures.value
    ∙ (sym (clauses_found i c.self.inside.procedures.entries) ∙ ap (λ (d : KnownDatabase). clauses_of d.kept i.name i.arity) c.self.view_is))
    ∙ ap (λ k. option_map (matching_numbered k) known) c.in_ok-key.ensures
