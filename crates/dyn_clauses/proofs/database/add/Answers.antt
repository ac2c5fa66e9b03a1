use Rattle.std.proofs.Common.{◌∙◌, cond, Some, ap, refl}
use Rattle.std.specs.Ordering.{nat_cmp}
use Rattle.std.specs.Map.{lookup}
use Rattle.std.specs.BTreeMap.{get, is_at}
use Rattle.std.specs.Arc.{arc_value}
use Rattle.dyn_clauses.specs.declared.indicator.Indicator.{Indicator as IndicatorTerms}
use Rattle.dyn_clauses.specs.declared.place.Place.{Place}
use Rattle.dyn_clauses.specs.DatabaseView.{Entries, clause_at}
use Rattle.dyn_clauses.proofs.PositionIndexLemmas.{on_err}
use Rattle.dyn_clauses.proofs.DatabaseLemmas.{add_kept, database_same, place_undone}
use Rattle.dyn_clauses.proofs.database.add.Goals as goal

pub returns-in_err-insert-clause-stays : goal.returns-in_err-insert-clause-stays
returns-in_err-insert-clause-stays c =
    let m = c.args.procedures.now in
    on_err c.from_residual-in_err-insert.result _
    (database_same m m c.args.places.now c.insert.new.self c.args.number c.requires.kept c.requires.kept.kept.ordered (λ j p. refl) (λ k. ap (lookup (is_at (nat_cmp k))) c.in_err-insert.ensures.err))

pub returns-in-Err-clause-stays : goal.returns-in-Err-clause-stays
returns-in-Err-clause-stays c =
    let m = c.args.procedures.now in
    let place : Place = record { procedure = c.in_ok-share.field-0; position = c.args.position } in
    database_same m c.put.new.procedures c.args.places.now c.remove.new.self c.args.number c.requires.kept c.in-Err.ensures.ordered (λ j p. ap (λ (es : Entries). clause_at es j p) c.in-Err.ensures.err)
    (place_undone m c.args.places.now c.insert.new.self c.remove.new.self c.args.number place c.requires.kept c.in_ok-insert.ensures.updates.0 c.remove.ensures.updates.0)

pub returns-clause-kept : goal.returns-clause-kept
returns-clause-kept c =
    let a = c.args.places.now in
    add_kept c.args.procedures.now c.put.new.procedures a c.insert.new.self c.args.number c.args.procedure c.args.position (arc_value c.args.clause) c.requires.kept c.requires.number
    c.in_default.ensures.ordered c.in_default.ensures.clauses
    (λ k. c.in_ok-insert.ensures.updates.0 k ∙ ap (λ (i : IndicatorTerms). cond (is_at (nat_cmp c.args.number) k) (Some (record { procedure = i; position = c.args.position })) (get nat_cmp a k)) c.in_ok-share.ensures)
