use Rattle.std.proofs.Common.{◌∙◌, ap, ap₂, sym}
use Rattle.std.specs.BTreeMap.{get, insert_entry}
use Rattle.dyn_clauses.specs.declared.indicator.Indicator.{Indicator as IndicatorTerms}
use Rattle.dyn_clauses.specs.PositionIndex.{Placed}
use Rattle.dyn_clauses.specs.DatabaseView.{indicator_cmp}
use Rattle.au_term.proofs.OptionLemmas.{none_value, some_value}
use Rattle.dyn_clauses.proofs.EntriesLemmas.{spot_declared, with_absent, with_same}
use Rattle.dyn_clauses.proofs.database.declare.Goals as goal

pub returns-then-contains_key-clause-ok : goal.returns-then-contains_key-clause-ok
returns-then-contains_key-clause-ok c =
    let known = some_value (get indicator_cmp c.args.procedures.now c.args.procedure.now) (sym c.contains_key.ensures ∙ c.if-contains_key.true) in
    with_same c.args.procedure.now c.args.procedures.now.entries known.0 c.requires known.1

pub returns-clause-clauses : goal.returns-clause-clauses
returns-clause-clauses c =
    let none = none_value (get indicator_cmp c.args.procedures.now c.args.procedure.now) (sym c.contains_key.ensures ∙ c.if-contains_key.false) in
    spot_declared c.args.procedures.now c.insert.new.self c.in_ok-share.field-0 c.new.result c.new.ensures (ap (get indicator_cmp c.args.procedures.now) c.in_ok-share.ensures ∙ none) c.in_ok-insert.ensures.updates.0

pub returns-clause-ok : goal.returns-clause-ok
returns-clause-ok c =
    let es = c.args.procedures.now.entries in
    let none = none_value (get indicator_cmp c.args.procedures.now c.args.procedure.now) (sym c.contains_key.ensures ∙ c.if-contains_key.false) in
    c.in_ok-insert.ensures.entries
    ∙ (ap₂ (λ (i : IndicatorTerms) (ps : Placed). insert_entry indicator_cmp es i ps) c.in_ok-share.ensures c.new.ensures ∙ with_absent (λ ps. ps) c.args.procedure.now es none)
