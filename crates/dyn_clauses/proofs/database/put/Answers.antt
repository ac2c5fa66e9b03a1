use Rattle.std.proofs.Common.{◌∙◌, cond, None, Some, [], ap, ap₂, sym}
use Rattle.std.specs.Ordering.{nat_cmp}
use Rattle.std.specs.Map.{lookup, set_value}
use Rattle.std.specs.BTreeMap.{get, insert_entry, is_at}
use Rattle.std.specs.Arc.{arc_value}
use Rattle.dyn_clauses.specs.PositionIndex.{Placed}
use Rattle.dyn_clauses.specs.DatabaseView.{clause_at, indicator_cmp, is_spot}
use Rattle.dyn_clauses.proofs.PositionIndexLemmas.{some_there}
use Rattle.dyn_clauses.proofs.EntriesLemmas.{err_map, lookup_inserted, ok_map, spot_set, value_same, with_absent, with_there}
use Rattle.dyn_clauses.proofs.database.put.Goals as goal

pub returns-in-Some-clause-clauses : goal.returns-in-Some-clause-clauses
returns-in-Some-clause-clauses c =
    let m = c.args.procedures.now in
    let w = c.put.new.self in
    let known = c.in-Some.known.now in
    let there = c.in-Some.ensures.value in
    let set = (c.get_mut.follows.holds w).3 (some_there known (get indicator_cmp m c.args.procedure) there) in
    ok_map c.put.result _ _ c.put.ensures.ok
    (λ e. spot_set m (c.get_mut.follows.lender w) c.args.procedure c.args.position (Some (arc_value c.args.clause)) (Some known) w there set.0
    (λ p. ap (lookup (is_at (nat_cmp p))) e ∙ lookup_inserted p c.args.position (arc_value c.args.clause) known))

pub returns-in-Some-clause-ok : goal.returns-in-Some-clause-ok
returns-in-Some-clause-ok c =
    let es = c.args.procedures.now.entries in
    let known = c.in-Some.known.now in
    let there = c.in-Some.ensures.value in
    ok_map c.put.result _ _ c.put.ensures.ok
    (λ e. (c.get_mut.follows.holds c.put.new.self).0 ∙ (ap (set_value (is_at (indicator_cmp c.args.procedure)) es) e
    ∙ with_there (λ ps. insert_entry nat_cmp ps c.args.position (arc_value c.args.clause)) c.args.procedure es known c.requires.ordered (sym there)))

pub returns-in-Some-clause-err : goal.returns-in-Some-clause-err
returns-in-Some-clause-err c =
    let es = c.args.procedures.now.entries in
    let known = c.in-Some.known.now in
    let there = c.in-Some.ensures.value in
    err_map c.put.result _ _ c.put.ensures.err
    (λ e. (c.get_mut.follows.holds c.put.new.self).0 ∙ (ap (set_value (is_at (indicator_cmp c.args.procedure)) es) e ∙ value_same c.args.procedure es known (sym there)))

pub returns-clause-clauses : goal.returns-clause-clauses
returns-clause-clauses c = λ i q.
    let before = c.get_mut.follows.lender-at-none in
    let w = c.put-2.new.self in
    let clause = arc_value c.args.clause in
    let there = c.in_default.ensures.value ∙ ap (λ m. get indicator_cmp m c.args.procedure) (sym c.get_mut.follows.holds-at-none) in
    spot_set before c.insert.new.self c.args.procedure c.args.position (Some clause) None w there c.in_ok-insert.ensures.updates.0
    (λ p. ap (lookup (is_at (nat_cmp p))) (c.in_ok-put.ensures.ok ∙ ap (λ (ps : Placed). insert_entry nat_cmp ps c.args.position clause) c.new-fresh.ensures) ∙ lookup_inserted p c.args.position clause []) i q
    ∙ ap (λ m. cond (is_spot c.args.procedure c.args.position i q) (Some clause) (clause_at m.entries i q)) c.get_mut.follows.holds-at-none

pub returns-clause-ok : goal.returns-clause-ok
returns-clause-ok c =
    let es = c.args.procedures.now.entries in
    let f = λ (ps : Placed). insert_entry nat_cmp ps c.args.position (arc_value c.args.clause) in
    c.in_ok-insert.ensures.entries
    ∙ (ap₂ (λ m (ps : Placed). insert_entry indicator_cmp m.entries c.args.procedure ps) c.get_mut.follows.holds-at-none (c.in_ok-put.ensures.ok ∙ ap f c.new-fresh.ensures)
    ∙ with_absent f c.args.procedure es (sym c.in_default.ensures.value))
