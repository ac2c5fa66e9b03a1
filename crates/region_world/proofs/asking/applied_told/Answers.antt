use Rattle.std.proofs.Common.{◌∙◌, List, map, sym, ap, subst}
use Rattle.clause_compile.specs.CompiledClauses.{shown}
use Rattle.op_table.specs.OperatorView.{row_meant}
use Rattle.op_table.specs.declared.operator.OpRow.{OpRow}
use Rattle.cell_store.specs.StoreView.{StoreView, IsValidStore}
use Rattle.effect_gate.specs.Effects.{AreFound, AreFoundBy, IsReplied}
use Rattle.region_control.specs.GoalForms.{argument_terms}
use Rattle.region_world.specs.FoundSolutions.{IsMatchingIn, clause_unified, found_solution}
use Rattle.region_world.specs.RowSolutions.{AreAsked, AreAskedIn, row_solution}
use Rattle.region_world.proofs.AnswerLemmas.{clauses_told, rows_told}
use Rattle.region_world.proofs.FoundEffectLemmas.{rows_reply}
use Rattle.region_world.proofs.asking.applied_told.Goals as goal

pub returns-in_ok-solutions-in-Clauses : goal.returns-in_ok-solutions-in-Clauses
returns-in_ok-solutions-in-Clauses c = λ reply told.
    let r = c.args.region.now in
    let m = c.in_ok-matching-in-Clauses.matching in
    let cs = map shown c.in-Clauses.found.items in
    let are = subst (IsReplied c.args.effect.now r.store.now.next reply) c.in-Clauses.is told in
    let found = c.in_ok-matching-in-Clauses.ensures.unifies reply cs (subst (λ (st : StoreView). AreFoundBy c.args.effect.now st.now.next reply cs) (sym c.store.ensures.store) are) in
    let valid = subst IsValidStore c.store-in-Clauses.ensures.store c.next-base.ensures.sound in
    let next = c.next-base.ensures.next ∙ ap (λ (st : StoreView). st.now.next) c.store-in-Clauses.ensures.store in
    let is =
    c.in_ok-solutions-in-Clauses.ensures
    ∙ ap (λ n. map (found_solution m n) (map shown c.deref.result.now)) next
    ∙ ap (λ xs. map (found_solution m r.store.now.next) (map shown xs)) c.deref.ensures.value in
    clauses_told r valid m cs reply c.in_ok-solutions-in-Clauses.solutions
    (subst (λ (st : StoreView). IsMatchingIn st m) c.store.ensures.store c.in_ok-matching-in-Clauses.ensures.there) is
    (subst (λ (st : StoreView). AreFound (clause_unified st m) reply cs) c.store.ensures.store found)

pub returns-in_ok-solutions-in-Rows : goal.returns-in_ok-solutions-in-Rows
returns-in_ok-solutions-in-Rows c = λ reply told.
    let r = c.args.region.now in
    let asked = c.asked_of-asked.result in
    let are = subst (IsReplied c.args.effect.now r.store.now.next reply) c.in-Rows.is told in
    let terms = subst (λ (st : StoreView). AreAsked st (argument_terms st c.args.form.arguments) asked) c.store-in-Rows.ensures.store c.asked_of-asked.ensures.terms in
    rows_told r asked (map row_meant c.in-Rows.rows.items) reply c.in_ok-solutions-in-Rows.solutions
    (subst (λ (st : StoreView). AreAskedIn st asked) c.store-in-Rows.ensures.store c.asked_of-asked.ensures.there)
    (c.in_ok-solutions-in-Rows.ensures ∙ ap (λ (xs : List OpRow). map (row_solution asked) (map row_meant xs)) c.deref-in-Rows.ensures.value)
    (rows_reply r.store c.args.goal c.args.form c.requires.form asked terms c.args.effect.now reply c.in-Rows.rows.items c.requires.asks are)
