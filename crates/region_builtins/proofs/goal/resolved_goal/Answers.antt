use Rattle.std.proofs.Common.{◌≡◌, List, map, sym, ap, ◌∙◌, subst}
use Rattle.au_term.specs.Term.{count}
use Rattle.au_model.specs.Terms.Lists.{terms_from}
use Rattle.au_model.proofs.ListTermLemmas.{count-terms_from}
use Rattle.clause_compile.specs.AtomNumbers.{name_at}
use Rattle.cell_store.specs.StoreView.{StoreView, IsValidStore, substitution, text_in}
use Rattle.cell_store.proofs.WritingLemmas.{how_many}
use Rattle.region_split.specs.SolutionTrials.{AreSolutionsHere, Solves}
use Rattle.region_control.specs.GoalForms.{argument_terms}
use Rattle.region_control.proofs.ControlLemmas.{place_in}
use Rattle.std_builtins.specs.Answers.{solution_meant}
use Rattle.std_builtins.specs.declared.answer.Solution.{Solution as Found}
use Rattle.region_builtins.specs.CopiedSolutions.{copied_solution}
use Rattle.region_builtins.proofs.SolvedLemmas.{found_here, solved_at, solved_none}
use Rattle.region_builtins.proofs.goal.resolved_goal.Goals as goal
use Rattle.region_builtins.proofs.goal.resolved_goal.Goals.{After-deref}

arguments_seen : (c : After-deref) → terms_from c.deref.result.now ≡ argument_terms c.args.region.now.store c.args.form.arguments
arguments_seen c = ap terms_from c.deref.ensures.value ∙ (c.in_ok-arguments.ensures ∙ ap (λ (st : StoreView). argument_terms st c.args.form.arguments) c.store.ensures.store)

next_seen : (c : After-deref) → c.from-next.result ≡ c.args.region.now.store.now.next
next_seen c = c.from-next.ensures ∙ (c.next.ensures.next ∙ ap (λ (st : StoreView). st.now.next) c.store-2.ensures.store)

valid : (c : After-deref) → IsValidStore c.args.region.now.store
valid c = subst IsValidStore c.store-2.ensures.store c.next.ensures.sound

pub call-requires : goal.call-requires
call-requires c =
    let st = c.args.region.now.store in
    let a = c.args.form.arguments in
    sym (count-terms_from c.deref.result.now) ∙ (ap count (arguments_seen c) ∙ (how_many (substitution st) (text_in st) a.base a.count a.at ∙ c.requires.row.count))

pub solve-requires-clause-there : goal.solve-requires-clause-there
solve-requires-clause-there c =
    let d = (goal.at.solve-requires-clause-there c).After-deref in
    let r = c.args.region.now in
    subst (AreSolutionsHere r) (sym (c.in_ok-solutions-in-Ok.ensures ∙ ap (λ (xs : List Found). map copied_solution (map solution_meant xs)) c.deref-in-Ok.ensures.value))
    (found_here r c.args.form c.args.builtin (name_at (text_in r.store).names c.args.form.name) c.requires.row c.requires.there (valid d) (terms_from c.deref.result.now) c.from-next.result (arguments_seen d) (next_seen d) c.in-Ok.found.items c.in-Ok.ensures)

pub solve-requires-clause-after : goal.solve-requires-clause-after
solve-requires-clause-after c = place_in c.args.region.now c.args.place c.requires.place

pub returns-in-Some-clause-comes : goal.returns-in-Some-clause-comes
returns-in-Some-clause-comes c =
    let d = (goal.at.returns-in-Some-clause-comes c).After-deref in
    let r = c.args.region.now in
    let p = c.in_ok-position-in-Ok.field-0 in
    let solves = subst (λ ss. Solves r c.solve.new.self ss c.args.place.after p) (c.in_ok-solutions-in-Ok.ensures ∙ ap (λ (xs : List Found). map copied_solution (map solution_meant xs)) c.deref-in-Ok.ensures.value) c.in_ok-position-in-Ok.ensures in
    solved_at r c.args.form c.args.builtin (name_at (text_in r.store).names c.args.form.name) c.requires.row c.requires.there (valid d) (terms_from c.deref.result.now) c.from-next.result (arguments_seen d) (next_seen d) c.in-Ok.found.items c.in-Ok.ensures c.solve.new.self c.args.place p solves c.in-Some.position c.in-Some.is

pub returns-in-Ok-clause-comes : goal.returns-in-Ok-clause-comes
returns-in-Ok-clause-comes c =
    let d = (goal.at.returns-in-Ok-clause-comes c).After-deref in
    let r = c.args.region.now in
    let p = c.in_ok-position-in-Ok.field-0 in
    let solves = subst (λ ss. Solves r c.solve.new.self ss c.args.place.after p) (c.in_ok-solutions-in-Ok.ensures ∙ ap (λ (xs : List Found). map copied_solution (map solution_meant xs)) c.deref-in-Ok.ensures.value) c.in_ok-position-in-Ok.ensures in
    solved_none r c.args.form c.args.builtin (name_at (text_in r.store).names c.args.form.name) c.requires.row c.requires.there (valid d) (terms_from c.deref.result.now) c.from-next.result (arguments_seen d) (next_seen d) c.in-Ok.found.items c.in-Ok.ensures c.solve.new.self c.args.place p solves c.in-None.is
