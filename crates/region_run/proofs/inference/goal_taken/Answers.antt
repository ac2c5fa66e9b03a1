use Rattle.std.proofs.Common.{◌≡◌, false, sym, ◌∙◌, subst}
use Rattle.std.proofs.lemmas.Result.{IfOk-weaker}
use Rattle.au_model.specs.Terms.Forms.{is_callable}
use Rattle.clause_compile.specs.AtomNumbers.{name_at}
use Rattle.cell_store.specs.StoreView.{StoreView, meaning, text_in}
use Rattle.goal_kinds.specs.Kinds.{IsKindOf}
use Rattle.region_control.specs.GoalForms.{IsFormOf}
use Rattle.region_control.specs.Replies.{LeavesOutcome}
use Rattle.region_run.proofs.InferenceLemmas.{uncallable, calls_defined}
use Rattle.region_run.proofs.inference.goal_taken.Goals as goal

pub returns-in_default-clause-infers : goal.returns-in_default-clause-infers
returns-in_default-clause-infers c =
    let r = c.args.region.now in
    let no : is_callable (meaning r.store c.args.goal) ≡ false = subst (λ (st : StoreView). is_callable (meaning st c.args.goal) ≡ false) c.store.ensures.store c.in_default.ensures in
    IfOk-weaker c.called.result _ _ (λ after k. subst (λ o. LeavesOutcome r c.called.new.region o c.args.place after) (sym (uncallable r.text.clauses (meaning r.store c.args.goal) r.store.now.next no)) k) c.called.ensures.comes

pub procedure_called-requires-clause-callable : goal.procedure_called-requires-clause-callable
procedure_called-requires-clause-callable c =
    let form = subst (λ (st : StoreView). IsFormOf st c.args.goal c.in-Some.form) c.store.ensures.store c.in-Some.ensures in
    form.callable

pub procedure_called-requires-clause-row : goal.procedure_called-requires-clause-row
procedure_called-requires-clause-row c =
    let form = subst (λ (st : StoreView). IsFormOf st c.args.goal c.in-Some.form) c.store.ensures.store c.in-Some.ensures in
    let kind = subst (λ (st : StoreView). IsKindOf (name_at (text_in st).names c.in-Some.form.name) c.in-Some.form.arguments.count c.kind_of-kind.result) c.store-2.ensures.store c.kind_of-kind.ensures in
    (calls_defined c.args.region.now c.args.goal c.in-Some.form form c.kind_of-kind.result kind (sym c.calls_procedure.ensures ∙ c.if-calls_procedure.true)).0

pub procedure_called-requires-clause-defined : goal.procedure_called-requires-clause-defined
procedure_called-requires-clause-defined c =
    let form = subst (λ (st : StoreView). IsFormOf st c.args.goal c.in-Some.form) c.store.ensures.store c.in-Some.ensures in
    let kind = subst (λ (st : StoreView). IsKindOf (name_at (text_in st).names c.in-Some.form.name) c.in-Some.form.arguments.count c.kind_of-kind.result) c.store-2.ensures.store c.kind_of-kind.ensures in
    (calls_defined c.args.region.now c.args.goal c.in-Some.form form c.kind_of-kind.result kind (sym c.calls_procedure.ensures ∙ c.if-calls_procedure.true)).1
