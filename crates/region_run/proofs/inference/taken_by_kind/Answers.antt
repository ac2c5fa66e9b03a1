use Rattle.std.proofs.Common.{◌≡◌, false, subst}
use Rattle.std.proofs.lemmas.Result.{IfOk-weaker}
use Rattle.clause_compile.specs.AtomNumbers.{name_at}
use Rattle.cell_store.specs.StoreView.{text_in}
use Rattle.goal_kinds.specs.Kinds.{IsKindOf}
use Rattle.region_run.specs.Inferences.{is_procedure_call}
use Rattle.region_run.proofs.InferenceLemmas.{builtin_infers, world_infers, call_asks}
use Rattle.region_run.proofs.inference.taken_by_kind.Goals as goal

pub returns-in-Builtin-clause-infers : goal.returns-in-Builtin-clause-infers
returns-in-Builtin-clause-infers c =
    let r = c.args.region.now in
    let kind = subst (IsKindOf (name_at (text_in r.store).names c.args.form.name) c.args.form.arguments.count) c.in-Builtin.is c.requires.kind in
    IfOk-weaker c.builtin_goal.result _ _
    (λ after k. builtin_infers r c.args.goal c.args.form c.requires.form c.builtin_goal.new.region c.in-Builtin.builtin c.args.place after kind k) c.builtin_goal.ensures.comes

pub returns-in-World-clause-infers : goal.returns-in-World-clause-infers
returns-in-World-clause-infers c =
    let r = c.args.region.now in
    let kind = subst (IsKindOf (name_at (text_in r.store).names c.args.form.name) c.args.form.arguments.count) c.in-World.is c.requires.kind in
    world_infers r c.args.goal c.args.form c.requires.form c.in-World.field-0 c.args.place kind

pub returns-in-Call-clause-infers : goal.returns-in-Call-clause-infers
returns-in-Call-clause-infers c =
    let r = c.args.region.now in
    let kind = subst (IsKindOf (name_at (text_in r.store).names c.args.form.name) c.args.form.arguments.count) c.in-Call.is c.requires.kind in
    let other = subst (λ k. is_procedure_call r k c.args.form ≡ false) c.in-Call.is c.requires.other in
    call_asks r c.args.goal c.args.form c.requires.form c.args.place kind other

pub builtin_goal-requires-clause-row : goal.builtin_goal-requires-clause-row
builtin_goal-requires-clause-row c =
    let r = c.args.region.now in
    (subst (IsKindOf (name_at (text_in r.store).names c.args.form.name) c.args.form.arguments.count) c.in-Builtin.is c.requires.kind).1
