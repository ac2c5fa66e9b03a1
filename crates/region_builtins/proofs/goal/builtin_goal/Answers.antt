use Rattle.std.proofs.Common.{◌≡◌, ℕ, ap, ◌∙◌, subst}
use Rattle.std.specs.Prelude.{MatchOption}
use Rattle.std.proofs.lemmas.Result.{IfOk-weaker}
use Rattle.clause_compile.specs.AtomNumbers.{name_at}
use Rattle.cell_store.specs.StoreView.{text_in}
use Rattle.std_builtins.specs.Meanings.{answer_of}
use Rattle.run_model.specs.Goals.BuiltinAnswers.{Answer, holds_if}
use Rattle.region_control.specs.GoalForms.{argument_terms}
use Rattle.region_control.specs.declared.replies.AfterGoal.TheVariants.{At}
use Rattle.region_builtins.proofs.ReplyLemmas.{holds, pair_seen, test_seen, answers_same}
use Rattle.region_builtins.proofs.goal.builtin_goal.Goals as goal

pub equate-requires-clause-left : goal.equate-requires-clause-left
equate-requires-clause-left c =
    (pair_seen c.args.region.now c.store.result.now c.args.builtin c.args.form.arguments (c.in-Some.left, c.in-Some.right) c.store.ensures.store c.in-Some.ensures).0.0

pub equate-requires-clause-right : goal.equate-requires-clause-right
equate-requires-clause-right c =
    (pair_seen c.args.region.now c.store.result.now c.args.builtin c.args.form.arguments (c.in-Some.left, c.in-Some.right) c.store.ensures.store c.in-Some.ensures).0.1

pub returns-in-Some-clause-comes : goal.returns-in-Some-clause-comes
returns-in-Some-clause-comes c =
    let r = c.args.region.now in
    let answer : Answer = answer_of c.args.builtin (argument_terms r.store c.args.form.arguments) r.store.now.next in
    let known = pair_seen r c.store.result.now c.args.builtin c.args.form.arguments (c.in-Some.left, c.in-Some.right) c.store.ensures.store c.in-Some.ensures in
    IfOk-weaker c.equate.result _ _ (λ after k. answers_same r c.equate.new.region c.args.form answer _ c.args.place after known.1 (k (name_at (text_in r.store).names c.args.form.name) c.args.form.arguments.count)) c.equate.ensures.comes

pub returns-in-Some-true-clause-comes : goal.returns-in-Some-true-clause-comes
returns-in-Some-true-clause-comes c =
    let r = c.args.region.now in
    let a = c.args.form.arguments in
    let answer : Answer = answer_of c.args.builtin (argument_terms r.store a) r.store.now.next in
    let told = subst (λ o. MatchOption o (Unit {0}) (λ h. (next : ℕ) → answer_of c.args.builtin (argument_terms c.store-2.result.now a) next ≡ holds_if h)) c.in-Some-true.is c.in_ok-test_holds.ensures in
    let known = test_seen r c.store-2.result.now c.args.builtin a c.in-Some-true.field-0 c.store-2.ensures.store told in
    answers_same r r c.args.form answer _ c.args.place (At c.args.place.after) (known ∙ ap holds_if c.in-Some-true.field-0-test) (holds r c.args.place c.requires.place (name_at (text_in r.store).names c.args.form.name) a.count)
