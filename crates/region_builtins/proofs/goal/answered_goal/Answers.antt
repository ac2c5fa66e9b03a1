use Rattle.std.proofs.Common.{sym, ap, ◌∙◌, subst}
use Rattle.std.proofs.lemmas.Result.{IfOk-weaker}
use Rattle.clause_compile.specs.AtomNumbers.{name_at}
use Rattle.cell_store.specs.StoreView.{text_in}
use Rattle.std_builtins.specs.Meanings.{answer_of}
use Rattle.run_model.specs.Goals.BuiltinAnswers.{Answer, holds_if}
use Rattle.region_control.specs.GoalForms.{argument_terms}
use Rattle.region_control.specs.declared.replies.AfterGoal.TheVariants.{At, Failed}
use Rattle.region_split.proofs.StoreLemmas.{stays_same}
use Rattle.region_builtins.specs.QuickAnswers.{IsQuickAnswer}
use Rattle.region_builtins.proofs.ReplyLemmas.{holds, fails, nothing_bound, no_unifier, quick_seen, answers_same}
use Rattle.region_builtins.proofs.OrderLemmas.{same_atoms, other_atoms}
use Rattle.region_builtins.proofs.goal.answered_goal.Goals as goal

pub equate-requires-clause-left : goal.equate-requires-clause-left
equate-requires-clause-left c =
    let r = c.args.region.now in
    let answer : Answer = answer_of c.args.builtin (argument_terms r.store c.args.form.arguments) r.store.now.next in
    (subst (IsQuickAnswer r.store answer) c.in-Equal.is (quick_seen r c.store.result.now c.args.builtin c.args.form.arguments _ c.store.ensures.store c.in_ok-quick_answer.ensures)).0

pub equate-requires-clause-right : goal.equate-requires-clause-right
equate-requires-clause-right c =
    let r = c.args.region.now in
    let answer : Answer = answer_of c.args.builtin (argument_terms r.store c.args.form.arguments) r.store.now.next in
    (subst (IsQuickAnswer r.store answer) c.in-Equal.is (quick_seen r c.store.result.now c.args.builtin c.args.form.arguments _ c.store.ensures.store c.in_ok-quick_answer.ensures)).1

pub returns-in-Holds-true-clause-comes : goal.returns-in-Holds-true-clause-comes
returns-in-Holds-true-clause-comes c =
    let r = c.args.region.now in
    let answer : Answer = answer_of c.args.builtin (argument_terms r.store c.args.form.arguments) r.store.now.next in
    let known = subst (IsQuickAnswer r.store answer) c.in-Holds-true.is (quick_seen r c.store.result.now c.args.builtin c.args.form.arguments _ c.store.ensures.store c.in_ok-quick_answer.ensures) in
    answers_same r r c.args.form answer _ c.args.place (At c.args.place.after) (known ∙ ap holds_if c.in-Holds-true.field-0-test) (holds r c.args.place c.requires.place (name_at (text_in r.store).names c.args.form.name) c.args.form.arguments.count)

pub returns-in-Holds-false-clause-comes : goal.returns-in-Holds-false-clause-comes
returns-in-Holds-false-clause-comes c =
    let r = c.args.region.now in
    let answer : Answer = answer_of c.args.builtin (argument_terms r.store c.args.form.arguments) r.store.now.next in
    let known = subst (IsQuickAnswer r.store answer) c.in-Holds-false.is (quick_seen r c.store.result.now c.args.builtin c.args.form.arguments _ c.store.ensures.store c.in_ok-quick_answer.ensures) in
    answers_same r r c.args.form answer _ c.args.place Failed (known ∙ ap holds_if c.in-Holds-false.field-0-test) (fails r c.args.place c.requires.place (name_at (text_in r.store).names c.args.form.name) c.args.form.arguments.count)

pub returns-in-Equal-clause-comes : goal.returns-in-Equal-clause-comes
returns-in-Equal-clause-comes c =
    let r = c.args.region.now in
    let answer : Answer = answer_of c.args.builtin (argument_terms r.store c.args.form.arguments) r.store.now.next in
    let known = subst (IsQuickAnswer r.store answer) c.in-Equal.is (quick_seen r c.store.result.now c.args.builtin c.args.form.arguments _ c.store.ensures.store c.in_ok-quick_answer.ensures) in
    IfOk-weaker c.equate.result _ _ (λ after k. answers_same r c.equate.new.region c.args.form answer _ c.args.place after known.2 (k (name_at (text_in r.store).names c.args.form.name) c.args.form.arguments.count)) c.equate.ensures.comes

pub differ-requires-clause-left : goal.differ-requires-clause-left
differ-requires-clause-left c =
    let r = c.args.region.now in
    let answer : Answer = answer_of c.args.builtin (argument_terms r.store c.args.form.arguments) r.store.now.next in
    (subst (IsQuickAnswer r.store answer) c.in-Apart.is (quick_seen r c.store.result.now c.args.builtin c.args.form.arguments _ c.store.ensures.store c.in_ok-quick_answer.ensures)).0

pub differ-requires-clause-right : goal.differ-requires-clause-right
differ-requires-clause-right c =
    let r = c.args.region.now in
    let answer : Answer = answer_of c.args.builtin (argument_terms r.store c.args.form.arguments) r.store.now.next in
    (subst (IsQuickAnswer r.store answer) c.in-Apart.is (quick_seen r c.store.result.now c.args.builtin c.args.form.arguments _ c.store.ensures.store c.in_ok-quick_answer.ensures)).1

pub returns-in-Apart-clause-comes : goal.returns-in-Apart-clause-comes
returns-in-Apart-clause-comes c =
    let r = c.args.region.now in
    let answer : Answer = answer_of c.args.builtin (argument_terms r.store c.args.form.arguments) r.store.now.next in
    let known = subst (IsQuickAnswer r.store answer) c.in-Apart.is (quick_seen r c.store.result.now c.args.builtin c.args.form.arguments _ c.store.ensures.store c.in_ok-quick_answer.ensures) in
    IfOk-weaker c.differ.result _ _ (λ after k. answers_same r c.differ.new.region c.args.form answer _ c.args.place after known.2 (k (name_at (text_in r.store).names c.args.form.name) c.args.form.arguments.count)) c.differ.ensures.comes

pub returns-in-Raises-clause-comes : goal.returns-in-Raises-clause-comes
returns-in-Raises-clause-comes c =
    let r = c.args.region.now in
    let answer : Answer = answer_of c.args.builtin (argument_terms r.store c.args.form.arguments) r.store.now.next in
    let known = subst (IsQuickAnswer r.store answer) c.in-Raises.is (quick_seen r c.store.result.now c.args.builtin c.args.form.arguments _ c.store.ensures.store c.in_ok-quick_answer.ensures) in
    IfOk-weaker c.raise_error.result _ _ (λ after k. answers_same r c.raise_error.new.region c.args.form answer _ c.args.place after known k) c.raise_error.ensures.comes

pub equate_both-requires-clause-first : goal.equate_both-requires-clause-first
equate_both-requires-clause-first c =
    let r = c.args.region.now in
    let answer : Answer = answer_of c.args.builtin (argument_terms r.store c.args.form.arguments) r.store.now.next in
    let known = subst (IsQuickAnswer r.store answer) c.in-BothEqual.is (quick_seen r c.store.result.now c.args.builtin c.args.form.arguments _ c.store.ensures.store c.in_ok-quick_answer.ensures) in
    known.0

pub equate_both-requires-clause-second : goal.equate_both-requires-clause-second
equate_both-requires-clause-second c =
    let r = c.args.region.now in
    let answer : Answer = answer_of c.args.builtin (argument_terms r.store c.args.form.arguments) r.store.now.next in
    let known = subst (IsQuickAnswer r.store answer) c.in-BothEqual.is (quick_seen r c.store.result.now c.args.builtin c.args.form.arguments _ c.store.ensures.store c.in_ok-quick_answer.ensures) in
    known.1

pub returns-in-BothEqual-clause-comes : goal.returns-in-BothEqual-clause-comes
returns-in-BothEqual-clause-comes c =
    let r = c.args.region.now in
    let answer : Answer = answer_of c.args.builtin (argument_terms r.store c.args.form.arguments) r.store.now.next in
    let known = subst (IsQuickAnswer r.store answer) c.in-BothEqual.is (quick_seen r c.store.result.now c.args.builtin c.args.form.arguments _ c.store.ensures.store c.in_ok-quick_answer.ensures) in
    IfOk-weaker c.equate_both.result _ _ (λ after k. answers_same r c.equate_both.new.region c.args.form answer _ c.args.place after known.2 (k (name_at (text_in r.store).names c.args.form.name) c.args.form.arguments.count)) c.equate_both.ensures.comes

pub equate_ordered-requires-clause-value : goal.equate_ordered-requires-clause-value
equate_ordered-requires-clause-value c =
    let r = c.args.region.now in
    let answer : Answer = answer_of c.args.builtin (argument_terms r.store c.args.form.arguments) r.store.now.next in
    let known = subst (IsQuickAnswer r.store answer) c.in-Ordered.is (quick_seen r c.store.result.now c.args.builtin c.args.form.arguments _ c.store.ensures.store c.in_ok-quick_answer.ensures) in
    known.0

pub returns-in-Ordered-clause-comes : goal.returns-in-Ordered-clause-comes
returns-in-Ordered-clause-comes c =
    let r = c.args.region.now in
    let answer : Answer = answer_of c.args.builtin (argument_terms r.store c.args.form.arguments) r.store.now.next in
    let known = subst (IsQuickAnswer r.store answer) c.in-Ordered.is (quick_seen r c.store.result.now c.args.builtin c.args.form.arguments _ c.store.ensures.store c.in_ok-quick_answer.ensures) in
    IfOk-weaker c.equate_ordered.result _ _ (λ after k. answers_same r c.equate_ordered.new.region c.args.form answer _ c.args.place after known.1 (k (name_at (text_in r.store).names c.args.form.name) c.args.form.arguments.count)) c.equate_ordered.ensures.comes

pub returns-in-Alike-true-clause-comes : goal.returns-in-Alike-true-clause-comes
returns-in-Alike-true-clause-comes c =
    let r = c.args.region.now in
    let answer : Answer = answer_of c.args.builtin (argument_terms r.store c.args.form.arguments) r.store.now.next in
    let known = subst (IsQuickAnswer r.store answer) c.in-Alike-true.is (quick_seen r c.store.result.now c.args.builtin c.args.form.arguments _ c.store.ensures.store c.in_ok-quick_answer.ensures) in
    answers_same r r c.args.form answer _ c.args.place (At c.args.place.after) known.is (nothing_bound r c.args.place c.requires.place _ (same_atoms known.left known.right (sym c.in-Alike-true.field-0-test ∙ known.same)) (name_at (text_in r.store).names c.args.form.name) c.args.form.arguments.count)

pub returns-in-Alike-false-clause-comes : goal.returns-in-Alike-false-clause-comes
returns-in-Alike-false-clause-comes c =
    let r = c.args.region.now in
    let answer : Answer = answer_of c.args.builtin (argument_terms r.store c.args.form.arguments) r.store.now.next in
    let known = subst (IsQuickAnswer r.store answer) c.in-Alike-false.is (quick_seen r c.store.result.now c.args.builtin c.args.form.arguments _ c.store.ensures.store c.in_ok-quick_answer.ensures) in
    answers_same r r c.args.form answer _ c.args.place Failed known.is (no_unifier r c.args.place c.requires.place r (stays_same r) _ (other_atoms known.left known.right (sym c.in-Alike-false.field-0-test ∙ known.same)) (name_at (text_in r.store).names c.args.form.name) c.args.form.arguments.count)
