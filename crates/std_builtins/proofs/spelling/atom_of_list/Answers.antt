use Rattle.std.proofs.Common.{◌≡◌, ◌∙◌, List, sym, ap, ap₂, subst}
use Rattle.std.specs.Str.{chars}
use Rattle.std.specs.String.{string_bytes}
use Rattle.au_term.specs.Term.{Term, AtomTerm}
use Rattle.run_model.specs.Goals.BuiltinAnswers.{Answer, equal}
use Rattle.run_model.specs.Goals.ListForms.{list_form}
use Rattle.run_model.specs.Goals.AtomGoals.{with_text}
use Rattle.std_builtins.specs.Answers.{IsAnswer}
use Rattle.au_model.specs.Terms.ListCells.{IsForm}
use Rattle.std_builtins.specs.Meanings.{spelling_meant}
use Rattle.std_builtins.specs.declared.spelling.Spelling.{Spelling}
use Rattle.std_builtins.proofs.TextLemmas.{items_refused, items_passed, text_refused}
use Rattle.std_builtins.proofs.spelling.atom_of_list.Goals as goal

due : Spelling → Term → List Term → Answer
due by t ts = with_text (spelling_meant by) ts (λ cs. equal t (AtomTerm cs))

pub returns-in_err-check_each-in-Proper : goal.returns-in_err-check_each-in-Proper
unfolding due
returns-in_err-check_each-in-Proper c =
    let form = subst (IsForm (list_form c.args.list.now)) c.in-Proper.is c.in_ok-list_form.ensures in
    items_refused c.args.list.now (list_form c.args.list.now) c.deref.result.now c.in-Proper.items.items (due c.args.by c.args.atom.now) form c.deref.ensures.value c.check_each.result c.in_err-check_each-in-Proper.field-0.0 c.from_residual-in_err-check_each-in-Proper.result c.check_each.ensures c.in_err-check_each-in-Proper.was c.from_residual-in_err-check_each-in-Proper.ensures.1

pub returns-in_err-text-in-Proper : goal.returns-in_err-text-in-Proper
unfolding due
returns-in_err-text-in-Proper c =
    let form = subst (IsForm (list_form c.args.list.now)) c.in-Proper.is c.in_ok-list_form.ensures in
    let ts = c.deref.result.now in
    let read = c.text_of_items.ensures (λ cs. equal c.args.atom.now (AtomTerm cs)) in
    items_passed c.args.list.now (list_form c.args.list.now) ts c.in-Proper.items.items (due c.args.by c.args.atom.now) form c.deref.ensures.value c.from_residual-in_err-text-in-Proper.result c.in_ok-check_each-in-Proper.ensures
    (subst (λ us. IsAnswer (due c.args.by c.args.atom.now us) c.from_residual-in_err-text-in-Proper.result) (c.deref-in-Proper.ensures.value ∙ sym c.deref.ensures.value)
    (text_refused (due c.args.by c.args.atom.now c.deref-in-Proper.result.now) (λ cs. equal c.args.atom.now (AtomTerm cs)) c.text_of_items.result c.in_err-text-in-Proper.field-0.0 c.from_residual-in_err-text-in-Proper.result read c.in_err-text-in-Proper.was c.from_residual-in_err-text-in-Proper.ensures.1))

pub returns : goal.returns
unfolding due
returns c =
    let form = subst (IsForm (list_form c.args.list.now)) c.in-Proper.is c.in_ok-list_form.ensures in
    let ts = c.deref.result.now in
    let read : due c.args.by c.args.atom.now c.deref-in-Proper.result.now ≡ equal c.args.atom.now (AtomTerm (chars (string_bytes c.in_ok-text-in-Proper.text))) = c.in_ok-text-in-Proper.ensures (λ cs. equal c.args.atom.now (AtomTerm cs)) in
    let made = c.in_ok-made-in-Proper.ensures ∙ ap (λ bs. AtomTerm (chars bs)) c.as_str.ensures.value in
    let found = ap₂ equal c.in_ok-copy-in-Proper.ensures made ∙ sym read in
    items_passed c.args.list.now (list_form c.args.list.now) ts c.in-Proper.items.items (due c.args.by c.args.atom.now) form c.deref.ensures.value c.equal.result c.in_ok-check_each-in-Proper.ensures
    (subst (λ us. IsAnswer (due c.args.by c.args.atom.now us) c.equal.result) (c.deref-in-Proper.ensures.value ∙ sym c.deref.ensures.value)
    (subst (λ a. IsAnswer a c.equal.result) found c.equal.ensures))
