use Rattle.std.proofs.Common.{◌≡◌, ◌∙◌, sym, ap, subst}
use Rattle.run_model.specs.Goals.ListForms.{PartialList, ProperList, NoList}
use Rattle.std.specs.List.{list_all}
use Rattle.run_model.specs.Goals.AtomGoals.{is_bound}
use Rattle.run_model.specs.Goals.NumberTexts.{number_text}
use Rattle.std_builtins.specs.Answers.{IsAnswer}
use Rattle.au_model.specs.Terms.ListCells.{IsForm}
use Rattle.std_builtins.specs.Meanings.{spelling_meant}
use Rattle.std_builtins.proofs.TextLemmas.{number_is_read, number_is_written}
use Rattle.std_builtins.proofs.numbers.number_of_form.Goals as goal

pub returns-in-NoList : goal.returns-in-NoList
returns-in-NoList c = λ f h.
    let form : f ≡ NoList = subst (IsForm f) c.in-NoList.is h in
    subst (λ g. IsAnswer (number_text (spelling_meant c.args.by) c.args.number.now c.args.list.now g) c.unwritten.result) (sym form) (c.unwritten.ensures (spelling_meant c.args.by))

pub returns-in-Partial : goal.returns-in-Partial
returns-in-Partial c = λ f h.
    let form : f ≡ PartialList c.in-Partial.field-0.items = subst (IsForm f) c.in-Partial.is h in
    subst (λ g. IsAnswer (number_text (spelling_meant c.args.by) c.args.number.now c.args.list.now g) c.written.result) (sym form) (c.written.ensures (PartialList c.in-Partial.field-0.items) (λ e. absurd cc))

pub returns-then-all_bound : goal.returns-then-all_bound
returns-then-all_bound c = λ f h.
    let form : f ≡ ProperList c.in-Proper.items.items = subst (IsForm f) c.in-Proper.is h in
    number_is_read (spelling_meant c.args.by) c.args.number.now c.args.list.now c.deref-then-all_bound.result.now c.in-Proper.items.items f c.all_bound.result c.number_of_items.result form c.deref-then-all_bound.ensures.value
    (c.all_bound.ensures ∙ ap (list_all is_bound) (c.deref.ensures.value ∙ sym c.deref-then-all_bound.ensures.value)) c.if-all_bound.true c.number_of_items.ensures

pub returns : goal.returns
returns c = λ f h.
    let form : f ≡ ProperList c.in-Proper.items.items = subst (IsForm f) c.in-Proper.is h in
    number_is_written (spelling_meant c.args.by) c.args.number.now c.args.list.now c.deref.result.now c.in-Proper.items.items f c.all_bound.result c.written-else-all_bound.result form c.deref.ensures.value c.all_bound.ensures c.if-all_bound.false c.written-else-all_bound.ensures
