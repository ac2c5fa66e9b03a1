use Rattle.std.proofs.Common.{subst}
use Rattle.run_model.specs.Goals.ListForms.{list_form}
use Rattle.au_model.specs.Terms.ListCells.{IsForm}
use Rattle.std_builtins.proofs.SortGoalLemmas.{unsorted, result_refused}
use Rattle.std_builtins.proofs.sorting.items_to_sort.Goals as goal

pub returns-in-NoList : goal.returns-in-NoList
returns-in-NoList c = λ answer.
    unsorted c.args.list.now c.args.sorted.now (list_form c.args.list.now) (list_form c.args.sorted.now) answer c.no_list.result (subst (IsForm (list_form c.args.list.now)) c.in-NoList.is c.in_ok-list_form.ensures) (c.no_list.ensures answer)

pub returns-in-NoList-2 : goal.returns-in-NoList-2
returns-in-NoList-2 c = λ answer.
    result_refused c.args.list.now c.args.sorted.now (list_form c.args.list.now) (list_form c.args.sorted.now) c.in-Proper.items.items answer c.no_list-in-NoList-2.result (subst (IsForm (list_form c.args.list.now)) c.in-Proper.is c.in_ok-list_form.ensures)
    (subst (IsForm (list_form c.args.sorted.now)) c.in-NoList-2.is c.in_ok-list_form-in-Proper.ensures) (c.no_list-in-NoList-2.ensures answer)
