use Rattle.au_model.specs.Terms.Forms.{list_term}
use Rattle.run_model.specs.Goals.BuiltinAnswers.{equal}
use Rattle.run_model.specs.Goals.Sorting.{sort_answer, sorted_terms}
use Rattle.std_builtins.proofs.SortGoalLemmas.{items_missing}
use Rattle.std_builtins.proofs.sorting.sort.Goals as goal

pub returns-in_err-items : goal.returns-in_err-items
returns-in_err-items c =
    items_missing (sort_answer c.args.list.now c.args.sorted.now) (λ ts. equal c.args.sorted.now (list_term (sorted_terms ts))) c.items_to_sort.result c.in_err-items.field-0.0 c.from_residual.result (c.items_to_sort.ensures (λ ts. equal c.args.sorted.now (list_term (sorted_terms ts)))) c.in_err-items.was c.from_residual.ensures.1
