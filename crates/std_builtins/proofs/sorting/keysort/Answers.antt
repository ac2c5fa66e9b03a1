use Rattle.run_model.specs.Goals.Sorting.{keysort_answer}
use Rattle.std_builtins.proofs.SortGoalLemmas.{items_missing, by_keys, pairs_refused, pairs_sorted}
use Rattle.std_builtins.proofs.sorting.keysort.Goals as goal

pub returns-in_err-pairs : goal.returns-in_err-pairs
returns-in_err-pairs c = items_missing (keysort_answer c.args.list.now c.args.sorted.now) (by_keys c.args.sorted.now) c.items_to_sort.result c.in_err-pairs.field-0.0 c.from_residual.result (c.items_to_sort.ensures (by_keys c.args.sorted.now)) c.in_err-pairs.was c.from_residual.ensures.1

pub returns-in_err-check_each : goal.returns-in_err-check_each
returns-in_err-check_each c =
    pairs_refused (keysort_answer c.args.list.now c.args.sorted.now) c.args.sorted.now c.deref.result.now c.in_ok-pairs.pairs.items c.check_each.result c.in_err-check_each.field-0.0 c.from_residual-in_err-check_each.result (c.in_ok-pairs.ensures (by_keys c.args.sorted.now)) c.deref.ensures.value c.check_each.ensures c.in_err-check_each.was c.from_residual-in_err-check_each.ensures.1

pub returns : goal.returns
returns c =
    pairs_sorted (keysort_answer c.args.list.now c.args.sorted.now) c.args.sorted.now c.in_ok-copy.field-0 c.in_ok-list_of.field-0 c.deref.result.now c.deref-2.result.now c.in_ok-pairs.pairs.items c.key_sort.new.pairs.items c.equal.result (c.in_ok-pairs.ensures (by_keys c.args.sorted.now)) c.deref.ensures.value c.in_ok-check_each.ensures c.in_ok-key_sort.ensures c.deref-2.ensures.value c.in_ok-list_of.ensures c.in_ok-copy.ensures c.equal.ensures
