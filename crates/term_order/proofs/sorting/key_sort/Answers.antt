use Rattle.std.proofs.Common.{◌≡◌, rules}
use Rattle.std.specs.Ordering.{is_lt}
use Rattle.std.proofs.lemmas.List.Sorted.{answers_always, ranks_by}
use Rattle.run_model.specs.Goals.Sorting.{is_key_before, key_of_pair}
use Rattle.term_order.proofs.TermOrder.{terms_total}
use Rattle.term_order.proofs.SortedLemmas.{sorted_is}
use Rattle.term_order.proofs.sorting.key_sort.Goals as goal

pub returns : goal.returns
returns c =
    let ranks = ranks_by terms_total key_of_pair in
    sorted_is is_key_before ranks c.args.pairs.now.items c.sort_by.new.self.items (c.in_ok-sort_by.ensures.sorted is_key_before ranks (answers_always _ (λ a r. is_lt r ≡ is_key_before a.0.now a.1.0.now) _ (λ f a r f' k. search rules)))
    (c.sort_by.ensures.stable is_key_before ranks (answers_always _ (λ a r. is_lt r ≡ is_key_before a.0.now a.1.0.now) _ (λ f a r f' k. search rules)))
