use Rattle.std.proofs.Common.{◌≡◌, rules}
use Rattle.std.specs.Ordering.{is_lt}
use Rattle.std.proofs.lemmas.List.Sorted.{answers_always, ranks_by}
use Rattle.run_model.specs.Goals.Sorting.{precedes}
use Rattle.term_order.proofs.TermOrder.{terms_total}
use Rattle.term_order.proofs.SortedLemmas.{sorted_is}
use Rattle.term_order.proofs.sorting.sort_terms.Goals as goal

pub returns : goal.returns
returns c =
    let ranks = ranks_by terms_total (λ t. t) in
    sorted_is precedes ranks c.args.terms.now.items c.sort_by.new.self.items (c.in_ok-sort_by.ensures.sorted precedes ranks (answers_always _ (λ a r. is_lt r ≡ precedes a.0.now a.1.0.now) _ (λ f a r f' k. search rules)))
    (c.sort_by.ensures.stable precedes ranks (answers_always _ (λ a r. is_lt r ≡ precedes a.0.now a.1.0.now) _ (λ f a r f' k. search rules)))
