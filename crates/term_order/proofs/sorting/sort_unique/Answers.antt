use Rattle.std.proofs.Common.{◌∙◌, ap, rules}
use Rattle.std.specs.List.{dedup}
use Rattle.std.proofs.lemmas.Fn.{dedup_same}
use Rattle.run_model.specs.Goals.Sorting.{is_same}
use Rattle.term_order.proofs.sorting.sort_unique.Goals as goal

pub returns : goal.returns
returns c = dedup_same _ is_same _ (λ x y b f' x' y' k. search rules) _ _ c.dedup_by.ensures.filtered ∙ ap (dedup is_same) c.in_ok-sort_terms.ensures
