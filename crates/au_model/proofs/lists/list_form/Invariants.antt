use Rattle.std.proofs.Common.{◌≡◌, ◌<◌, length}
use Rattle.au_term.specs.PrefixOrder.{cells_of, subterm}
use Rattle.au_model.specs.Terms.ListForms.{list_form}
use Rattle.au_model.specs.Terms.Unifier.{size}
use Rattle.au_model.specs.Terms.ListCells.{items_before}
use Rattle.au_model.proofs.lists.list_form.Given as goal

abbrev pub invariant-items : goal.invariant-items
invariant-items l = record {
  within : l.at < length (cells_of l.term);
  same : items_before l.items.items (list_form (subterm l.at l.term)) ≡ list_form l.term;
}

abbrev pub decreases-items : goal.decreases-items
decreases-items l = size (subterm l.at l.term)
