use Rattle.branch_shapes.proofs.ChoiceScopeLemmas.{choices_are_scopes, items_are_named, items_have_heights, items_are_whole}
use Rattle.branch_shapes.proofs.laws.choices_are_scopes.Goals as goal

pub returns : goal.returns
returns c = record { choices = choices_are_scopes; items = items_are_named; heights = items_have_heights; whole = items_are_whole }
