use Rattle.std.proofs.Common.{◌≡◌, ◌++◌, map}
use Rattle.au_term.specs.Shifted.{shifted}
use Rattle.run_model.specs.Programs.Bodies.{clause_goals_of}
use Rattle.region_world.proofs.FoundLemmas.{item_goals}
use Rattle.region_world.proofs.found.shifted_goals.Given as goal

abbrev pub invariant-loop-item : goal.invariant-loop-item
invariant-loop-item l = l.terms.items ++ item_goals l.item-iterator ≡ map (shifted l.base) (clause_goals_of l.clause.body)
