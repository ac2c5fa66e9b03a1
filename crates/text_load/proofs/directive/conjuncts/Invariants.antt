use Rattle.std.proofs.Common.{◌≡◌, ◌<◌, ◌++◌, length, drop}
use Rattle.au_term.specs.PrefixOrder.{cells_of}
use Rattle.au_model.specs.Terms.Each.{Each}
use Rattle.clause_compile.specs.GoalPlaces.{subterms_at}
use Rattle.run_model.specs.Programs.Bodies.{goals_of}
use Rattle.text_load.proofs.directive.conjuncts.Given as goal

abbrev pub invariant-loop-place : goal.invariant-loop-place
invariant-loop-place l = record {
  within : Each (λ at. at < length (cells_of l.term)) (drop l.place-index l.place-items);
  are : l.parts.items ++ subterms_at l.term (drop l.place-index l.place-items) ≡ goals_of l.term;
}
