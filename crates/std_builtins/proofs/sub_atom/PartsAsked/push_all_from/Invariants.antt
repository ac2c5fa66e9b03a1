use Rattle.std.proofs.Common.{◌≡◌, ◌≤◌, ◌++◌, filter, map}
use Rattle.std.specs.List.{range_with_len}
use Rattle.run_model.specs.Goals.AtomParts.{fits_part, part_at, part_solution}
use Rattle.std_builtins.specs.Answers.{solution_meant}
use Rattle.std_builtins.specs.AskedParts.{asked_meant}
use Rattle.std_builtins.proofs.sub_atom.PartsAsked.push_all_from.Given as goal

abbrev pub invariant-loop-count : goal.invariant-loop-count
invariant-loop-count l = record {
  kept : map solution_meant l.solutions.items ≡ map solution_meant l.initial.solutions.items ++ map (part_solution (asked_meant l.self)) (filter (fits_part (asked_meant l.self)) (map (part_at l.characters l.start) (range_with_len 0 l.count)));
  within : l.count ≤ l.rest;
}
