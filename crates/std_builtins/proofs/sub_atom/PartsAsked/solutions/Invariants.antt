use Rattle.std.proofs.Common.{◌≡◌, ◌≤◌, filter, flat_map, length, map}
use Rattle.std.specs.List.{range_with_len}
use Rattle.run_model.specs.Goals.AtomParts.{fits_part, part_solution, parts_from}
use Rattle.std_builtins.specs.Answers.{solution_meant}
use Rattle.std_builtins.specs.AskedParts.{asked_meant}
use Rattle.std_builtins.proofs.sub_atom.PartsAsked.solutions.Given as goal

abbrev pub invariant-loop-start : goal.invariant-loop-start
invariant-loop-start l = record {
  kept : map solution_meant l.solutions.items ≡ map (part_solution (asked_meant l.self)) (filter (fits_part (asked_meant l.self)) (flat_map (parts_from l.characters) (range_with_len 0 l.start)));
  within : l.start ≤ length l.characters;
}
