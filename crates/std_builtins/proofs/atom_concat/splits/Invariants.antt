use Rattle.std.proofs.Common.{◌≡◌, ◌≤◌, filter, length, map}
use Rattle.std.specs.List.{range_with_len}
use Rattle.run_model.specs.Goals.AtomParts.{fits_split, split_at, split_solution}
use Rattle.std_builtins.specs.Answers.{solution_meant}
use Rattle.std_builtins.proofs.atom_concat.splits.Given as goal

abbrev pub invariant-loop-at : goal.invariant-loop-at
invariant-loop-at l = record {
  kept : map solution_meant l.solutions.items ≡ map (split_solution l.first.term.now l.second.term.now) (filter (fits_split l.first.term.now l.second.term.now) (map (split_at l.characters) (range_with_len 0 l.at)));
  within : l.at ≤ length l.characters;
}
