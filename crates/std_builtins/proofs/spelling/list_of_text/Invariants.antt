use Rattle.std.proofs.Common.{◌≡◌, map}
use Rattle.run_model.specs.Goals.AtomGoals.{item_for}
use Rattle.std_builtins.specs.Meanings.{spelling_meant}
use Rattle.std_builtins.proofs.spelling.list_of_text.Given as goal

abbrev pub invariant-loop-c : goal.invariant-loop-c
invariant-loop-c l = l.items.items ≡ map (item_for (spelling_meant l.by)) l.yielded
