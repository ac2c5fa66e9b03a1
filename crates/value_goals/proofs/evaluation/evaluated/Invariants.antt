use Rattle.std.proofs.Common.{◌≡◌, ◌+◌, reverse}
use Rattle.value_goals.specs.Evaluation.{evaluated_in, functions_resumed, value_of_next, steps_of_next, steps_of_all, AllWaitingIn, IsNextIn}
use Rattle.value_goals.proofs.evaluation.evaluated.Given as goal

abbrev pub invariant-loop-next : goal.invariant-loop-next
invariant-loop-next l = record {
  same : functions_resumed l.store (reverse l.waiting.items) (value_of_next l.store l.next) ≡ evaluated_in l.store l.fn.value;
  next_there : IsNextIn l.store l.next;
  there : AllWaitingIn l.store (reverse l.waiting.items);
}

abbrev pub decreases-loop-next : goal.decreases-loop-next
decreases-loop-next l = steps_of_next l.store l.next + steps_of_all l.store (reverse l.waiting.items)
