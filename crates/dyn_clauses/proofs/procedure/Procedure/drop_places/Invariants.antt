use Rattle.std.proofs.Common.{◌≡◌, ℕ, None, cond, map}
use Rattle.std.specs.Prelude.{◌==◌}
use Rattle.std.specs.List.{list_any}
use Rattle.std.specs.Map.Iter.{deref}
use Rattle.std.specs.Ordering.{nat_cmp}
use Rattle.std.specs.BTreeMap.{get}
use Rattle.dyn_clauses.specs.PositionIndex.{position_number}
use Rattle.dyn_clauses.proofs.procedure.Procedure.drop_places.Given as goal

abbrev pub invariant-loop-position : goal.invariant-loop-position
invariant-loop-position l = (n : ℕ) → get nat_cmp l.places n ≡ cond (list_any (λ q. position_number q == n) (map deref l.yielded)) None (get nat_cmp l.fn.places n)
