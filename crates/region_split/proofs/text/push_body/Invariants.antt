use Rattle.std.proofs.Common.{◌≡◌, ◌++◌, map, take}
use Rattle.region_split.specs.declared.text.BodyItem.TheVariants.{Goal}
use Rattle.region_split.proofs.text.push_body.Given as goal

abbrev pub invariant-loop-goal : goal.invariant-loop-goal
invariant-loop-goal l = l.bodies.items ≡ l.fn.bodies.items ++ map Goal (take l.goal-index l.goals)
