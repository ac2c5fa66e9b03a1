use Rattle.std.proofs.Common.{ap, sym, ◌∙◌}
use Rattle.std.specs.Option.{option_copied}
use Rattle.branch_shapes.proofs.RestLemmas.{nothing_left}
use Rattle.branch_shapes.proofs.rest.goals_left.Goals as goal

pub returns-in-None : goal.returns-in-None
returns-in-None c = nothing_left c.loop-left.left (sym c.first.ensures ∙ ap option_copied c.in-None.is) ∙ c.loop-left.invariant
