use Rattle.std.proofs.Common.{reverse}
use Rattle.value_goals.proofs.GroundLemmas.{goes_inside}
use Rattle.value_goals.proofs.ground.goes_past.Goals as goal

pub returns-in_ok-push_arguments-in-Compound : goal.returns-in_ok-push_arguments-in-Compound
returns-in_ok-push_arguments-in-Compound c =
    goes_inside c.args.store.now c.args.value c.in-Compound.at c.in-Compound.base (reverse c.args.pending.now.items) (reverse c.push_arguments.new.pending.items) c.in-Compound.ensures c.in_ok-push_arguments-in-Compound.ensures
