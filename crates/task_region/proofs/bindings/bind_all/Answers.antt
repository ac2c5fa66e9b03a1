use Rattle.task_region.proofs.BindingLemmas.{can_bind_at, makes_at}
use Rattle.task_region.proofs.bindings.bind_all.Goals as goal

pub bind_one-requires : goal.bind_one-requires
bind_one-requires c =
    can_bind_at c.args.region.now c.loop-binding.region c.args.bindings.now c.loop-binding.binding-index c.binding-item.result c.binding-item.is
    c.loop-binding-test.true
    c.loop-binding.invariant c.requires

pub loop-binding-preserved : goal.loop-binding-preserved
loop-binding-preserved c =
    makes_at c.args.region.now c.loop-binding.region c.args.bindings.now c.loop-binding.binding-index c.binding-item.result c.binding-item.is
    c.loop-binding-test.true
    c.loop-binding.invariant c.bind_one.new.region c.in_ok-bind_one.ensures
