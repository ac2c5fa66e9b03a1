use Rattle.std.proofs.Common.{◌≡◌, sym, subst, arith}
use Rattle.cell_store.specs.StoreView.{CanBeBound, BindsFurther, meaning}
use Rattle.task_region.proofs.BindingLemmas.{can_bind, makes_one}
use Rattle.task_region.proofs.bindings.bind_one.Goals as goal
use Rattle.std.proofs.Common.{[], ◌∷◌}

pub bind-requires : goal.bind-requires
bind-requires c =
    let mid = c.copy_in.new.self in
    let value = c.in_ok-value.value in
    let same : c.in-Ok.variable ≡ c.args.binding.now.var = omega (arith, c.in-Ok.ensures.1) in
    subst (λ v. CanBeBound mid.store v value) (sym same)
    (can_bind c.args.region.now mid c.args.binding.now value c.copy_in.ensures.text c.in_ok-value.ensures.there c.in_ok-value.ensures.term c.requires)

pub returns : goal.returns
returns c =
    let old = c.args.region.now in
    let mid = c.copy_in.new.self in
    let new = c.bind.new.self in
    let value = c.in_ok-value.value in
    let same : c.in-Ok.variable ≡ c.args.binding.now.var = omega (arith, c.in-Ok.ensures.1) in
    makes_one old mid c.args.binding.now value c.copy_in.ensures.text c.in_ok-value.ensures.there c.in_ok-value.ensures.term new
    c.copy_in.ensures.stays.others c.bind.ensures.stays.others
    (subst (λ v. BindsFurther mid.store new.store ((v, meaning mid.store value) ∷ [])) same c.in_ok-bind.ensures.ok)
