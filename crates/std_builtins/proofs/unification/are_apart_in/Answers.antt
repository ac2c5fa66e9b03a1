use Rattle.std.proofs.Common.{◌∙◌, arith}
use Rattle.std_builtins.proofs.UnificationLemmas.{unified_or_not}
use Rattle.std_builtins.proofs.unification.are_apart_in.Goals as goal

pub value_in-requires-2 : goal.value_in-requires-2
value_in-requires-2 c = omega (arith, c.requires.right, c.in_ok-left.ensures.others.next)

pub returns : goal.returns
returns c =
    let unbound = c.in_ok-right.ensures.others.bound ∙ (c.in_ok-left.ensures.others.bound ∙ c.requires.bound) in
    let left = (c.in_ok-right.ensures.others.values c.in_ok-left.left c.in_ok-left.ensures.there).1 ∙ c.in_ok-left.ensures.term in
    unified_or_not c.in_ok-left.left c.in_ok-right.right _ _ c.value_in-2.new.store c.unify.new.self c.in_ok-unify.field-0 unbound left c.in_ok-right.ensures.term c.in_ok-unify.ensures.unified
