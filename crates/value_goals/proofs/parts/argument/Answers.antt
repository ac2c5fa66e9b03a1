use Rattle.std.proofs.Common.{inl, inr, arith}
use Rattle.value_goals.proofs.PartLemmas.{argument_there, argument_found, argument_missing}
use Rattle.value_goals.proofs.parts.argument.Goals as goal
use Rattle.value_goals.proofs.parts.argument.Goals.{then-number-eq0-via-then-number-eq0, then-number-eq0-via-else-number-eq0+then-number-from}

pub returns-then-number-eq0 : goal.returns-then-number-eq0
returns-then-number-eq0 c =
    let functor = c.functor-name.ensures.functor c.in-Compound.base c.in-Compound.ensures.there in
    argument_missing c.args.store.now c.args.value c.in-Compound.at c.in-Compound.base _ _ c.in-Compound.ensures functor c.args.number
    (elim c.then-number-eq0.branch [
      | then-number-eq0-via-then-number-eq0 w ↦ inl w.if-number-eq0.true
      | then-number-eq0-via-else-number-eq0+then-number-from w ↦ inr (omega arith)
    ])

pub argument-requires : goal.argument-requires
argument-requires c =
    let functor = c.functor-name.ensures.functor c.in-Compound.base c.in-Compound.ensures.there in
    argument_there c.args.store.now c.args.value c.in-Compound.at c.in-Compound.base _ _ c.in-Compound.ensures functor c.args.number c.if-number-eq0.false (λ lt. absurd (omega arith))

pub returns : goal.returns
returns c =
    let functor = c.functor-name.ensures.functor c.in-Compound.base c.in-Compound.ensures.there in
    argument_found c.args.store.now c.args.value c.in-Compound.at c.in-Compound.base _ _ c.in-Compound.ensures functor c.args.number c.argument.result c.if-number-eq0.false (λ lt. absurd (omega arith)) c.argument.ensures.term c.argument.ensures.there
