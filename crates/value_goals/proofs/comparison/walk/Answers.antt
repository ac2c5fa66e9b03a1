use Rattle.std.proofs.Common.{sym, ◌∙◌}
use Rattle.cell_store.specs.declared.arguments.Equations.{Equations}
use Rattle.value_goals.specs.Comparison.{argument_pairs}
use Rattle.value_goals.proofs.ComparisonLemmas.{first_there, pair_equal, pair_differs, pair_enters, is_ne_decides, not_ne_equal}
use Rattle.value_goals.proofs.comparison.walk.Goals as goal

pub argument-left-requires : goal.argument-left-requires
argument-left-requires c = (first_there c.args.store.now c.loop-rest.rest c.loop-rest-test.true c.loop-rest.invariant.there).0

pub argument-right-requires : goal.argument-right-requires
argument-right-requires c = (first_there c.args.store.now c.loop-rest.rest c.loop-rest-test.true c.loop-rest.invariant.there).1

pub returns-then-is_ne : goal.returns-then-is_ne
returns-then-is_ne c =
    let f : Equations = record { left = c.rest_of.result; right = c.rest_of-in-loop-rest.result } in
    pair_differs c.args.store.now c.loop-rest.rest f c.argument-left.result c.argument-right.result c.loop-rest-test.true c.loop-rest.invariant.there c.rest_of.ensures c.rest_of-in-loop-rest.ensures c.argument-left.ensures.term c.argument-right.ensures.term
    (argument_pairs c.args.store.now c.args.equations) c.loop-rest.invariant.same c.loop-rest.invariant.fewer c.in-Decided.ordering c.in-Decided.ensures (is_ne_decides c.in-Decided.ordering (sym c.is_ne.ensures ∙ c.if-is_ne.true))

pub loop-rest-preserved : goal.loop-rest-preserved
loop-rest-preserved c =
    let f : Equations = record { left = c.rest_of.result; right = c.rest_of-in-loop-rest.result } in
    let equal = not_ne_equal c.in-Decided.ordering (λ e. let k = sym c.is_ne.ensures in cc) in
    let h = pair_equal c.args.store.now c.loop-rest.rest f c.argument-left.result c.argument-right.result c.loop-rest-test.true c.loop-rest.invariant.there c.rest_of.ensures c.rest_of-in-loop-rest.ensures c.argument-left.ensures.term c.argument-right.ensures.term
    (argument_pairs c.args.store.now c.args.equations) c.loop-rest.invariant.same c.loop-rest.invariant.fewer (sym equal ∙ c.in-Decided.ensures) in
    record { same = h.0; there = h.1; fewer = h.2 }

pub returns-in-Inside : goal.returns-in-Inside
returns-in-Inside c =
    let f : Equations = record { left = c.rest_of.result; right = c.rest_of-in-loop-rest.result } in
    pair_enters c.args.store.now c.loop-rest.rest f c.argument-left.result c.argument-right.result c.loop-rest-test.true c.loop-rest.invariant.there c.rest_of.ensures c.rest_of-in-loop-rest.ensures c.argument-left.ensures.term c.argument-right.ensures.term
    (argument_pairs c.args.store.now c.args.equations) c.loop-rest.invariant.same c.loop-rest.invariant.fewer c.in-Inside.equations c.in-Inside.ensures
