use Rattle.std.proofs.Common.{sym, ◌∙◌}
use Rattle.value_goals.proofs.ComparisonLemmas.{same_places, counts_decide, names_decide, arguments_decide}
use Rattle.value_goals.proofs.comparison.compounds.Goals as goal

pub returns-then-eq : goal.returns-then-eq
returns-then-eq c = same_places c.args.store.now c.args.left c.args.right c.if-eq.ensures

pub returns-then-count-others : goal.returns-then-count-others
returns-then-count-others c =
    let left = c.functor-name.ensures.functor c.args.left.1 c.requires.left in
    let right = c.functor-other.ensures.functor c.args.right.1 c.requires.right in
    c.cmp.ensures ∙ counts_decide c.args.store.now c.args.left.0 c.args.left.1 _ _ c.args.right.0 c.args.right.1 _ _ left right c.if-count-others.true

pub returns-in-Equal : goal.returns-in-Equal
returns-in-Equal c =
    let left = c.functor-name.ensures.functor c.args.left.1 c.requires.left in
    let right = c.functor-other.ensures.functor c.args.right.1 c.requires.right in
    arguments_decide c.args.store.now c.args.left.0 c.args.left.1 _ _ c.args.right.0 c.args.right.1 _ _ left right c.arguments_of.result c.arguments_of-in-Equal.result c.if-count-others.false (sym c.in-Equal.is ∙ c.names.ensures) c.arguments_of.ensures c.arguments_of-in-Equal.ensures

pub returns-in_default : goal.returns-in_default
returns-in_default c =
    let left = c.functor-name.ensures.functor c.args.left.1 c.requires.left in
    let right = c.functor-other.ensures.functor c.args.right.1 c.requires.right in
    names_decide c.args.store.now c.args.left.0 c.args.left.1 _ _ c.args.right.0 c.args.right.1 _ _ left right c.names.result c.if-count-others.false c.names.ensures c.in_default.not-Equal
