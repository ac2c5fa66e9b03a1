use Rattle.std.proofs.Common.{◌≡◌, ◌+◌, ◌-◌, ◌<◌, length, drop, arith}
use Rattle.au_term.specs.PrefixOrder.{terms_of}
use Rattle.au_term.specs.SubtermSizes.{HasSizes}
use Rattle.au_term.proofs.SizeFillLemmas.{has_next, fills}
use Rattle.au_term.proofs.sizes.fill_sizes.Goals as goal
use Rattle.au_term.proofs.sizes.fill_sizes.Goals.{After-arity}

next : (c : After-arity) → HasSizes c.loop-at.sizes c.loop-at.at c.arity.result (terms_of (drop c.loop-at.at c.args.cells.now))
next c =
    let e : c.loop-at.at ≡ c.loop-at.at - 1 + 1 = omega arith in
    let lt : c.loop-at.at - 1 < length c.args.cells.now = omega (arith, c.loop-at.invariant.0) in
    has_next _ _ _ _ _ _ c.requires.forest e lt c.index-cells-at.is c.arity.ensures c.loop-at.invariant.1

pub skip_terms-end-requires : goal.skip_terms-end-requires
skip_terms-end-requires c = (terms_of (drop c.loop-at.at c.args.cells.now), next c)

pub overflow_sub-sizes : goal.overflow_sub-sizes
overflow_sub-sizes c =
    omega (arith, c.skip_terms-end.ensures (terms_of (drop c.loop-at.at c.args.cells.now)) (next (goal.at.overflow_sub-sizes c).After-arity))

pub loop-at-preserved : goal.loop-at-preserved
loop-at-preserved c =
    let e : c.loop-at.at ≡ c.loop-at.at - 1 + 1 = omega arith in
    let lt : c.loop-at.at - 1 < length c.args.cells.now = omega (arith, c.loop-at.invariant.0) in
    let few : c.loop-at.at - 1 < length c.loop-at.sizes = omega (arith, c.requires.places, c.loop-at.auto.sizes) in
    let stop = c.skip_terms-end.ensures (terms_of (drop c.loop-at.at c.args.cells.now)) (next (goal.at.loop-at-preserved c).After-arity) in
    (omega arith, fills _ _ _ _ _ _ _ e lt few c.index-cells-at.is c.arity.ensures c.loop-at.invariant.1 stop)
