use Rattle.std.proofs.Common.{◌<◌, ◌≤◌, ◌+◌, length, get_or, refl, rules}
use Rattle.au_term.proofs.SubtermSizeLemmas.{Passes, passes}
use Rattle.au_term.proofs.sizes.skip_terms.Goals as goal
use Rattle.au_term.proofs.sizes.skip_terms.Goals.{In-loop-passed}

some_passes : (c : In-loop-passed) → Passes c.args.sizes.now c.args.start c.loop-passed._passed c.loop-passed.at (get_or c.args.sizes.now c.loop-passed.at 0) c.requires.0
some_passes c = passes _ _ _ _ _ _ c.requires.0 c.requires.1 c.loop-passed-test.true (c.loop-passed.invariant c.requires.0 c.requires.1) refl

pub bounds-sizes-at : goal.bounds-sizes-at
bounds-sizes-at c = (some_passes (goal.at.bounds-sizes-at c).In-loop-passed).below

pub offset_bounds-sizes-at : goal.offset_bounds-sizes-at
offset_bounds-sizes-at c =
    let lt : c.loop-passed.at < length c.args.sizes.now = (some_passes c).below in search rules

pub overflow_add-at : goal.overflow_add-at
overflow_add-at c =
    let le : c.loop-passed.at + get_or c.args.sizes.now c.loop-passed.at 0 ≤ length c.args.sizes.now = (some_passes (goal.at.overflow_add-at c).In-loop-passed).within in search rules

pub loop-passed-preserved : goal.loop-passed-preserved
loop-passed-preserved c = λ ts h. (passes _ _ _ _ _ _ ts h c.loop-passed-test.true (c.loop-passed.invariant ts h) refl).next
