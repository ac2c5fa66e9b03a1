use Rattle.std.proofs.Common.{◌∷◌, [], ◌∙◌, ap₂, arith}
use Rattle.std.specs.Prelude.{is_none}
use Rattle.au_model.specs.Terms.Unifier.{unifier}
use Rattle.std_builtins.proofs.UnificationLemmas.{copies_below, left_copied, right_copied, renamed_apart}
use Rattle.std_builtins.proofs.unification.renumbered.Goals as goal

pub returns-clause-left : goal.returns-clause-left
returns-clause-left c =
    let below = copies_below c.args.left.now c.args.right.now _ _ _ _ _ c.new.ensures c.in_ok-left.ensures.seen c.in_ok-left.ensures.copy c.in_ok-right.ensures.seen c.in_ok-right.ensures.copy in
    omega (arith, below, c.count.ensures, c.in-Ok.ensures)

pub returns-clause-right : goal.returns-clause-right
returns-clause-right c =
    let below = copies_below c.args.left.now c.args.right.now _ _ _ _ _ c.new.ensures c.in_ok-left.ensures.seen c.in_ok-left.ensures.copy c.in_ok-right.ensures.seen c.in_ok-right.ensures.copy in
    omega (arith, below, c.count.ensures, c.in-Ok.ensures)

pub returns-clause-same : goal.returns-clause-same
returns-clause-same c =
    let l = left_copied c.args.left.now c.args.right.now _ _ _ _ _ c.new.ensures c.in_ok-left.ensures.seen c.in_ok-left.ensures.copy c.in_ok-right.ensures.seen c.in_ok-right.ensures.copy in
    let r = right_copied c.args.left.now c.args.right.now _ _ _ _ _ c.new.ensures c.in_ok-left.ensures.seen c.in_ok-left.ensures.copy c.in_ok-right.ensures.seen c.in_ok-right.ensures.copy in
    ap₂ (λ x y. is_none (unifier ((x, y) ∷ []))) l r ∙ renamed_apart c.args.left.now c.args.right.now
