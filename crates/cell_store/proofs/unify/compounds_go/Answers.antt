use Rattle.std.proofs.Common.{◌+◌, ◌∙◌, refl, sym, ap}
use Rattle.cell_store.proofs.RuleLemmas.{numbers_differ, names_differ, opened_some}
use Rattle.cell_store.specs.declared.arguments.Arguments.{Arguments}
use Rattle.cell_store.specs.declared.arguments.Equations.{Equations as ArgumentEquations}
use Rattle.cell_store.proofs.unify.compounds_go.Goals.{then-count-others-via-then-count-others, then-count-others-via-else-count-others+then-not-are_same}
use Rattle.cell_store.proofs.unify.compounds_go.Goals as goal

pub returns-then-count-others : goal.returns-then-count-others
returns-then-count-others c =
    let st = c.args.store.now in
    let left = c.functor-name.ensures.functor c.args.left.1 c.requires.left in
    let right = c.functor-other.ensures.functor c.args.right.1 c.requires.right in
    elim c.then-count-others.branch [
      | then-count-others-via-then-count-others w ↦ numbers_differ st c.args.left.0 c.args.left.1 _ _ c.args.right.0 c.args.right.1 _ _ left right w.if-count-others.true
      | then-count-others-via-else-count-others+then-not-are_same w ↦ names_differ st c.args.left.0 c.args.left.1 _ _ c.args.right.0 c.args.right.1 _ _ left right (sym w.are_same.ensures ∙ w.if-not-are_same.true)
    ]

pub returns : goal.returns
returns c =
    let st = c.args.store.now in
    let left = c.functor-name.ensures.functor c.args.left.1 c.requires.left in
    let right = c.functor-other.ensures.functor c.args.right.1 c.requires.right in
    let e : ArgumentEquations = record { left = c.arguments_of.result; right = c.arguments_of-2.result } in
    let right_is = c.arguments_of-2.ensures ∙ ap (λ n. (let x : Arguments = record { at = c.args.right.0 + 1; base = c.args.right.1; count = n } in x)) c.if-count-others.false in
    opened_some st c.args.left.0 c.args.left.1 _ _ c.args.right.0 c.args.right.1 _ _ left right c.arguments_of.result c.arguments_of-2.result e (sym c.are_same.ensures ∙ c.if-not-are_same.false) c.if-count-others.false c.arguments_of.ensures right_is refl
