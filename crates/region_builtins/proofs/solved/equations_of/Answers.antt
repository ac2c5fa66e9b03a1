use Rattle.std.proofs.Common.{◌∙◌, ◌∷◌, [], ◌++◌, map, take, ap, ap₂, sym}
use Rattle.std.proofs.lemmas.List.{take_more, take_all, map-append}
use Rattle.region_split.specs.declared.solution.Equation.{Equation}
use Rattle.region_split.specs.declared.solution.EquationSide.TheVariants.{Copied}
use Rattle.region_builtins.specs.CopiedSolutions.{copied_equation}
use Rattle.region_builtins.proofs.solved.equations_of.Goals as goal

pub loop-sides-preserved : goal.loop-sides-preserved
loop-sides-preserved c =
    let i = c.loop-sides.sides-index in
    let xs = c.args.found.now in
    let x = c.sides-item.result in
    let more = take_more xs i x c.loop-sides-test.true ∙ ap (λ y. take i xs ++ y ∷ []) (sym c.sides-item.is) in
    let all = ap (map copied_equation) more ∙ map-append copied_equation (take i xs) (x ∷ []) in
    c.in_ok-push.ensures.items ∙ (ap₂ (λ a b. a ++ b ∷ []) c.loop-sides.invariant (ap₂ (λ t u. (let q : Equation = record { left = Copied t; right = Copied u } in q)) (c.in_ok-from_term.ensures ∙ c.in_ok-copy.ensures) (c.in_ok-from_term-2.ensures ∙ c.in_ok-copy-2.ensures)) ∙ sym all)

pub returns : goal.returns
returns c = c.loop-sides.invariant ∙ ap (map copied_equation) (take_all c.loop-sides.sides-index c.args.found.now c.loop-sides-test.false)
