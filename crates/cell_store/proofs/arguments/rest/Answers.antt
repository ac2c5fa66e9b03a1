use Rattle.std.proofs.Common.{◌+◌, refl}
use Rattle.cell_store.specs.declared.arguments.Equations.{Equations as ArgumentEquations}
use Rattle.cell_store.proofs.RuleLemmas.{rest_equations}
use Rattle.cell_store.proofs.arguments.rest.Goals as goal

pub returns-clause-kept : goal.returns-clause-kept
returns-clause-kept c = λ es.
    let e = c.args.equations in
    let left = c.rest_of-left.result in
    let f : ArgumentEquations = record { left = left; right = record { at = e.right.at + 1; base = e.right.base; count = left.count } } in
    rest_equations e f es c.requires.some.0 c.rest_of-left.ensures refl
