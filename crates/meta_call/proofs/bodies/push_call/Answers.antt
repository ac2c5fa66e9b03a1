use Rattle.std.proofs.Common.{[], ◌∷◌, ap, ◌∙◌, arith}
use Rattle.au_term.specs.PrefixOrder.{due_after}
use Rattle.au_term.specs.declared.cell.Cell.TheVariants.{Functor}
use Rattle.au_term.proofs.WholeTermLemmas.{due_after-append}
use Rattle.meta_call.proofs.bodies.push_call.Goals as goal

pub push-requires-2-clause-due : goal.push-requires-2-clause-due
push-requires-2-clause-due c =
    let built = c.args.builder.now in
    let behind = ap (due_after 1) c.in_ok-push.ensures.ok ∙ due_after-append 1 built (Functor c.in_ok-ascii.field-0 1 ∷ []) in
    omega (arith, behind, c.requires)
