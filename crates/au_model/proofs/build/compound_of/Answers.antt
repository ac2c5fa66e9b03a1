use Rattle.std.proofs.Common.{◌≡◌, ◌+◌, ◌++◌, ◌∷◌, [], drop, length, ap, sym, ◌∙◌, subst, arith}
use Rattle.std.proofs.lemmas.List.{drop_more}
use Rattle.au_term.specs.Term.{Compound}
use Rattle.au_term.specs.PrefixOrder.{cells_of, all_cells, AreDue, due_after}
use Rattle.au_term.specs.declared.cell.Cell.TheVariants.{Functor}
use Rattle.au_model.specs.Terms.Lists.{terms_from}
use Rattle.au_model.proofs.ListTermLemmas.{count-terms_from, due_next, built_more, all_built, none_due, is_whole}
use Rattle.au_model.proofs.build.compound_of.Goals as goal
use Rattle.au_model.proofs.build.compound_of.Goals.{After-cells}

pub loop-argument-init : goal.loop-argument-init
loop-argument-init c =
    let all = c.args.arguments.now in
    ap (λ cs. cs ++ all_cells (terms_from all)) (c.in_ok-push.ensures.ok ∙ ap (λ cs. cs ++ Functor c.args.name (length c.args.arguments.now) ∷ []) c.new-builder.ensures)
    ∙ ap (λ n. Functor c.args.name n ∷ all_cells (terms_from all)) (sym (count-terms_from all))

read : (c : After-cells) → c.loop-argument.builder ++ (cells_of c.argument-item.result ++ all_cells (terms_from (drop (c.loop-argument.argument-index + 1) c.args.arguments.now))) ≡ cells_of (Compound c.args.name (terms_from c.args.arguments.now))
read c =
    let xs = c.args.arguments.now in
    let i = c.loop-argument.argument-index in
    let here = drop_more xs i c.argument-item.result c.loop-argument-test.true ∙ ap (λ y. y ∷ drop (i + 1) xs) (sym c.argument-item.is) in
    ap (λ ys. c.loop-argument.builder ++ all_cells (terms_from ys)) (sym here) ∙ c.loop-argument.invariant

pub push_all-requires-clause-due : goal.push_all-requires-clause-due
push_all-requires-clause-due c =
    subst (AreDue (due_after 1 c.loop-argument.builder)) (sym c.cells.ensures.cells) (due_next (Compound c.args.name (terms_from c.args.arguments.now)) c.argument-item.result c.loop-argument.builder _ (read c))

pub loop-argument-preserved : goal.loop-argument-preserved
loop-argument-preserved c =
    built_more c.loop-argument.builder c.push_all.new.self (cells_of c.argument-item.result) _ _ (read (goal.at.loop-argument-preserved c).After-cells) (c.in_ok-push_all.ensures.ok ∙ ap (λ cs. c.loop-argument.builder ++ cs) c.cells.ensures.cells)

pub finish-requires : goal.finish-requires
finish-requires c = none_due (Compound c.args.name (terms_from c.args.arguments.now)) c.loop-argument.builder (all_built c.loop-argument.argument-index c.args.arguments.now c.loop-argument.builder _ (omega (arith, c.loop-argument-test.false)) c.loop-argument.invariant)

pub returns : goal.returns
returns c = is_whole c.finish.result (Compound c.args.name (terms_from c.args.arguments.now)) c.loop-argument.builder c.finish.ensures.cells (all_built c.loop-argument.argument-index c.args.arguments.now c.loop-argument.builder _ (omega (arith, c.loop-argument-test.false)) c.loop-argument.invariant)
