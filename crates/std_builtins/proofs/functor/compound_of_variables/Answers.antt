use Rattle.std.proofs.Common.{◌++◌, ◌∷◌, [], ◌∙◌, ap}
use Rattle.au_term.specs.Term.{Compound}
use Rattle.au_term.specs.PrefixOrder.{cells_of}
use Rattle.au_term.specs.declared.cell.Cell.TheVariants.{Functor}
use Rattle.run_model.specs.Goals.TermParts.{new_variables}
use Rattle.au_model.proofs.ListTermLemmas.{none_due, is_whole}
use Rattle.std_builtins.proofs.PartLemmas.{variables_begin, variable_due, variables_further, variables_over}
use Rattle.std_builtins.proofs.functor.compound_of_variables.Goals as goal

pub loop-i-init : goal.loop-i-init
loop-i-init c = variables_begin c.args.name c.args.next c.args.count c.push.new.self (c.in_ok-push.ensures.ok ∙ ap (λ cs. cs ++ Functor c.args.name c.args.count ∷ []) c.new-builder.ensures)

pub push-requires-in-loop-i-clause-due : goal.push-requires-in-loop-i-clause-due
push-requires-in-loop-i-clause-due c = variable_due (Compound c.args.name (new_variables c.args.next c.args.count)) c.loop-i.builder c.args.next c.loop-i.i c.args.count c.loop-i-test.true c.loop-i.invariant

pub loop-i-preserved : goal.loop-i-preserved
loop-i-preserved c =
    variables_further (cells_of (Compound c.args.name (new_variables c.args.next c.args.count))) c.loop-i.builder c.push-in-loop-i.new.self c.args.next c.loop-i.i c.args.count c.in_ok-variable_after.field-0 c.loop-i-test.true c.in_ok-variable_after.ensures.sum c.in_ok-push-2.ensures.ok c.loop-i.invariant

pub finish-requires : goal.finish-requires
finish-requires c =
    let whole = Compound c.args.name (new_variables c.args.next c.args.count) in
    none_due whole c.loop-i.builder (variables_over (cells_of whole) c.loop-i.builder c.args.next c.loop-i.i c.args.count c.loop-i-test.false c.loop-i.invariant)

pub returns : goal.returns
returns c =
    let whole = Compound c.args.name (new_variables c.args.next c.args.count) in
    is_whole c.finish.result whole c.loop-i.builder c.finish.ensures.cells (variables_over (cells_of whole) c.loop-i.builder c.args.next c.loop-i.i c.args.count c.loop-i-test.false c.loop-i.invariant)
