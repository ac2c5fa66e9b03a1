use Rattle.std.proofs.Common.{◌+◌, ap, sym, arith}
use Rattle.au_term.specs.Term.{arguments}
use Rattle.au_model.specs.Writing.OperatorForms.{PrefixForm}
use Rattle.au_model.specs.Writing.WrittenTerms.{compound_pieces}
use Rattle.op_table.specs.OperatorView.{operator_meant}
use Rattle.term_writer.specs.WritingSources.{notation_of_source, term_of_source, source_subterm}
use Rattle.term_writer.specs.WritingTasks.{terms_weight}
use Rattle.term_writer.specs.declared.tasks.Task.TheVariants.{Prefix}
use Rattle.term_writer.proofs.TaskLemmas.{adds_one, adds_then, adds_same}
use Rattle.term_writer.proofs.CompoundTaskLemmas.{one_argument}
use Rattle.term_writer.proofs.tasks.Source.prefix.Goals as goal

pub returns : goal.returns
returns c =
    let n = notation_of_source c.args.self in
    let t = term_of_source c.args.self in
    let u = source_subterm c.args.self c.args.at in
    let form = PrefixForm (operator_meant c.args.operator) in
    let name = c.args.name.now in
    let one = one_argument (arguments u) _ c.requires.one c.arg_start.ensures.is in
    let sign = adds_one n t _ _ (Prefix c.args.name) c.in_ok-push.ensures.items tt in
    let all = adds_then n t _ _ _ _ _ _ _ c.in_ok-last_operand.ensures sign in
    adds_same n t _ _ _ (compound_pieces n form name (arguments u)) _ (9 + terms_weight (arguments u)) all (λ ps. ap (λ ts. compound_pieces n form name ts ps) (sym one)) (omega (arith, ap terms_weight one))
