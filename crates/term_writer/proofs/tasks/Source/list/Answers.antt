use Rattle.std.proofs.Common.{◌+◌, ap, sym, arith}
use Rattle.au_term.specs.Term.{arguments}
use Rattle.au_model.specs.Writing.OperatorForms.{ListForm}
use Rattle.au_model.specs.Writing.WrittenTerms.{compound_pieces}
use Rattle.term_writer.specs.WritingSources.{notation_of_source, term_of_source, source_subterm}
use Rattle.term_writer.specs.WritingTasks.{terms_weight}
use Rattle.term_writer.specs.declared.tasks.Task.TheVariants.{Tail, Mark}
use Rattle.term_writer.specs.declared.text.Mark.TheVariants.{OpenList, CloseList}
use Rattle.term_writer.proofs.TaskLemmas.{adds_one, adds_then, adds_same}
use Rattle.term_writer.proofs.CompoundTaskLemmas.{two_arguments}
use Rattle.term_writer.proofs.tasks.Source.list.Goals as goal

pub returns : goal.returns
returns c = λ name.
    let n = notation_of_source c.args.self in
    let t = term_of_source c.args.self in
    let u = source_subterm c.args.self c.args.at in
    let two = two_arguments (arguments u) _ _ c.requires.two c.arg_start-2.ensures.is c.arg_start.ensures.is in
    let close = adds_one n t _ _ (Mark CloseList) c.in_ok-push.ensures.items tt in
    let tail = adds_one n t _ _ (Tail c.arg_start.result) c.in_ok-push-2.ensures.items c.arg_start.ensures.within in
    let front = adds_one n t _ _ (Mark OpenList) c.in_ok-push-3.ensures.items tt in
    let all = adds_then n t _ _ _ _ _ _ _ (adds_then n t _ _ _ _ _ _ _ (adds_then n t _ _ _ _ _ _ _ close tail) c.in_ok-argument.ensures) front in
    adds_same n t _ _ _ (compound_pieces n ListForm name (arguments u)) _ (9 + terms_weight (arguments u)) all (λ ps. ap (λ ts. compound_pieces n ListForm name ts ps) (sym two)) (omega (arith, ap terms_weight two))
