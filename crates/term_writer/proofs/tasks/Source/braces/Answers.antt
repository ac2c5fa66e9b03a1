use Rattle.std.proofs.Common.{◌+◌, ap, sym, arith}
use Rattle.au_term.specs.Term.{arguments}
use Rattle.au_model.specs.Writing.OperatorForms.{BracedForm}
use Rattle.au_model.specs.Writing.WrittenTerms.{compound_pieces}
use Rattle.term_writer.specs.WritingSources.{notation_of_source, term_of_source, source_subterm}
use Rattle.term_writer.specs.WritingTasks.{terms_weight}
use Rattle.term_writer.specs.declared.tasks.Task.TheVariants.{Term as TermTask, Mark}
use Rattle.term_writer.specs.declared.text.Mark.TheVariants.{OpenCurly, CloseCurly}
use Rattle.term_writer.proofs.TaskLemmas.{adds_one, adds_then, adds_same}
use Rattle.term_writer.proofs.CompoundTaskLemmas.{one_argument}
use Rattle.term_writer.proofs.tasks.Source.braces.Goals as goal

pub returns : goal.returns
returns c = λ name.
    let n = notation_of_source c.args.self in
    let t = term_of_source c.args.self in
    let u = source_subterm c.args.self c.args.at in
    let one = one_argument (arguments u) _ c.requires.one c.arg_start.ensures.is in
    let close = adds_one n t _ _ (Mark CloseCurly) c.in_ok-push.ensures.items tt in
    let term = adds_one n t _ _ (TermTask c.arg_start.result) c.in_ok-push-2.ensures.items c.arg_start.ensures.within in
    let front = adds_one n t _ _ (Mark OpenCurly) c.in_ok-push-3.ensures.items tt in
    let all = adds_then n t _ _ _ _ _ _ _ (adds_then n t _ _ _ _ _ _ _ close term) front in
    adds_same n t _ _ _ (compound_pieces n BracedForm name (arguments u)) _ (9 + terms_weight (arguments u)) all (λ ps. ap (λ ts. compound_pieces n BracedForm name ts ps) (sym one)) (omega (arith, ap terms_weight one))
