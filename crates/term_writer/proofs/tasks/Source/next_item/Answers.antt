use Rattle.std.proofs.Common.{◌+◌, ap, sym, arith}
use Rattle.au_term.specs.Term.{arguments}
use Rattle.au_model.specs.Writing.WrittenTerms.{cell_pieces}
use Rattle.term_writer.specs.WritingSources.{notation_of_source, term_of_source, source_subterm}
use Rattle.term_writer.specs.WritingTasks.{terms_weight}
use Rattle.term_writer.specs.declared.tasks.Task.TheVariants.{Tail, Mark}
use Rattle.term_writer.specs.declared.text.Mark.TheVariants.{Comma}
use Rattle.term_writer.proofs.TaskLemmas.{adds_one, adds_then, adds_same}
use Rattle.term_writer.proofs.CompoundTaskLemmas.{two_arguments}
use Rattle.term_writer.proofs.tasks.Source.next_item.Goals as goal

pub returns : goal.returns
returns c =
    let n = notation_of_source c.args.self in
    let t = term_of_source c.args.self in
    let u = source_subterm c.args.self c.args.at in
    let two = two_arguments (arguments u) _ _ c.requires.two c.arg_start-2.ensures.is c.arg_start.ensures.is in
    let tail = adds_one n t _ _ (Tail c.arg_start.result) c.in_ok-push.ensures.items c.arg_start.ensures.within in
    let comma = adds_one n t _ _ (Mark Comma) c.in_ok-push-2.ensures.items tt in
    let all = adds_then n t _ _ _ _ _ _ _ (adds_then n t _ _ _ _ _ _ _ tail c.in_ok-argument.ensures) comma in
    adds_same n t _ _ _ (cell_pieces n (arguments u)) _ (9 + terms_weight (arguments u)) all (λ ps. ap (λ ts. cell_pieces n ts ps) (sym two)) (omega (arith, ap terms_weight two))
