use Rattle.std.proofs.Common.{refl, arith}
use Rattle.term_writer.specs.WritingSources.{notation_of_source, term_of_source}
use Rattle.term_writer.specs.declared.tasks.Task.TheVariants.{Mark}
use Rattle.term_writer.specs.declared.text.Mark.TheVariants.{Bar}
use Rattle.term_writer.proofs.TaskLemmas.{adds_one, adds_then, adds_same}
use Rattle.term_writer.proofs.tasks.Source.rest.Goals as goal

pub returns : goal.returns
returns c =
    let n = notation_of_source c.args.self in
    let t = term_of_source c.args.self in
    let bar = adds_one n t _ _ (Mark Bar) c.in_ok-push.ensures.items tt in
    adds_same n t _ _ _ _ _ _ (adds_then n t _ _ _ _ _ _ _ c.in_ok-argument.ensures bar) (λ ps. refl) (omega arith)
