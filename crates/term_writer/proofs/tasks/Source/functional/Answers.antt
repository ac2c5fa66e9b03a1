use Rattle.std.proofs.Common.{◌≡◌, ◌+◌, ◌-◌, ◌≤◌, ap, sym, ◌∙◌, arith}
use Rattle.au_term.specs.Term.{arguments, more, count, take_terms}
use Rattle.au_model.specs.Writing.OperatorForms.{FunctionalForm}
use Rattle.au_model.specs.Writing.WrittenTerms.{compound_pieces}
use Rattle.term_writer.specs.WritingSources.{notation_of_source, term_of_source, source_subterm}
use Rattle.term_writer.specs.WritingTasks.{terms_at, terms_weight}
use Rattle.term_writer.specs.declared.tasks.Task.TheVariants.{Further, Mark, Name}
use Rattle.term_writer.specs.declared.text.Mark.TheVariants.{Open}
use Rattle.term_writer.proofs.TaskLemmas.{adds_one, adds_then, adds_same}
use Rattle.term_writer.proofs.CompoundTaskLemmas.{taken_more, enough_after}
use Rattle.term_writer.proofs.tasks.Source.functional.Goals as goal

pub returns : goal.returns
returns c =
    let n = notation_of_source c.args.self in
    let t = term_of_source c.args.self in
    let u = source_subterm c.args.self c.args.at in
    let name = c.args.name.now in
    let k = c.args.arity in
    let first = terms_at t c.first_argument-first.result in
    let rest = terms_at t c.after.result in
    let enough : k ≤ count first = omega (arith, c.first_argument-first.ensures.enough, c.requires.count) in
    let opened : arguments u ≡ more (source_subterm c.args.self c.first_argument-first.result) (take_terms (k - 1) rest) =
    sym c.first_argument-first.ensures.arguments ∙ (ap (λ m. take_terms m first) c.requires.count ∙ taken_more k first rest _ c.after.ensures c.requires.some) in
    let further = adds_one n t _ _ (Further c.after.result (k - 1)) c.in_ok-push.ensures.items (enough_after k first rest _ c.after.ensures enough) in
    let bracket = adds_one n t _ _ (Mark Open) c.in_ok-push-2.ensures.items tt in
    let front = adds_one n t _ _ (Name c.args.name) c.in_ok-push-3.ensures.items tt in
    let all = adds_then n t _ _ _ _ _ _ _ (adds_then n t _ _ _ _ _ _ _ (adds_then n t _ _ _ _ _ _ _ further c.in_ok-argument.ensures) bracket) front in
    adds_same n t _ _ _ (compound_pieces n FunctionalForm name (arguments u)) _ (9 + terms_weight (arguments u)) all (λ ps. ap (λ ts. compound_pieces n FunctionalForm name ts ps) (sym opened)) (omega (arith, ap terms_weight opened))
