use Rattle.std.proofs.Common.{◌≡◌, ◌+◌, ◌-◌, ◌<◌, ap, sym, refl, arith}
use Rattle.au_term.specs.Term.{more, end, take_terms}
use Rattle.au_model.specs.Writing.WrittenTerms.{further_pieces}
use Rattle.term_writer.specs.WritingSources.{notation_of_source, term_of_source, source_subterm}
use Rattle.term_writer.specs.WritingTasks.{terms_at, terms_weight}
use Rattle.term_writer.specs.declared.tasks.Task.TheVariants.{Further, Mark}
use Rattle.term_writer.specs.declared.text.Mark.TheVariants.{Close, Comma}
use Rattle.term_writer.proofs.TaskLemmas.{adds_one, adds_then, adds_same}
use Rattle.term_writer.proofs.CompoundTaskLemmas.{taken_more, enough_after}
use Rattle.term_writer.proofs.tasks.Source.further.Goals as goal

pub returns-in_ok-push : goal.returns-in_ok-push
returns-in_ok-push c =
    let n = notation_of_source c.args.self in
    let t = term_of_source c.args.self in
    let us = terms_at t c.args.at in
    let none : take_terms c.args.left us ≡ end = rw c.if-left-eq0.true refl in
    let close = adds_one n t _ _ (Mark Close) c.in_ok-push.ensures.items tt in
    adds_same n t _ _ _ (further_pieces n (take_terms c.args.left us)) _ (1 + terms_weight (take_terms c.args.left us)) close (λ ps. ap (λ ts. further_pieces n ts ps) (sym none)) (omega arith)

pub returns-in_ok-push-3 : goal.returns-in_ok-push-3
returns-in_ok-push-3 c =
    let n = notation_of_source c.args.self in
    let t = term_of_source c.args.self in
    let k = c.args.left in
    let us = terms_at t c.args.at in
    let rest = terms_at t c.after.result in
    let some : 0 < k = omega (arith, c.if-left-eq0.false) in
    let opened : take_terms k us ≡ more (source_subterm c.args.self c.args.at) (take_terms (k - 1) rest) = taken_more k us rest _ c.after.ensures some in
    let further = adds_one n t _ _ (Further c.after.result (k - 1)) c.in_ok-push-2.ensures.items (enough_after k us rest _ c.after.ensures c.requires) in
    let comma = adds_one n t _ _ (Mark Comma) c.in_ok-push-3.ensures.items tt in
    let all = adds_then n t _ _ _ _ _ _ _ (adds_then n t _ _ _ _ _ _ _ further c.in_ok-argument.ensures) comma in
    adds_same n t _ _ _ (further_pieces n (take_terms k us)) _ (1 + terms_weight (take_terms k us)) all (λ ps. ap (λ ts. further_pieces n ts ps) (sym opened)) (omega (arith, ap terms_weight opened))
