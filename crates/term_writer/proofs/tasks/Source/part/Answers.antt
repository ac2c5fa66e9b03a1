use Rattle.std.proofs.Common.{◌+◌, arith, refl}
use Rattle.au_model.specs.Writing.WrittenTerms.{enclosed, pieces}
use Rattle.term_writer.specs.WritingSources.{notation_of_source, term_of_source, source_subterm}
use Rattle.term_writer.specs.WritingTasks.{term_weight}
use Rattle.term_writer.specs.declared.tasks.Task.TheVariants.{Term as TermTask, Mark}
use Rattle.term_writer.specs.declared.text.Mark.TheVariants.{Open, Close}
use Rattle.term_writer.proofs.TaskLemmas.{adds_one, adds_then, adds_same}
use Rattle.term_writer.proofs.tasks.Source.part.Goals as goal

pub returns-in_ok-push-3 : goal.returns-in_ok-push-3
returns-in_ok-push-3 c =
    let n = notation_of_source c.args.self in
    let t = term_of_source c.args.self in
    let u = source_subterm c.args.self c.args.at in
    let close = adds_one n t _ _ (Mark Close) c.in_ok-push.ensures.items tt in
    let term = adds_one n t _ _ (TermTask c.args.at) c.in_ok-push-2.ensures.items c.requires in
    let first = adds_one n t _ _ (Mark Open) c.in_ok-push-3.ensures.items tt in
    let all = adds_then n t _ _ _ _ _ _ _ (adds_then n t _ _ _ _ _ _ _ close term) first in
    adds_same n t _ _ _ (enclosed c.args.is_enclosed (pieces n u)) _ (2 + term_weight u) all (λ ps. rw c.if-is_enclosed.true refl) (omega arith)

pub returns-in_ok-push-4 : goal.returns-in_ok-push-4
returns-in_ok-push-4 c =
    let n = notation_of_source c.args.self in
    let t = term_of_source c.args.self in
    let u = source_subterm c.args.self c.args.at in
    let term = adds_one n t _ _ (TermTask c.args.at) c.in_ok-push-4.ensures.items c.requires in
    adds_same n t _ _ _ (enclosed c.args.is_enclosed (pieces n u)) _ (2 + term_weight u) term (λ ps. rw c.if-is_enclosed.false refl) (omega arith)
