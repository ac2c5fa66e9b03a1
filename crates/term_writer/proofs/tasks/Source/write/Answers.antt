use Rattle.std.proofs.Common.{[], sym, ap, ◌∙◌, subst, arith}
use Rattle.au_term.specs.PrefixOrder.{subterm}
use Rattle.au_term.proofs.SubtermLemmas.{some_cell, subterm-zero}
use Rattle.au_model.specs.Writing.WrittenTerms.{enclosed, pieces}
use Rattle.term_writer.specs.TextInProgress.{followed_by}
use Rattle.term_writer.specs.WritingTasks.{due_pieces, due_weight, AreTasksPlaced}
use Rattle.term_writer.specs.WritingSources.{notation_of_source, term_of_source}
use Rattle.term_writer.proofs.TaskLemmas.{due_push, weight_push, placed_front, placed_last}
use Rattle.term_writer.proofs.tasks.Source.write.Goals as goal

pub part-requires : goal.part-requires
part-requires c = some_cell (term_of_source c.args.self)

pub loop-task-init : goal.loop-task-init
loop-task-init c =
    let n = notation_of_source c.args.self in
    let t = term_of_source c.args.self in
    let added = c.in_ok-part.ensures in
    let none = c.new-due.ensures.items in
    record {
      placed = added.placed (subst (AreTasksPlaced t) (sym none) tt);
      pieces = ap (followed_by c.args.text.now) (added.pieces ∙ (ap (λ xs. enclosed c.args.is_enclosed (pieces n (subterm 0 t)) (due_pieces n t xs [])) none ∙ ap (λ u. enclosed c.args.is_enclosed (pieces n u) []) (subterm-zero t)));
    }

pub take-requires : goal.take-requires
take-requires c =
    let t = term_of_source c.args.self in
    placed_last t _ c.in-Some.task (subst (AreTasksPlaced t) c.in-Some.ensures.items c.loop-task.invariant.placed)

pub loop-task-smaller : goal.loop-task-smaller
loop-task-smaller c =
    let t = term_of_source c.args.self in
    let task = c.in-Some.task in
    let whole = ap (due_weight t) c.in-Some.ensures.items ∙ weight_push t c.pop.new.self.items task in
    omega (arith, whole, c.in_ok-take.ensures.lighter)

pub loop-task-preserved : goal.loop-task-preserved
loop-task-preserved c =
    let n = notation_of_source c.args.self in
    let t = term_of_source c.args.self in
    let task = c.in-Some.task in
    let items = c.in-Some.ensures.items in
    let done = c.in_ok-take.ensures in
    let before = ap (λ xs. due_pieces n t xs []) items ∙ due_push n t c.pop.new.self.items task [] in
    record {
      placed = done.placed (placed_front t _ task (subst (AreTasksPlaced t) items c.loop-task.invariant.placed));
      pieces = done.pieces ∙ (ap (followed_by c.loop-task.text) (sym before) ∙ c.loop-task.invariant.pieces);
    }
