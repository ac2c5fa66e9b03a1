use Rattle.std.proofs.Common.{◌≡◌, []}
use Rattle.au_model.specs.Writing.WrittenTerms.{enclosed, pieces}
use Rattle.term_writer.specs.TextInProgress.{followed_by}
use Rattle.term_writer.specs.WritingTasks.{due_pieces, due_weight, AreTasksPlaced}
use Rattle.term_writer.specs.WritingSources.{notation_of_source, term_of_source}
use Rattle.term_writer.proofs.tasks.Source.write.Given as goal

abbrev pub invariant-loop-task : goal.invariant-loop-task
invariant-loop-task l =
    record {
      placed : AreTasksPlaced (term_of_source l.fn.self) l.due.items;
      pieces : followed_by l.text (due_pieces (notation_of_source l.fn.self) (term_of_source l.fn.self) l.due.items [])
          ≡ followed_by l.fn.text (enclosed l.fn.is_enclosed (pieces (notation_of_source l.fn.self) (term_of_source l.fn.self)) []);
    }

abbrev pub decreases-loop-task : goal.decreases-loop-task
decreases-loop-task l = due_weight (term_of_source l.fn.self) l.due.items
