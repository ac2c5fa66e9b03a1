use Rattle.std.proofs.Common.{length}
use Rattle.clause_index.specs.Cursors.{numbers_left}
use Rattle.region_capture.specs.CaptureSteps.{CapturesUpTo}
use Rattle.region_capture.specs.declared.captured.CapturedKind.TheVariants.{Choice}
use Rattle.region_capture.proofs.ClausesLemmas.{AreNext, next_entries}
use Rattle.region_capture.proofs.clauses.capture_clauses.Given as goal

abbrev pub invariant-loop-alternatives : goal.invariant-loop-alternatives
invariant-loop-alternatives l = record {
  captured : CapturesUpTo Choice l.fn.region l.region l.fn.items l.items (next_entries l.fn.region l.fn.first l.fn.left) (next_entries l.region l.trial l.left) l.alternatives.items;
  next : AreNext l.region l.trial l.left;
}

abbrev pub decreases-loop-alternatives : goal.decreases-loop-alternatives
decreases-loop-alternatives l = length (numbers_left l.region.text.heads l.left)
