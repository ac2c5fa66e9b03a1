use Rattle.std.proofs.Common.{◌≡◌, ℕ, List, map, length}
use Rattle.term_reader.specs.LexemeView.{post_operator_meant}
use Rattle.term_reader.specs.FrameShapes.{frame_meant, shapes_up}
use Rattle.term_reader.specs.Completion.{OpenFrame}
use Rattle.term_reader.specs.Refusals.{accepts}
use Rattle.term_reader.proofs.state.State.takes.Given as goal

abbrev pub invariant-frames : goal.invariant-frames
invariant-frames l = (k : List OpenFrame) (n : List ℕ) → map frame_meant l.self.frames.items ≡ shapes_up k
    → (below : List OpenFrame) × (map frame_meant l.frames ≡ shapes_up below) × (accepts k 0 (post_operator_meant n l.post_operator) ≡ accepts below l.priority (post_operator_meant n l.post_operator))

abbrev pub decreases-frames : goal.decreases-frames
decreases-frames l = length l.frames
