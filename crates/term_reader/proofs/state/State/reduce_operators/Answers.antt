use Rattle.std.proofs.Common.{◌∙◌, subst}
use Rattle.au_model.specs.Syntax.PostOperators.{Nothing}
use Rattle.term_reader.specs.LexemeView.{post_operator_meant}
use Rattle.term_reader.specs.OperatorReductions.{IsReduceOutcome}
use Rattle.term_reader.proofs.OperatorReductionLemmas.{same-then}
use Rattle.term_reader.proofs.state.State.reduce_operators.Goals as goal

pub operators-preserved : goal.operators-preserved
operators-preserved c = (
  c.in_ok-next.ensures.at ∙ c.operators.invariant.0,
  λ s k t n h.
      let i = c.operators.invariant.1 s k t n h in
      let o = subst (λ p. IsReduceOutcome s i.below i.tree c.operators.last (post_operator_meant n c.args.post_operator) c.reduce_top.new.self p) c.in-Applied.is (c.in_ok-next.ensures.reduced s i.below i.tree n i.at_position) in
      record { below = o.below; tree = o.tree; at_position = o.at_position; same = same-then s (post_operator_meant n c.args.post_operator) k i.below o.below t i.tree o.tree c.args.priority c.operators.last c.in-Applied.next i.same o.same; apart = same-then s Nothing k i.below o.below t i.tree o.tree c.args.priority c.operators.last c.in-Applied.next i.apart o.apart; nests = λ text start read m. o.nests text start read (i.nests text start read m) },
)

pub returns-in-Fits-clause-reduced : goal.returns-in-Fits-clause-reduced
returns-in-Fits-clause-reduced c = λ s k l n h.
    let i = c.operators.invariant.1 s k l n h in
    let o = subst (λ p. IsReduceOutcome s i.below i.tree c.operators.last (post_operator_meant n c.args.post_operator) c.reduce_top.new.self p) c.in-Fits.is (c.in_ok-next.ensures.reduced s i.below i.tree n i.at_position) in
    record { below = i.below; tree = i.tree; at_position = o.0; same = i.same; apart = i.apart; nests = i.nests; free = o.1 }

pub returns-in-Ends-clause-reduced : goal.returns-in-Ends-clause-reduced
returns-in-Ends-clause-reduced c = λ s k l n h.
    let i = c.operators.invariant.1 s k l n h in
    let o = subst (λ p. IsReduceOutcome s i.below i.tree c.operators.last (post_operator_meant n c.args.post_operator) c.reduce_top.new.self p) c.in-Ends.is (c.in_ok-next.ensures.reduced s i.below i.tree n i.at_position) in
    record { below = i.below; tree = i.tree; at_position = o.0; same = i.same; apart = i.apart; nests = i.nests; free = (o.1, o.2) }
