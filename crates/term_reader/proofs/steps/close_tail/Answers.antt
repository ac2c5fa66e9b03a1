use Rattle.std.proofs.Common.{refl}
use Rattle.term_reader.specs.FrameShapes.{emitted_stack}
use Rattle.term_reader.specs.TermOutput.{emit_tree}
use Rattle.term_reader.proofs.FrameEndLemmas.{tail-closes, tail-refuses}
use Rattle.term_reader.specs.declared.state.Frame.TheVariants as frame
use Rattle.term_reader.proofs.ClosingTokenLemmas.{refuses}
use Rattle.term_reader.proofs.steps.close_tail.Goals as goal

pub returns-in_ok-list-in-CloseList-clause-outcome : goal.returns-in_ok-list-in-CloseList-clause-outcome
returns-in_ok-list-in-CloseList-clause-outcome c = λ k l p h.
    tail-closes c.args.source c.args.state.now _ k l p c.args.token c.args.end c.args.items h c.in-CloseList.is refl refl (c.in_ok-list-in-CloseList.ensures (emit_tree (emitted_stack k) l) h.output)

pub returns-in_default-clause-outcome : goal.returns-in_default-clause-outcome
returns-in_default-clause-outcome c = λ k l p h goal g.
    refuses c.args.source c.args.state.now (frame.Tail c.args.items) k l p c.args.token c.args.end h (tail-refuses c.args.source c.args.state.now c.args.state.now k l p c.args.token c.args.end c.args.items h c.in_default.not-CloseList) goal g

pub returns-in_default-clause-fault : goal.returns-in_default-clause-fault
returns-in_default-clause-fault c = λ first k l p h refused. (refused (tail-refuses c.args.source c.args.state.now c.args.state.now k l p c.args.token c.args.end c.args.items h c.in_default.not-CloseList)).0 (λ full e. full)
