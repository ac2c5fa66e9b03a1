use Rattle.std.proofs.Common.{refl}
use Rattle.term_reader.specs.FrameShapes.{emitted_stack}
use Rattle.term_reader.specs.TermOutput.{emit_tree}
use Rattle.term_reader.proofs.FrameEndLemmas.{curly-closes, curly-refuses}
use Rattle.term_reader.specs.declared.state.Frame.TheVariants as frame
use Rattle.term_reader.proofs.ClosingTokenLemmas.{refuses}
use Rattle.term_reader.proofs.steps.close_curly.Goals as goal

pub returns-in_ok-compound-in-CloseCurly-clause-outcome : goal.returns-in_ok-compound-in-CloseCurly-clause-outcome
returns-in_ok-compound-in-CloseCurly-clause-outcome c = λ k l p h.
    curly-closes c.args.source c.args.state.now _ k l p c.args.token c.args.end c.in_ok-name-in-CloseCurly.name c.in_ok-name-in-CloseCurly.ensures h c.in-CloseCurly.is refl refl (c.in_ok-compound-in-CloseCurly.ensures (emit_tree (emitted_stack k) l) h.output)

pub returns-in_default-clause-outcome : goal.returns-in_default-clause-outcome
returns-in_default-clause-outcome c = λ k l p h goal g.
    refuses c.args.source c.args.state.now (frame.Curly) k l p c.args.token c.args.end h (curly-refuses c.args.source c.args.state.now c.args.state.now k l p c.args.token c.args.end h c.in_default.not-CloseCurly) goal g

pub returns-in_default-clause-fault : goal.returns-in_default-clause-fault
returns-in_default-clause-fault c = λ first k l p h refused. (refused (curly-refuses c.args.source c.args.state.now c.args.state.now k l p c.args.token c.args.end h c.in_default.not-CloseCurly)).0 (λ full e. full)
