use Rattle.std.proofs.Common.{refl}
use Rattle.term_reader.proofs.FrameEndLemmas.{round-closes, round-refuses}
use Rattle.term_reader.specs.declared.state.Frame.TheVariants as frame
use Rattle.term_reader.proofs.ClosingTokenLemmas.{refuses}
use Rattle.term_reader.proofs.steps.close_round.Goals as goal

pub returns-in-Close-clause-outcome : goal.returns-in-Close-clause-outcome
returns-in-Close-clause-outcome c = λ k l p h. round-closes c.args.source c.args.state.now _ k l p c.args.token c.args.end h c.in-Close.is refl refl h.output

pub returns-in_default-clause-outcome : goal.returns-in_default-clause-outcome
returns-in_default-clause-outcome c = λ k l p h goal g.
    refuses c.args.source c.args.state.now (frame.Round) k l p c.args.token c.args.end h (round-refuses c.args.source c.args.state.now c.args.state.now k l p c.args.token c.args.end h c.in_default.not-Close) goal g

pub returns-in_default-clause-fault : goal.returns-in_default-clause-fault
returns-in_default-clause-fault c = λ first k l p h refused. (refused (round-refuses c.args.source c.args.state.now c.args.state.now k l p c.args.token c.args.end h c.in_default.not-Close)).0 (λ full e. full)
