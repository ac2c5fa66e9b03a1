use Rattle.std.proofs.Common.{◌∙◌, ◌<◌, refl, sym, ap, arith}
use Rattle.std.proofs.lemmas.Result.{IfOk-weaker}
use Rattle.term_reader.specs.FrameShapes.{emitted_stack}
use Rattle.term_reader.specs.TermOutput.{emit_tree}
use Rattle.term_reader.proofs.FrameEndLemmas.{compound-closes, argument-goes_on, argument-refuses, too_many, few_arguments}
use Rattle.term_reader.specs.declared.state.Frame.TheVariants as frame
use Rattle.term_reader.proofs.ClosingTokenLemmas.{refuses, is-comma}
use Rattle.term_reader.specs.FollowingToken.{closer_of}
use Rattle.term_reader.proofs.steps.close_argument.Goals as goal

pub returns-then-before-clause-outcome : goal.returns-then-before-clause-outcome
returns-then-before-clause-outcome c = λ k l p h goal g.
    refuses c.args.source c.args.state.now (frame.Argument c.args.name c.args.before c.args.place) k l p c.args.token c.args.end h (too_many c.args.source c.args.state.now c.args.state.now k l p c.args.token c.args.end c.args.name c.args.before c.args.place h c.in-Comma.is (omega arith)) goal g

pub returns-then-before-clause-fault : goal.returns-then-before-clause-fault
returns-then-before-clause-fault c = λ first k l p h refused.
    (refused (too_many c.args.source c.args.state.now c.args.state.now k l p c.args.token c.args.end c.args.name c.args.before c.args.place h c.in-Comma.is (omega arith))).1 c.args.name c.args.before c.args.place refl (omega arith) (is-comma h.lexeme (sym h.closer ∙ c.in-Comma.is))

pub returns-else-before-clause-outcome : goal.returns-else-before-clause-outcome
returns-else-before-clause-outcome c = λ k l p h.
    let lt : c.args.before < 65534 = omega arith in
    IfOk-weaker c.push_frame.result _ _ (λ t d. argument-goes_on c.args.source c.args.state.now c.push_frame.new.state k l p c.args.token c.args.end c.args.name c.args.before c.args.place t h c.in-Comma.is lt d) c.push_frame.ensures

pub returns-in_ok-compound-in-Close-clause-outcome : goal.returns-in_ok-compound-in-Close-clause-outcome
returns-in_ok-compound-in-Close-clause-outcome c = λ k l p h.
    compound-closes c.args.source c.args.state.now _ k l p c.args.token c.args.end c.args.name c.args.before c.args.place h c.in-Close.is refl refl (c.in_ok-compound-in-Close.ensures (emit_tree (emitted_stack k) l) h.output)

pub returns-then-before-ge-MAX_ARITY-clause-outcome : goal.returns-then-before-ge-MAX_ARITY-clause-outcome
returns-then-before-ge-MAX_ARITY-clause-outcome c = λ k l p h goal g.
    few_arguments c.args.source c.args.state.now c.args.state.now k l p c.args.token c.args.end c.args.name c.args.before c.args.place h (omega arith)

pub returns-in_default-clause-outcome : goal.returns-in_default-clause-outcome
returns-in_default-clause-outcome c = λ k l p h goal g.
    refuses c.args.source c.args.state.now (frame.Argument c.args.name c.args.before c.args.place) k l p c.args.token c.args.end h (argument-refuses c.args.source c.args.state.now c.args.state.now k l p c.args.token c.args.end c.args.name c.args.before c.args.place h c.in_default.not-Comma c.in_default.not-Close) goal g

pub returns-in_default-clause-fault : goal.returns-in_default-clause-fault
returns-in_default-clause-fault c = λ first k l p h refused. (refused (argument-refuses c.args.source c.args.state.now c.args.state.now k l p c.args.token c.args.end c.args.name c.args.before c.args.place h c.in_default.not-Comma c.in_default.not-Close)).0 (λ full e. c.in_default.not-Comma (h.closer ∙ ap closer_of e))
