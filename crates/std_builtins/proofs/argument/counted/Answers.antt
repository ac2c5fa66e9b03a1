use Rattle.std.proofs.Common.{◌∙◌, ◌-◌, ap, subst, arith}
use Rattle.au_term.specs.Term.{arguments, argument}
use Rattle.au_term.specs.PrefixOrder.{term_of, term_of-cells_of}
use Rattle.run_model.specs.Goals.BuiltinAnswers.{equal}
use Rattle.std_builtins.specs.Answers.{IsAnswer}
use Rattle.std_builtins.proofs.PartLemmas.{argument_found}
use Rattle.std_builtins.proofs.argument.counted.Goals as goal

pub returns : goal.returns
returns c =
    let few = c.arity.ensures in
    let same = c.from.ensures in
    let some = c.if-number-eq0.false in
    let within = c.if-number-from.false in
    argument_found c.args.number (c.args.number - 1) (arguments c.args.term.now) c.args.found.now c.in_ok-argument.argument c.equal.result
    (omega arith) (omega arith) (c.in_ok-argument.ensures.term ∙ (ap term_of c.arg.ensures.cells ∙ term_of-cells_of (argument (c.args.number - 1) c.args.term.now)))
    (subst (λ x. IsAnswer (equal x c.in_ok-argument.argument) c.equal.result) c.in_ok-copy.ensures c.equal.ensures)
