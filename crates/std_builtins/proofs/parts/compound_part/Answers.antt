use Rattle.std.proofs.Common.{◌∙◌, ap, sym, subst, arith}
use Rattle.au_term.specs.Term.{Compound}
use Rattle.run_model.specs.Goals.BuiltinAnswers.{equal}
use Rattle.au_model.specs.Terms.Lists.{terms_from}
use Rattle.std_builtins.specs.Answers.{IsAnswer}
use Rattle.std_builtins.proofs.PartLemmas.{compound_made}
use Rattle.std_builtins.proofs.parts.compound_part.Goals as goal

pub returns-in_ok-copy-in-Atom : goal.returns-in_ok-copy-in-Atom
returns-in_ok-copy-in-Atom c =
    let most = c.if-arguments.false in
    compound_made c.args.term.now c.args.name.now c.in_ok-made-in-Atom.made c.in-Atom.functor c.args.arguments.now c.equal.result (sym c.top.ensures ∙ c.in-Atom.is) (omega arith) (c.in_ok-made-in-Atom.ensures ∙ ap (λ f. Compound f (terms_from c.args.arguments.now)) c.in_ok-share-in-Atom.ensures)
    (subst (λ t. IsAnswer (equal t c.in_ok-made-in-Atom.made) c.equal.result) c.in_ok-copy-in-Atom.ensures c.equal.ensures)
