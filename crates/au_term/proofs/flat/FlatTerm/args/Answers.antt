use Rattle.std.proofs.Common.{ap, ◌∙◌, arith, drop}
use Rattle.au_term.specs.Term.{take_terms}
use Rattle.au_term.specs.PrefixOrder.{arity, cells_of, terms_of}
use Rattle.au_term.proofs.ArgumentLemmas.{all_follow, enough_follow}
use Rattle.au_term.proofs.flat.FlatTerm.args.Goals as goal

pub invariant_of-result : goal.invariant_of-result
invariant_of-result c = omega (arith, enough_follow c.args.self.now, c.arity.ensures, ap arity c.top.ensures)

pub returns : goal.returns
returns c = ap (λ n. take_terms n (terms_of (drop 1 (cells_of c.args.self.now)))) (c.arity.ensures ∙ ap arity c.top.ensures) ∙ all_follow c.args.self.now
