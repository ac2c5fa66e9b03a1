use Rattle.std.proofs.Common.{ap, ◌∙◌}
use Rattle.au_term.specs.PrefixOrder.{arity}
use Rattle.au_term.proofs.ArgumentLemmas.{arity-top_of}
use Rattle.au_term.proofs.flat.FlatTerm.arity.Goals as goal

pub returns : goal.returns
returns c = c.arity.ensures ∙ (ap arity c.top.ensures ∙ arity-top_of c.args.self.now)
