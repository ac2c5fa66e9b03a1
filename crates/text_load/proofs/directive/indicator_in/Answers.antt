use Rattle.std.proofs.Common.{◌≡◌, ◌∙◌, IfOk, Option, subst, sym}
use Rattle.dyn_clauses.specs.declared.indicator.Indicator.{Indicator}
use Rattle.text_load.proofs.DirectiveLemmas.{indicator_is}
use Rattle.text_load.proofs.directive.indicator_in.Goals as goal

pub returns-in-Atom-Int : goal.returns-in-Atom-Int
returns-in-Atom-Int c =
    subst (λ (o : Option Indicator). IfOk c.indicator_with.result (λ i. i ≡ o))
    (indicator_is c.args.part.now c.in-Atom-Int.name c.in-Atom-Int.arity (sym c.has_indicator.ensures ∙ c.if-not-has_indicator.false) (sym c.argument_top.ensures ∙ c.in-Atom-Int.is-0) (sym c.argument_top-2.ensures ∙ c.in-Atom-Int.is-1))
    c.indicator_with.ensures
