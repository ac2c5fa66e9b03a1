use Rattle.std.proofs.Common.{◌∙◌, List, ap}
use Rattle.dyn_clauses.proofs.EntriesLemmas.{static_is}
use Rattle.dyn_clauses.specs.declared.indicator.Indicator.{Indicator}
use Rattle.text_load.specs.LoadedTexts.{is_declared}
use Rattle.text_load.proofs.procedures.Declared.has.Goals as goal

pub returns : goal.returns
returns c =
    let i = c.args.procedure.now in
    c.contains.ensures ∙ (static_is i c.self.inside.known.keys ∙ (c.self.invariant i ∙ ap (λ (is : List Indicator). is_declared is i.name i.arity) c.self.view_is))
