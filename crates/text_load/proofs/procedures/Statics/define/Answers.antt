use Rattle.std.proofs.Common.{◌∙◌, List, ap}
use Rattle.dyn_clauses.proofs.EntriesLemmas.{static_is}
use Rattle.run_model.specs.Programs.Clauses.{Clause, is_defined}
use Rattle.text_load.proofs.procedures.Statics.define.Goals as goal

pub returns : goal.returns
returns c =
    let i = c.args.procedure.now in
    c.contains.ensures ∙ (static_is i c.self.inside.defined.keys ∙ (c.self.invariant i ∙ ap (λ (cs : List Clause). is_defined cs i.name i.arity) c.self.view_is))
