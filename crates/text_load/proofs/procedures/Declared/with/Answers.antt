use Rattle.std.proofs.Common.{◌∙◌, ◌++◌, ◌∷◌, [], List, ap, sym}
use Rattle.dyn_clauses.proofs.EntriesLemmas.{static_added}
use Rattle.dyn_clauses.specs.declared.indicator.Indicator.{Indicator}
use Rattle.text_load.specs.LoadedTexts.{is_declared}
use Rattle.text_load.proofs.procedures.Declared.with.Goals as goal

pub invariant_of-self : goal.invariant_of-self
invariant_of-self c i =
    let done = c.self.inside.procedures.items in
    static_added c.self.inside.known.keys c.insert.new.self.keys done c.in_ok-share.field-0 c.in_ok-insert.ensures.updates.0 c.self.invariant i
    ∙ ap (λ (is : List Indicator). is_declared is i.name i.arity) (ap (λ (j : Indicator). done ++ j ∷ []) c.in_ok-share.ensures ∙ sym c.in_ok-push.ensures.items)
