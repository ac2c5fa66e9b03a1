use Rattle.std.proofs.Common.{◌∙◌, List, ap₂}
use Rattle.dyn_clauses.specs.declared.indicator.Indicator.{Indicator as IndicatorTerms}
use Rattle.dyn_clauses.specs.DatabaseView.{Entries, procedures_meant}
use Rattle.dyn_clauses.proofs.ViewLemmas.{database_entries, entries_cloned, keys_cloned}
use Rattle.dyn_clauses.proofs.database.Database.copy.Goals as goal

pub invariant_of-result : goal.invariant_of-result
invariant_of-result c =
    let m = c.self.inside.procedures in
    let a = c.self.inside.places in
    database_entries m c.in_ok-clone-2.field-0 a c.in_ok-clone-3.field-0 c.self.inside.next c.self.invariant
    (entries_cloned m.entries c.in_ok-clone-2.field-0.entries c.in_ok-clone-2.ensures.cases) (entries_cloned a.entries c.in_ok-clone-3.field-0.entries c.in_ok-clone-3.ensures.cases)

pub returns : goal.returns
returns c =
    let n = c.self.inside.next in
    ap₂ (λ (ks : List IndicatorTerms) (es : Entries). record { statics = ks; kept = record { procedures = procedures_meant es; next = n } }) (keys_cloned c.self.inside.statics.keys c.in_ok-clone.field-0.keys c.in_ok-clone.ensures.cases)
    (entries_cloned c.self.inside.procedures.entries c.in_ok-clone-2.field-0.entries c.in_ok-clone-2.ensures.cases)
    ∙ c.self.view_is
