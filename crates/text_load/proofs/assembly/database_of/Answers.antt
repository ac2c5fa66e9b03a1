use Rattle.std.proofs.Common.{◌≡◌, ◌∙◌, map, ap}
use Rattle.std.specs.Arc.{arc_value}
use Rattle.text_load.proofs.JobAssemblyLemmas.{procedures_free, clauses_free, free_still}
use Rattle.text_load.proofs.assembly.database_of.Goals as goal

pub declare_all-requires : goal.declare_all-requires
declare_all-requires c =
    procedures_free c.args.library.now c.args.text.now c.in_ok-procedures.ensures.library c.in_ok-procedures.ensures.text c.in_ok-database.database.statics (map arc_value c.args.statics.now) c.requires
    (λ i. c.in_ok-database.ensures.statics i ∙ c.in_ok-defined_by.ensures i) c.deref.result.now (c.deref.ensures.value ∙ c.in_ok-procedures.ensures.procedures)

pub add_all-requires : goal.add_all-requires
add_all-requires c =
    free_still _ _ _ c.in_ok-declare_all.ensures.statics (clauses_free c.args.library.now c.args.text.now c.in_ok-procedures.ensures.library c.in_ok-procedures.ensures.text c.in_ok-database.database.statics (map arc_value c.args.statics.now) c.requires
    (λ i. c.in_ok-database.ensures.statics i ∙ c.in_ok-defined_by.ensures i) _ (ap (map arc_value) c.deref-2.ensures.value ∙ c.in_ok-clauses.ensures))
