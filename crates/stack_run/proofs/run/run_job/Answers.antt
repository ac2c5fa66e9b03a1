use Rattle.std.proofs.Common.{◌≡◌, ap, sym, subst, ◌∙◌}
use Rattle.effect_gate.specs.declared.world.World.{World}
use Rattle.text_load.specs.JobView.{AreStatics}
use Rattle.stack_run.proofs.RunLemmas.{statics_by}
use Rattle.stack_run.proofs.run.run_job.Goals as goal

pub run_on-requires-clause-statics : goal.run_on-requires-clause-statics
run_on-requires-clause-statics g c =
    let m = c.in-Ok-begin.machine in
    let parts = c.into_parts-clauses.ensures.parts in
    statics_by m.region c.args.job m.world (ap (λ t. t.clauses) c.in-Ok-begin.ensures.begins.text ∙ (c.in-Ok.ensures.clauses ∙ parts.clauses))
    (subst (λ (w : World). AreStatics w.database.statics c.args.job.clauses) (sym c.in-Ok-begin.ensures.world) c.into_parts-clauses.ensures.statics)
