use Rattle.std.proofs.Common.{rules, ◌≡◌, length, min, sym, ap, ◌∙◌, subst, arith}
use Rattle.std.specs.Arc.{arc_value}
use Rattle.run_model.specs.Programs.Jobs.{Job}
use Rattle.tree_core.specs.Histories.{History}
use Rattle.scheduler.specs.JobRuns.{IsJobRun}
use Rattle.scheduler.specs.declared.job_run.JobRun.{JobRun}
use Rattle.scheduler.proofs.OpeningLemmas.{opened, run_opened}
use Rattle.scheduler.proofs.opening.open.Goals as goal

pub returns-clause-run : goal.returns-clause-run
returns-clause-run g c =
    let p = c.into_parts-clauses.result in
    let parts = c.into_parts-clauses.ensures.parts in
    let run : JobRun = record {
      world = record { out = c.new-out.result; database = p.database; ops = p.ops };
      text = c.in_ok-text.text;
      kinds = c.in_ok-kinds.kinds;
      queries = p.queries;
      asked = c.min-asked.result;
    } in
    let history : c.in_ok-tree.tree.history ≡ opened c.args.job c.args.budget c.args.window =
    c.in_ok-tree.ensures ∙ ap (λ (job : Job). opened job c.args.budget c.args.window) c.requires in
    let clauses : (arc_value c.in_ok-text.text).clauses ≡ c.args.job.clauses = search rules in
    let kinds : c.in_ok-kinds.kinds ≡ (arc_value c.in_ok-text.text).code.names = search rules in
    let asked : c.min-asked.result ≡ min (length c.args.job.queries) 1 =
    let count = ap length parts.queries in let len = c.len.ensures in let least = c.min-asked.ensures in omega (arith, count, len, least) in
    subst (λ (h : History). IsJobRun h run) (sym history)
    (run_opened c.args.job c.args.budget c.args.window run c.new-out.ensures.items parts.database parts.operators c.into_parts-clauses.ensures.statics clauses kinds parts.queries asked)
