use Rattle.std.proofs.Common.{sym, ap, ◌∙◌, arith}
use Rattle.stack_run.specs.MachineView.{names_asked}
use Rattle.stack_run.proofs.StepLemmas.{names_past, names_at}
use Rattle.stack_run.proofs.answering.asked_names.Goals as goal
use Rattle.stack_run.proofs.answering.asked_names.Goals.{then-asked-eq0-via-then-asked-eq0, then-asked-eq0-via-else-asked-eq0+then-asked-len}

pub returns-then-asked-eq0 : goal.returns-then-asked-eq0
returns-then-asked-eq0 c =
    let queries = c.args.program.now.queries.items in
    elim c.then-asked-eq0.branch [
      | then-asked-eq0-via-then-asked-eq0 w ↦ ap (λ n. names_asked n queries) (sym w.if-asked-eq0.true)
      | then-asked-eq0-via-else-asked-eq0+then-asked-len w ↦ sym (names_past c.args.asked queries (omega (arith, w.len.ensures, w.if-asked-len.true, c.args.program.now.queries.ok.0)))
    ]

pub returns : goal.returns
returns c = c.names.ensures ∙ names_at c.args.asked c.args.program.now.queries.items c.index.result.now (omega arith) (omega (arith, c.len.ensures, c.args.program.now.queries.ok.0)) c.index.ensures
