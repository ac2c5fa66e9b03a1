use Rattle.std.proofs.Common.{◌≤◌, ℕ, List, length, drop, sym, ap, ◌∙◌, subst}
use Rattle.au_io.specs.FaultCounts.{AppendedPrefix}
use Rattle.run_model.specs.Goals.Worlds.{World}
use Rattle.stack_run.specs.RunEnds.{IsRun}
use Rattle.scheduler.specs.Endings.{ClosesFrom}
use Rattle.run_model.specs.Machine.Runs.{text_of}
use Rattle.scheduler.specs.Pieces.{PutsOn}
use Rattle.scheduler.proofs.EndingLemmas.{closes_at, fails_at, puts_on_at, cut_by_memory, so_far}
use Rattle.scheduler.proofs.driving.drive_on.Goals as goal

pub returns-in-Some-clause-run : goal.returns-in-Some-clause-run
returns-in-Some-clause-run g c =
    let i = c.loop-turn.invariant in
    closes_at c.args.tree.now.history.job c.args.budget c.loop-turn.tree.history c.loop-turn.put (g.K.Sink.taken c.args.out.now) (g.K.Sink.taken c.loop-turn.out) (g.K.Sink.taken c.close.new.out)
    c.in-Some.end c.close.result c.loop-turn.run.world.out.items i.job i.budget c.in-Some.ensures.ended (ap (λ (w : World). w.written) i.run.world) i.put
    (subst (λ (bytes : List ℕ). ClosesFrom bytes c.loop-turn.put (g.K.Sink.taken c.loop-turn.out) (g.K.Sink.taken c.close.new.out) c.in-Some.end c.close.result) c.deref.ensures.value c.close.ensures.closes)

pub loop-turn-preserved : goal.loop-turn-preserved
loop-turn-preserved g c =
    let i = c.loop-turn.invariant in
    let same = c.turn.ensures.same in
    let job = same.job ∙ i.job in
    let budget = same.budget ∙ i.budget in record {
      job = job;
      budget = budget;
      driven = c.in-Ok.ensures.driven;
      run = c.in-Ok.ensures.run;
      kept = c.in-Ok.ensures.kept;
      put = puts_on_at c.args.tree.now.history.job c.args.budget c.turn.new.tree.history c.turn.new.run.world.out.items job budget c.keeps_promises.ensures.promises
          (ap (λ (w : World). w.written) c.in-Ok.ensures.run.world) c.loop-turn.put 8192 c.in-Ok-put_on.now (g.K.Sink.taken c.args.out.now) (g.K.Sink.taken c.loop-turn.out) (g.K.Sink.taken c.put_on.new.out) i.put
          (subst (λ (bytes : List ℕ). PutsOn bytes c.loop-turn.put 8192 c.in-Ok-put_on.now (g.K.Sink.taken c.loop-turn.out) (g.K.Sink.taken c.put_on.new.out)) c.deref-in-loop-turn.ensures.value c.in-Ok-put_on.ensures.ok);
      quiet = c.in-Ok-put_on.ensures.quiet ∙ i.quiet;
    }

pub returns-in-Err-clause-run : goal.returns-in-Err-clause-run
returns-in-Err-clause-run g c =
    let job = c.args.tree.now.history.job in
    let before = g.K.Sink.taken c.args.out.now in
    let now = g.K.Sink.taken c.loop-turn.out in
    subst (IsRun job c.args.budget before now) (sym c.cut_short.ensures)
    (cut_by_memory job c.args.budget before now (so_far (text_of job c.args.budget) c.loop-turn.put before now c.loop-turn.invariant.put))

pub returns-clause-run : goal.returns-clause-run
returns-clause-run g c =
    let job = c.args.tree.now.history.job in
    let before = g.K.Sink.taken c.args.out.now in
    let now = g.K.Sink.taken c.loop-turn.out in
    subst (IsRun job c.args.budget before now) (sym c.cut_short-2.ensures)
    (cut_by_memory job c.args.budget before now (so_far (text_of job c.args.budget) c.loop-turn.put before now c.loop-turn.invariant.put))

pub returns-in-Err-put_on-clause-run : goal.returns-in-Err-put_on-clause-run
returns-in-Err-put_on-clause-run g c =
    let i = c.loop-turn.invariant in
    let same = c.turn.ensures.same in
    let err = c.in-Err-put_on.ensures.err in
    subst (IsRun c.args.tree.now.history.job c.args.budget (g.K.Sink.taken c.args.out.now) (g.K.Sink.taken c.put_on.new.out)) (sym c.cut_short-in-Err-put_on.ensures)
    (fails_at c.args.tree.now.history.job c.args.budget c.turn.new.tree.history c.turn.new.run.world.out.items (same.job ∙ i.job) (same.budget ∙ i.budget) c.keeps_promises.ensures.promises
    (ap (λ (w : World). w.written) c.in-Ok.ensures.run.world) c.loop-turn.put (g.K.Sink.taken c.args.out.now) (g.K.Sink.taken c.loop-turn.out) (g.K.Sink.taken c.put_on.new.out) i.put
    (subst (λ (bytes : List ℕ). c.loop-turn.put ≤ length bytes) c.deref-in-loop-turn.ensures.value err.0)
    (subst (λ (bytes : List ℕ). AppendedPrefix (g.K.Sink.taken c.loop-turn.out) (g.K.Sink.taken c.put_on.new.out) (drop c.loop-turn.put bytes)) c.deref-in-loop-turn.ensures.value err.1))
