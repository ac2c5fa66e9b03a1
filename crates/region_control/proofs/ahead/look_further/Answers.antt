use Rattle.std.proofs.Common.{length, subst}
use Rattle.region_split.specs.ClauseTrials.{IsOptionalPosition}
use Rattle.region_control.specs.Ahead.{HasFirst}
use Rattle.region_control.proofs.AheadLemmas.{going_at, going_back, removal_ahead, answer_ahead, collected_on, fewer_entries}
use Rattle.region_control.proofs.ahead.look_further.Goals.{in-Some, in-None+in_ok-now-in-None}
use Rattle.region_control.proofs.ahead.look_further.Goals as goal

pub loop-now-init : goal.loop-now-init
loop-now-init c =
    let r = c.args.region.now in
    elim c.match-start.branch [
      | in-Some w ↦ rw w.region-is (rw w.now-is (going_at r c.args.start w.in-Some.position w.in-Some.is (subst (IsOptionalPosition r (length r.choices)) w.in-Some.is c.requires)))
      | in-None+in_ok-now-in-None w ↦
          rw w.region-is (rw w.now-is (going_back r w.backtrack.new.self c.args.start w.in_ok-now-in-None.now w.in-None.is w.in_ok-now-in-None.ensures.resumes w.in_ok-now-in-None.ensures.steps w.in_ok-now-in-None.ensures.text w.in_ok-now-in-None.ensures.floor))
    ]

pub returns-in-Nothing-clause-ahead : goal.returns-in-Nothing-clause-ahead
returns-in-Nothing-clause-ahead c =
    let r = c.loop-now.region in
    answer_ahead c.args.region.now r c.args.start c.loop-now.now c.loop-now.invariant c.in-At.position c.in-Nothing.position c.in-At.is (subst (HasFirst r c.in-At.position) c.in-Nothing.is c.in_ok-item.ensures)

pub loop-now-smaller : goal.loop-now-smaller
loop-now-smaller c =
    let r = c.loop-now.region in
    fewer_entries c.args.region.now r c.args.start c.loop-now.now c.loop-now.invariant c.in-At.position c.in-Result.value c.in-Result.over c.in-At.is (subst (HasFirst r c.in-At.position) c.in-Result.is c.in_ok-item.ensures)
    c.collect.new.region c.backtrack-in-Result.new.self c.in_ok-collect-in-Result.ensures.collects c.in_ok-now-in-Result.now c.in_ok-now-in-Result.ensures.resumes

pub loop-now-preserved : goal.loop-now-preserved
loop-now-preserved c =
    let r = c.loop-now.region in
    collected_on c.args.region.now r c.args.start c.loop-now.now c.loop-now.invariant c.in-At.position c.in-Result.value c.in-Result.over c.in-At.is (subst (HasFirst r c.in-At.position) c.in-Result.is c.in_ok-item.ensures)
    c.collect.new.region c.backtrack-in-Result.new.self c.in_ok-collect-in-Result.ensures.collects c.in_ok-now-in-Result.now c.in_ok-now-in-Result.ensures.resumes c.in_ok-now-in-Result.ensures.steps c.in_ok-now-in-Result.ensures.text c.in_ok-now-in-Result.ensures.floor

pub returns-in-Removal-clause-ahead : goal.returns-in-Removal-clause-ahead
returns-in-Removal-clause-ahead c =
    let r = c.loop-now.region in
    removal_ahead c.args.region.now r c.args.start c.loop-now.now c.loop-now.invariant c.in-At.position c.in-Removal.after c.in-Removal.number c.in-At.is (subst (HasFirst r c.in-At.position) c.in-Removal.is c.in_ok-item.ensures)
