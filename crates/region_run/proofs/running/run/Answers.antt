use Rattle.std.proofs.Common.{◌+◌, Some, ◌∙◌, sym, subst, arith}
use Rattle.region_control.specs.Ahead.{LiesAhead}
use Rattle.region_run.specs.declared.running.Stop.TheVariants as stop
use Rattle.region_run.specs.Runs.{Runs, TakesCompound, TakesFirst}
use Rattle.region_run.proofs.RunLemmas.{stops_at, calls_on, goes_on_at, fails_on, ends_uncaught, world_next}
use Rattle.region_run.proofs.GoingOnLemmas.{lies_further, takes_ahead}
use Rattle.region_run.proofs.running.run.Goals.{in-At, in-Failed, in-Goal, in-Nothing+in_ok-ahead-in-Nothing+in-Goal-2+in_ok-infer-in-Goal-2}
use Rattle.region_run.proofs.running.run.Goals as goal

pub loop-taken-preserved-in-Called : goal.loop-taken-preserved-in-Called
loop-taken-preserved-in-Called c =
    let r = c.loop-taken.region in
    let next = c.loop-taken.next in
    let few = c.loop-taken-test.true in
    let took = subst (TakesCompound r c.take_compound.new.region next) c.in-Called.is c.in_ok-position.ensures in
    (calls_on c.args.region.now r c.take_compound.new.region c.args.start next c.loop-taken.taken c.loop-taken.invariant.0 c.in-Called.position took, omega (arith, few))

pub returns-in_default : goal.returns-in_default
returns-in_default c =
    let r = c.loop-taken.region in
    let next = c.loop-taken.next in
    let w = c.loop-taken.invariant.0 in
    let nothing = subst (TakesCompound r c.take_compound.new.region next) c.in-Nothing.is c.in_ok-position.ensures in
    let ahead = c.in_ok-ahead-in-Nothing.ensures in
    let lies = lies_further r c.take_compound.new.region c.look_ahead.new.region next c.in-Nothing.start _ nothing.goes ahead.ahead in
    record {
      runs = stops_at c.args.region.now r c.look_ahead.new.region c.args.start next c.loop-taken.taken w _ lies c.args.limit _ c.stopped.ensures.taken c.stopped.ensures.stop c.loop-taken.invariant.1 (λ i g e. absurd (c.in_default.not-Goal i g e));
      text = ahead.text ∙ (nothing.text ∙ w.text);
      floor = ahead.floor ∙ (nothing.floor ∙ w.floor);
    }

pub returns-clause-runs : goal.returns-clause-runs
returns-clause-runs c =
    let le = c.loop-taken.invariant.1 in
    let out = c.loop-taken-test.false in
    stops_at c.args.region.now c.loop-taken.region c.look_ahead-2.new.region c.args.start c.loop-taken.next c.loop-taken.taken c.loop-taken.invariant.0 _ c.in_ok-ahead.ensures.ahead c.args.limit _ c.stopped-2.ensures.taken c.stopped-2.ensures.stop le (λ i g e. omega (arith, le, out))

pub returns-in-Uncaught : goal.returns-in-Uncaught
returns-in-Uncaught c =
    let old = c.args.region.now in
    let r = c.loop-taken.region in
    let next = c.loop-taken.next in
    let w = c.loop-taken.invariant.0 in
    let few = c.loop-taken-test.true in
    let m = c.match-branch-2 in
    let f : TakesFirst r m.region next m.item.0 m.item.1 m.item.2 = elim m.branch [
      | in-Goal w1 ↦ rw w1.region-is (rw w1.item-is (let took = subst (TakesCompound r c.take_compound.new.region next) w1.in-Goal.is c.in_ok-position.ensures in took.first))
      | in-Nothing+in_ok-ahead-in-Nothing+in-Goal-2+in_ok-infer-in-Goal-2 w1 ↦ rw w1.region-is (rw w1.item-is
          (takes_ahead r c.take_compound.new.region w1.look_ahead.new.region w1.infer.new.region next w1.in-Nothing.start w1.in-Goal-2.item w1.in-Goal-2.place w1.in_ok-infer-in-Goal-2.field-0
          (subst (TakesCompound r c.take_compound.new.region next) w1.in-Nothing.is c.in_ok-position.ensures)
          (subst (LiesAhead c.take_compound.new.region w1.look_ahead.new.region w1.in-Nothing.start) w1.in-Goal-2.is w1.in_ok-ahead-in-Nothing.ensures.ahead)
          w1.in_ok-ahead-in-Nothing.ensures.text w1.in_ok-ahead-in-Nothing.ensures.floor
          w1.in_ok-infer-in-Goal-2.ensures.infers w1.in_ok-infer-in-Goal-2.ensures.text w1.in_ok-infer-in-Goal-2.ensures.floor))
    ] in
    record {
      runs = subst (λ ball. Runs old m.region c.args.start c.args.limit (record { taken = c.loop-taken.taken + 1; stop = stop.QueryDone (Some ball) })) (sym c.into_inner.ensures)
          (ends_uncaught old r m.region c.args.start next c.loop-taken.taken w m.item.0 m.item.1 m.item.2 f c.args.limit c.in-Uncaught.ball few c.in-Uncaught.is);
      text = f.text ∙ (f.kept ∙ w.text);
      floor = f.floor ∙ (f.stayed ∙ w.floor);
    }

pub returns-in-AsksWorld : goal.returns-in-AsksWorld
returns-in-AsksWorld c =
    let old = c.args.region.now in
    let r = c.loop-taken.region in
    let next = c.loop-taken.next in
    let w = c.loop-taken.invariant.0 in
    let few = c.loop-taken-test.true in
    let m = c.match-branch-2 in
    let f : TakesFirst r m.region next m.item.0 m.item.1 m.item.2 = elim m.branch [
      | in-Goal w1 ↦ rw w1.region-is (rw w1.item-is (let took = subst (TakesCompound r c.take_compound.new.region next) w1.in-Goal.is c.in_ok-position.ensures in took.first))
      | in-Nothing+in_ok-ahead-in-Nothing+in-Goal-2+in_ok-infer-in-Goal-2 w1 ↦ rw w1.region-is (rw w1.item-is
          (takes_ahead r c.take_compound.new.region w1.look_ahead.new.region w1.infer.new.region next w1.in-Nothing.start w1.in-Goal-2.item w1.in-Goal-2.place w1.in_ok-infer-in-Goal-2.field-0
          (subst (TakesCompound r c.take_compound.new.region next) w1.in-Nothing.is c.in_ok-position.ensures)
          (subst (LiesAhead c.take_compound.new.region w1.look_ahead.new.region w1.in-Nothing.start) w1.in-Goal-2.is w1.in_ok-ahead-in-Nothing.ensures.ahead)
          w1.in_ok-ahead-in-Nothing.ensures.text w1.in_ok-ahead-in-Nothing.ensures.floor
          w1.in_ok-infer-in-Goal-2.ensures.infers w1.in_ok-infer-in-Goal-2.ensures.text w1.in_ok-infer-in-Goal-2.ensures.floor))
    ] in
    record {
      runs = world_next old r m.region c.args.start next c.loop-taken.taken w m.item.0 m.item.1 m.item.2 f c.args.limit few c.in-AsksWorld.is;
      text = f.text ∙ (f.kept ∙ w.text);
      floor = f.floor ∙ (f.stayed ∙ w.floor);
    }

pub loop-taken-preserved : goal.loop-taken-preserved
loop-taken-preserved c =
    let old = c.args.region.now in
    let r = c.loop-taken.region in
    let next = c.loop-taken.next in
    let w = c.loop-taken.invariant.0 in
    let few = c.loop-taken-test.true in
    let m = c.match-branch-2 in
    let f : TakesFirst r m.region next m.item.0 m.item.1 m.item.2 = elim m.branch [
      | in-Goal w1 ↦ rw w1.region-is (rw w1.item-is (let took = subst (TakesCompound r c.take_compound.new.region next) w1.in-Goal.is c.in_ok-position.ensures in took.first))
      | in-Nothing+in_ok-ahead-in-Nothing+in-Goal-2+in_ok-infer-in-Goal-2 w1 ↦ rw w1.region-is (rw w1.item-is
          (takes_ahead r c.take_compound.new.region w1.look_ahead.new.region w1.infer.new.region next w1.in-Nothing.start w1.in-Goal-2.item w1.in-Goal-2.place w1.in_ok-infer-in-Goal-2.field-0
          (subst (TakesCompound r c.take_compound.new.region next) w1.in-Nothing.is c.in_ok-position.ensures)
          (subst (LiesAhead c.take_compound.new.region w1.look_ahead.new.region w1.in-Nothing.start) w1.in-Goal-2.is w1.in_ok-ahead-in-Nothing.ensures.ahead)
          w1.in_ok-ahead-in-Nothing.ensures.text w1.in_ok-ahead-in-Nothing.ensures.floor
          w1.in_ok-infer-in-Goal-2.ensures.infers w1.in_ok-infer-in-Goal-2.ensures.text w1.in_ok-infer-in-Goal-2.ensures.floor))
    ] in
    elim c.match-after.branch [
      | in-At w1 ↦ rw w1.next-is (goes_on_at old r m.region c.args.start next c.loop-taken.taken w m.item.0 m.item.1 m.item.2 f w1.in-At.position w1.in-At.is, omega (arith, few))
      | in-Failed w1 ↦ rw w1.next-is (fails_on old r m.region c.args.start next c.loop-taken.taken w m.item.0 m.item.1 m.item.2 f w1.in-Failed.is, omega (arith, few))
    ]
