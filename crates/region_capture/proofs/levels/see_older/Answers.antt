use Rattle.std.proofs.Common.{◌+◌, get_or, take_all, sym, subst, ◌∙◌}
use Rattle.std.specs.List.{Contains}
use Rattle.region_capture.proofs.LevelLemmas.{SeesTo, sees_again, sees_next, within}
use Rattle.region_capture.proofs.levels.see_older.Goals as goal
use Rattle.region_capture.proofs.levels.see_older.Goals.{then-not-has+in_ok-see+in_ok-write_binding, else-not-has}

pub loop-variable-preserved : goal.loop-variable-preserved
loop-variable-preserved c =
    let st = c.args.store.now in
    let vs = c.args.variables.now in
    let i = c.loop-variable.variable-index in
    let lt = c.loop-variable-test.true in
    let start = c.args.seen in
    let old = c.loop-variable.needed in
    let was = c.loop-variable.invariant in
    let v = get_or vs i 0 in
    elim c.if-not-has.branch [
      | then-not-has+in_ok-see+in_ok-write_binding w ↦
          subst (SeesTo st vs (i + 1) start) (sym w.needed-is)
          (sees_next st vs i lt start old _ was (sym c.has.ensures ∙ w.if-not-has.true) w.in_ok-see.ensures
          (within st vs i lt start old was c.requires.there c.requires.long) w.in_ok-write_binding.ensures)
      | else-not-has w ↦
          subst (SeesTo st vs (i + 1) start) (sym w.needed-is)
          (sees_again st vs i lt start old old was (sym c.has.ensures ∙ w.if-not-has.false))
    ]

pub returns : goal.returns
returns c =
    let vs = c.args.variables.now in
    let was = c.loop-variable.invariant in
    record {
      kept = was.kept;
      only = was.only;
      all = λ v h. was.all v (subst (λ xs. Contains xs v) (sym (take_all c.loop-variable.variable-index vs c.loop-variable-test.false)) h);
      long = was.long;
      keeps = was.keeps;
    }
