use Rattle.std.proofs.Common.{◌≡◌, ◌+◌, ◌++◌, ◌∷◌, [], get_or, sym, ap, ◌∙◌, subst}
use Rattle.cell_store.proofs.OlderBindingLemmas.{HasOlder, AreAllOlder, older_kept, older_added, added_of, taken_all}
use Rattle.cell_store.proofs.made.older_variables.Goals as goal
use Rattle.cell_store.proofs.made.older_variables.Goals.{then-variable-below+in_ok-push, else-variable-below}

pub loop-variable-preserved : goal.loop-variable-preserved
loop-variable-preserved c =
    let trail = c.args.trail.now in
    let i = c.loop-variable.variable-index in
    let lt = c.loop-variable-test.true in
    let done = c.loop-variable.older.items in
    let was = c.loop-variable.invariant in
    elim c.if-variable-below.branch [
      | then-variable-below+in_ok-push w ↦
          let more : c.if-variable-below.older.items ≡ done ++ get_or trail i 0 ∷ [] = ap (λ o. o.items) w.older-is ∙ w.in_ok-push.ensures.items in
          record {
            all = subst (HasOlder trail c.args.below (i + 1)) (sym more) (older_added trail c.args.below i done lt was.all);
            others = subst (AreAllOlder trail c.args.below) (sym more) (added_of trail c.args.below i done lt w.if-variable-below.true was.others);
          }
      | else-variable-below w ↦
          let same : c.if-variable-below.older.items ≡ done = ap (λ o. o.items) w.older-is in
          record {
            all = subst (HasOlder trail c.args.below (i + 1)) (sym same) (older_kept trail c.args.below i done lt w.if-variable-below.false was.all);
            others = subst (AreAllOlder trail c.args.below) (sym same) was.others;
          }
    ]

pub returns : goal.returns
returns c =
    let was = c.loop-variable.invariant in
    record {
      all = λ v h b. was.all v (taken_all c.args.trail.now c.loop-variable.variable-index v c.loop-variable-test.false h) b;
      others = was.others;
    }
