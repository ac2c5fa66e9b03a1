use Rattle.std.proofs.Common.{sym, subst}
use Rattle.tree_model.specs.EventViews.{place_view}
use Rattle.tree_nodes.specs.Rows.{credit_view}
use Rattle.tree_closing.specs.Sleeping.{Sleeps, IsThereWhere}
use Rattle.tree_closing.specs.Closings.{ComesToRest, HasSleeper}
use Rattle.tree_closing.specs.declared.sleeping.Sleeping.{Sleeping}
use Rattle.tree_closing.specs.declared.way_up.Beside.{Beside}
use Rattle.tree_closing.proofs.ReachedLemmas.{rests_in_nothing, rests_in_findall, rests_in_end, rests_in_recovery, reaches_above}
use Rattle.tree_closing.proofs.way_up.find_rest.Goals as goal
use Rattle.tree_closing.proofs.way_up.find_rest.Goals.{in-Nothing, in-Following, in-QueryEnd, in-Recovery+in-None}

pub loop-end-preserved : goal.loop-end-preserved
loop-end-preserved c =
    let nodes = c.args.nodes.now in
    let e = place_view c.in_ok-end.end in
    record {
      there = c.in-Some.ensures.above.0;
      reaches = reaches_above nodes (place_view c.args.at) (credit_view c.args.credit) (place_view c.loop-end.at) (credit_view c.loop-end.credit) e (credit_view c.in_ok-end.total)
          c.loop-end.invariant.reaches c.in_ok-end.ensures.folds (subst (Sleeps nodes e) c.in-Recovery.is c.sleeper_beside.ensures.sleeps)
          (subst (λ (x : Sleeping). IsThereWhere x nodes.rows e) c.in-Recovery.is c.sleeper_beside.ensures.there) (place_view c.in-Some.above) c.spent.result _
          c.in-Some.ensures.parent c.spent.ensures c.after-credit.ensures;
    }

pub returns-in-loop-end-clause-rests : goal.returns-in-loop-end-clause-rests
returns-in-loop-end-clause-rests c =
    let nodes = c.args.nodes.now in
    let a = place_view c.args.at in
    let k = credit_view c.args.credit in
    let b = place_view c.loop-end.at in
    let now = credit_view c.loop-end.credit in
    let e = place_view c.in_ok-end.end in
    let total = credit_view c.in_ok-end.total in
    let h = c.loop-end.invariant.reaches in
    let f = c.in_ok-end.ensures.folds in
    elim c.match-sleeper_beside.branch [
      | in-Nothing w ↦ subst (ComesToRest nodes a k e total) (sym w.beside-is) (rests_in_nothing nodes a k b now e total h f (subst (Sleeps nodes e) w.in-Nothing.is c.sleeper_beside.ensures.sleeps))
      | in-Following w ↦ subst (ComesToRest nodes a k e total) (sym w.beside-is)
          (rests_in_findall nodes a k b now e total h f (subst (Sleeps nodes e) w.in-Following.is c.sleeper_beside.ensures.sleeps))
      | in-QueryEnd w ↦ subst (ComesToRest nodes a k e total) (sym w.beside-is) (rests_in_end nodes a k b now e total h f (subst (Sleeps nodes e) w.in-QueryEnd.is c.sleeper_beside.ensures.sleeps))
      | in-Recovery+in-None w ↦ subst (ComesToRest nodes a k e total) (sym w.beside-is)
          (rests_in_recovery nodes a k b now e total h f (subst (Sleeps nodes e) w.in-Recovery.is c.sleeper_beside.ensures.sleeps)
          (subst (λ (x : Sleeping). IsThereWhere x nodes.rows e) w.in-Recovery.is c.sleeper_beside.ensures.there) w.in-None.ensures.parent)
    ]

pub returns-in-loop-end-clause-sleeper : goal.returns-in-loop-end-clause-sleeper
returns-in-loop-end-clause-sleeper c =
    let rows = c.args.nodes.now.rows in
    let e = place_view c.in_ok-end.end in
    elim c.match-sleeper_beside.branch [
      | in-Nothing w ↦ subst (λ (x : Beside). HasSleeper x rows e) (sym w.beside-is) tt
      | in-Following w ↦ subst (λ (x : Beside). HasSleeper x rows e) (sym w.beside-is) (subst (λ (x : Sleeping). IsThereWhere x rows e) w.in-Following.is c.sleeper_beside.ensures.there)
      | in-QueryEnd w ↦ subst (λ (x : Beside). HasSleeper x rows e) (sym w.beside-is) (subst (λ (x : Sleeping). IsThereWhere x rows e) w.in-QueryEnd.is c.sleeper_beside.ensures.there)
      | in-Recovery+in-None w ↦ subst (λ (x : Beside). HasSleeper x rows e) (sym w.beside-is) (subst (λ (x : Sleeping). IsThereWhere x rows e) w.in-Recovery.is c.sleeper_beside.ensures.there)
    ]
