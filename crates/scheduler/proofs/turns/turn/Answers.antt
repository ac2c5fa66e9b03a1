use Rattle.scheduler.proofs.TurnLemmas.{back_again, run_goes_out}
use Rattle.scheduler.proofs.KeptLemmas.{kept_on}
use Rattle.std.specs.Arc.{arc_value}
use Rattle.std.proofs.Common.{OnOk, Result, Ok, Err}
use Rattle.scheduler.proofs.turns.turn.Goals as goal

pub returns-then-not-is_going-clause-run : goal.returns-then-not-is_going-clause-run
returns-then-not-is_going-clause-run g c = run_goes_out c.events_leave_runs.ensures _ _ _ _ c.in_ok-at.ensures.goes c.requires.run

pub serve-requires-clause-run : goal.serve-requires-clause-run
serve-requires-clause-run g c = run_goes_out c.events_leave_runs.ensures _ _ _ _ c.in_ok-at.ensures.goes c.requires.run

pub serve-requires-clause-kept : goal.serve-requires-clause-kept
serve-requires-clause-kept g c =
    kept_on c.kept_regions_stay.ensures.stay c.args.tree.now.nodes.rows c.hand_out.new.tree.nodes.rows (arc_value c.args.run.now.text) c.args.kept
    c.hand_out.ensures.made c.requires.kept

on_ok : {T E : Type 0} (r : Result T E) {P Q : Type 0} → (P → Q) → OnOk r P → OnOk r Q
on_ok (Ok x) f h = f h
on_ok (Err e) f h = tt

pub returns-clause-driven : goal.returns-clause-driven
returns-clause-driven g c =
    on_ok c.serve.result (back_again c.out_and_back.ensures.out c.out_and_back.ensures.back c.out_and_back.ensures.once _ _ _ _ c.requires.driven c.requires.going c.in_ok-at.ensures.goes) c.serve.ensures.back
