-- What a job is run with stays that of a tree that hands out, or to which what was pruned is given up.
use Rattle.std.proofs.Common.{◌≡◌, ℕ, Bool, true, false, cond, Option, Some, None, refl, sym, subst}
use Rattle.public_tree.specs.PublicTrees.{is_going}
use Rattle.scheduler.specs.JobRuns.{EventsLeaveRuns, IsJobRun}
use Rattle.scheduler.specs.declared.job_run.JobRun.{JobRun}
use Rattle.tree_core.specs.HandOuts.{handing_out}
use Rattle.tree_core.specs.Histories.{History, state_of, while_going, with_event}
use Rattle.tree_model.specs.Events.{Claim, Resume, Lost}
use Rattle.tree_model.specs.Levels.{Place}

pub run_claimed : EventsLeaveRuns → (w : ℕ) (o : Option Place) (old new : History) (run : JobRun) → new ≡ handing_out (Claim w) o old → IsJobRun old run → IsJobRun new run
run_claimed leaves w None old new run e k = subst (λ (h : History). IsJobRun h run) (sym e) k
run_claimed leaves w (Some a) old new run e k = leaves old new (Claim w a) run refl e k

pub run_resumed : EventsLeaveRuns → (w : ℕ) (o : Option Place) (old new : History) (run : JobRun) → new ≡ handing_out (Resume w) o old → IsJobRun old run → IsJobRun new run
run_resumed leaves w None old new run e k = subst (λ (h : History). IsJobRun h run) (sym e) k
run_resumed leaves w (Some a) old new run e k = leaves old new (Resume w a) run refl e k

pub run_given_up : EventsLeaveRuns → (w : ℕ) (a : Place) (old new : History) (run : JobRun) → new ≡ while_going (Lost w a) old → IsJobRun old run → IsJobRun new run
run_given_up leaves w a old new run e k = by_going (is_going (state_of old)) e
  where
    by_going : (b : Bool) → new ≡ cond b (with_event (Lost w a) old) old → IsJobRun new run
    by_going true e = leaves old new (Lost w a) run refl e k
    by_going false e = subst (λ (h : History). IsJobRun h run) (sym e) k
