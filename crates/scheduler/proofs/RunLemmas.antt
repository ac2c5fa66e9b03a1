-- What a job is run with stays that of the tree.
use Rattle.std.proofs.Common.{◌≡◌, ◌≤◌, inl, inr, ℕ, length, drop, refl, sym, ap, ◌∙◌, subst}
use Rattle.std.specs.Prelude.{OnErr, OnOk, Result, Ok, Err}
use Rattle.effect_gate.specs.Effects.{world_meant}
use Rattle.effect_gate.specs.declared.world.World.{World as KeptWorld}
use Rattle.run_model.specs.Goals.Worlds.{static_among}
use Rattle.scheduler.specs.GivenBack.{IsGivenBack, IsGivenBackAlone, IsGivenBackOnce, IsSameJob}
use Rattle.scheduler.specs.JobRuns.{EventsLeaveRuns, IsJobRun}
use Rattle.scheduler.specs.declared.job_run.JobRun.{JobRun}
use Rattle.scheduler.proofs.EventLemmas.{noted_same}
use Rattle.tree_core.specs.Histories.{History, state_of}
use Rattle.tree_model.specs.Levels.{Place}
use Rattle.stack_run.proofs.RunLemmas.{statics_same}

-- with another world, and another count of the queries that were opened
pub run_moved : (h new : History) (run : JobRun) (world : KeptWorld) (asked : ℕ) → IsJobRun h run → new.job ≡ h.job
    → world.database.statics ≡ run.world.database.statics → world_meant world ≡ (state_of new).world → asked ≤ length h.job.queries
    → (state_of new).queries ≡ drop asked h.job.queries → IsJobRun new (record run { world = world; asked = asked })
run_moved h new run world asked k job statics meant within left = record {
  world = meant;
  statics = statics_same run.world world statics ∙ (k.statics ∙ ap (λ j. static_among j.clauses) (sym job));
  clauses = k.clauses ∙ ap (λ j. j.clauses) (sym job);
  kinds = k.kinds;
  queries = k.queries ∙ ap (λ j. j.queries) (sym job);
  asked = subst (λ j. asked ≤ length j.queries) (sym job) within;
  left = left ∙ ap (λ j. drop asked j.queries) (sym job);
}

-- after an event that leaves the world
pub run_left : EventsLeaveRuns
run_left old new e run alone noted k =
    let same = noted_same old new e alone noted in
    run_moved old new run run.world run.asked k (ap (λ (x : History). x.job) noted) refl (k.world ∙ sym same.world) k.asked (same.queries ∙ k.left)

pub run_alone : (h new : History) (a : Place) (run : JobRun) → IsJobRun h run → IsGivenBackAlone h new a → IsJobRun new run
run_alone h new a run k back = run_left h new back.back run back.alone back.noted k

pub gives_back : (h new : History) (a : Place) → IsGivenBackAlone h new a → IsGivenBackOnce h new a
gives_back h new a back = record { back = back.back; noted = back.noted; gives = back.gives }

pub same_job : (h new : History) (a : Place) → IsGivenBack h new a → IsSameJob h new
same_job h new a (inl back) = record {
  job = ap (λ (x : History). x.job) back.noted;
  budget = ap (λ (x : History). x.budget) back.noted;
  window = ap (λ (x : History). x.window) back.noted;
}
same_job h new a (inr back) = record {
  job = ap (λ (x : History). x.job) back.noted;
  budget = ap (λ (x : History). x.budget) back.noted;
  window = ap (λ (x : History). x.window) back.noted;
}

pub unchanged_job : (h new : History) → new ≡ h → IsSameJob h new
unchanged_job h new e = record {
  job = ap (λ (x : History). x.job) e;
  budget = ap (λ (x : History). x.budget) e;
  window = ap (λ (x : History). x.window) e;
}

-- whether it succeeds or not
pub same_anyway : {T E : Type 0} (r : Result T E) (h new : History) (a : Place) → OnOk r (IsGivenBack h new a) → OnErr r (new ≡ h) → IsSameJob h new
same_anyway (Ok u) h new a back err = same_job h new a back
same_anyway (Err e) h new a back err = unchanged_job h new err
