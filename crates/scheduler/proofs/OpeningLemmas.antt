-- What a job is run with, before the first event of its tree.
use Rattle.std.proofs.Common.{◌≡◌, ◌≤◌, ◌||◌, ℕ, List, [], ◌∷◌, length, drop, min, refl, sym, ap, ◌∙◌, subst, arith}
use Rattle.std.proofs.Math.Path.{fun_ext}
use Rattle.std.specs.Arc.{arc_value}
use Rattle.run_model.specs.Goals.Worlds.{is_reserved, static_among}
use Rattle.run_model.specs.Programs.Jobs.{Query, Job}
use Rattle.effect_gate.specs.Effects.{statics_of, world_meant}
use Rattle.effect_gate.specs.declared.world.World.{World as KeptWorld}
use Rattle.text_load.specs.JobView.{AreStatics}
use Rattle.tree_model.specs.TreeStates.{queries_after}
use Rattle.tree_core.specs.Histories.{History}
use Rattle.scheduler.specs.JobRuns.{IsJobRun}
use Rattle.scheduler.specs.declared.job_run.JobRun.{JobRun}

-- the history of a tree that was just opened
abbrev pub opened : Job → ℕ → ℕ → History
opened job budget window = record { job = job; budget = budget; window = window; events = [] }

first_opened : (queries : List Query) → queries_after queries ≡ drop (min (length queries) 1) queries
first_opened [] = refl
first_opened (q ∷ queries) =
    let one : 1 ≡ min (length (q ∷ queries)) 1 = omega arith in
    ap (λ (n : ℕ). drop n (q ∷ queries)) one

statics_are : (w : KeptWorld) (job : Job) → AreStatics w.database.statics job.clauses → statics_of w ≡ static_among job.clauses
statics_are w job h = fun_ext (λ name. fun_ext (λ arity. ap (λ b. is_reserved name arity || b) (h (record { name = name; arity = arity }))))

world_of : (written : List ℕ) (job : Job) (w : KeptWorld) → w.out.items ≡ [] → w.database.kept ≡ job.database → w.ops ≡ job.operators
    → world_meant w ≡ record { written = []; database = job.database; operators = job.operators }
world_of written job w out database operators =
    ap (λ (bytes : List ℕ). record { written = bytes; database = w.database.kept; operators = w.ops }) out
    ∙ (ap (λ d. record { written = []; database = d; operators = w.ops }) database
    ∙ ap (λ o. record { written = []; database = job.database; operators = o }) operators)

pub run_opened : (job : Job) (budget window : ℕ) (run : JobRun) → run.world.out.items ≡ [] → run.world.database.kept ≡ job.database → run.world.ops ≡ job.operators
    → AreStatics run.world.database.statics job.clauses → (arc_value run.text).clauses ≡ job.clauses → run.kinds ≡ (arc_value run.text).code.names
    → run.queries.items ≡ job.queries → run.asked ≡ min (length job.queries) 1 → IsJobRun (opened job budget window) run
run_opened job budget window run out database operators statics clauses kinds queries asked = record {
  world = world_of [] job run.world out database operators;
  statics = statics_are run.world job statics;
  clauses = clauses;
  kinds = kinds;
  queries = queries;
  asked = subst (λ (n : ℕ). n ≤ length job.queries) (sym asked) (omega arith);
  left = first_opened job.queries ∙ ap (λ (n : ℕ). drop n job.queries) (sym asked);
}
