-- The end of a query at the front, and the queries that are left.
use Rattle.std.proofs.Common.{◌≡◌, ◌≤◌, ◌<◌, ℕ, zero, suc, ◌+◌, true, false, List, [], ◌∷◌, length, drop, add-one, Option, Some, refl, sym, ap, ◌∙◌, arith}
use Rattle.std.specs.Prelude.{is_some}
use Rattle.au_term.specs.Term.{Term}
use Rattle.branch_shapes.proofs.OutLemmas.{spot_out}
use Rattle.effect_gate.specs.Effects.{world_meant}
use Rattle.effect_gate.specs.declared.world.World.{World as KeptWorld}
use Rattle.public_tree.specs.PublicTrees.{IsItsGate}
use Rattle.public_tree.specs.declared.answering.Answering.TheVariants as answering
use Rattle.run_model.specs.Machine.Entries.{Entry, EndEntry}
use Rattle.run_model.specs.Programs.Jobs.{Query}
use Rattle.scheduler.specs.JobRuns.{IsJobRun}
use Rattle.scheduler.specs.QueriesLeft.{CountsOpened, queries_left_after}
use Rattle.scheduler.specs.declared.job_run.JobRun.{JobRun}
use Rattle.scheduler.proofs.EventLemmas.{noted_same, state_after}
use Rattle.scheduler.proofs.FrontLemmas.{HasComeTo, IsTakenThere, come_job, come_world}
use Rattle.scheduler.proofs.RunLemmas.{run_moved}
use Rattle.task_world.specs.FrontSteps.{IsWorldAfter, front_event}
use Rattle.task_world.specs.declared.step.FrontStep.{FrontStep}
use Rattle.task_world.specs.declared.step.FrontStep.TheVariants.{Done, Closes}
use Rattle.tree_core.specs.Histories.{History, state_of}
use Rattle.tree_model.specs.Effects.{after_event, query_opens, spot_stack, where_some, world_moved}
use Rattle.tree_model.specs.Events.{Suspend}
use Rattle.tree_model.specs.Floors.{floor_of, with_heights}
use Rattle.tree_model.specs.FrontGates.{taken_at_front}
use Rattle.tree_model.specs.Gates.{gate_on}
use Rattle.tree_model.specs.Legality.{gate_of, taken_at}
use Rattle.tree_model.specs.Levels.{Place, Spot, levels_of}
use Rattle.tree_model.specs.Nodes.{WorldGate}
use Rattle.tree_model.specs.TreeStates.{TreeState, queries_after}
use Rattle.task_world.specs.OutTasks.{EndsQueryAt}

module _ (t : TreeState) (w : ℕ) (a : Place) (ball : Option Term) (ends : EndsQueryAt w a ball t) where
  pub gate_is : IsItsGate WorldGate w a t
  unfolding gate_of
  gate_is s taken = ap (λ (e : Entry). gate_on t.job.clauses (levels_of s) (with_heights (levels_of s) e ∷ floor_of (levels_of s))) (ends s taken)

  opens : (s : Spot) (x : TreeState) (queries : List Query) → x.queries ≡ queries → (query_opens s queries x).queries ≡ queries_after queries
  opens s x [] e = e
  opens s x (q ∷ qs) e = refl

  after_end : (s : Spot) → taken_at w a t ≡ Some s → (after_event t (front_event w a)).queries ≡ queries_after t.queries
  unfolding after_event
  after_end s taken =
      ap (λ (o : Option Spot). (where_some o t (λ q. world_moved q (taken_at_front t.job.clauses (spot_stack q) t.world) t)).queries) taken
      ∙ ap (λ (e : Entry). (world_moved s (taken_at_front t.job.clauses (with_heights (levels_of s) e ∷ floor_of (levels_of s)) t.world) t).queries) (ends s taken)
      ∙ opens s (record t { world = (taken_at_front t.job.clauses (EndEntry ball ∷ floor_of (levels_of s)) t.world).0 }) t.queries refl

module _ (old new : History) (w : ℕ) (a : Place) (ball : Option Term) (ends : EndsQueryAt w a ball (state_of old)) (out : is_some (taken_at w a (state_of old)) ≡ true) where
  taken_queries : IsTakenThere old new w a → (state_of new).queries ≡ queries_after (state_of old).queries
  taken_queries h =
      let s = spot_out (taken_at w a (state_of old)) out in
      ap (λ (x : History). (state_of x).queries) h.noted
      ∙ ap (λ (t : TreeState). t.queries) (state_after old (front_event w a))
      ∙ after_end (state_of old) w a ball ends s.0 s.1

  end_queries : (step : FrontStep) → HasComeTo old new w a step → (state_of new).queries ≡ queries_left_after step (state_of old).queries
  end_queries (Done answering.Taken) h = taken_queries h
  end_queries (Done answering.NotLeftmost) h = (noted_same old new (Suspend w a false) refl h.noted).queries
  end_queries (Done answering.HasEnded) h = absurd h
  end_queries (Closes closing) h = taken_queries h

  -- so the run goes on with its tree
  pub end_run : (run : JobRun) (world : KeptWorld) (asked : ℕ) (step : FrontStep) → IsJobRun old run → HasComeTo old new w a step
      → world.database.statics ≡ run.world.database.statics → IsWorldAfter old w a (world_meant world)
      → CountsOpened (length run.queries.items) run.asked step asked → IsJobRun new (record run { world = world; asked = asked })
  end_run run world asked step k h statics is counts =
      let long : length run.queries.items ≡ length old.job.queries = ap length k.queries in
      run_moved old new run world asked k (come_job old new w a step h) statics (come_world old new w a (world_meant world) is step h)
      (let within = counts.within in omega (arith, long, within))
      (end_queries step h ∙ ap (queries_left_after step) k.left ∙ sym (counts.left old.job.queries (sym long)))

-- one more was opened, if one was left
one_less : (asked : ℕ) (queries : List Query) → asked < length queries → drop (suc asked) queries ≡ queries_after (drop asked queries)
one_less asked [] lt = absurd (omega (arith, lt))
one_less zero (q ∷ qs) lt = refl
one_less (suc asked) (q ∷ qs) lt = one_less asked qs (omega (arith, lt))

none_less : (asked : ℕ) (queries : List Query) → length queries ≤ asked → drop asked queries ≡ queries_after (drop asked queries)
none_less zero [] le = refl
none_less (suc asked) [] le = refl
none_less zero (q ∷ qs) le = absurd (omega (arith, le))
none_less (suc asked) (q ∷ qs) le = none_less asked qs (omega (arith, le))

pub one_opened : (count asked : ℕ) → asked < count → (queries : List Query) → length queries ≡ count → drop (asked + 1) queries ≡ queries_after (drop asked queries)
one_opened count asked lt queries long = ap (λ n. drop n queries) (add-one asked) ∙ one_less asked queries (omega (arith, lt, long))

pub none_opened : (count asked : ℕ) → count ≤ asked → (queries : List Query) → length queries ≡ count → drop asked queries ≡ queries_after (drop asked queries)
none_opened count asked le queries long = none_less asked queries (omega (arith, le, long))
