-- How far a region comes.
use Rattle.std.proofs.Common.{◌≡◌, ℕ, zero, suc, ◌+◌, ◌≤◌, List, [], ◌∷◌, ◌++◌, Option, Some, None, refl, sym, ap, ◌∙◌, subst, arith}
use Rattle.au_term.specs.Term.{Term}
use Rattle.run_model.specs.Machine.States.{State}
use Rattle.region_split.specs.Regions.{RegionView}
use Rattle.region_split.specs.declared.frame.Position.{Position}
use Rattle.region_run.specs.Runs.{Runs as HasRun, IsStop}
use Rattle.region_run.specs.declared.running.Ran.{Ran}
use Rattle.region_run.specs.declared.running.Stop.{Stop}
use Rattle.region_run.specs.declared.running.Stop.TheVariants as stop
use Rattle.stack_run.specs.MachineView.{own_asked, ComesTo, StopsAt, next_state}
use Rattle.stack_run.specs.declared.machine.Machine.{Machine}
use Rattle.stack_run.specs.declared.machine.Next.{Next}
use Rattle.stack_run.specs.declared.machine.Next.TheVariants.{Runs, Uncaught, Over}

stops_so : (r : RegionView) (limit : ℕ) (ran : Ran) (s : Stop) → IsStop r limit ran s → StopsAt r limit ran s
stops_so r limit ran (stop.Limit item g) h = h.1
stops_so r limit ran (stop.World item g) h = h
stops_so r limit ran (stop.Removal number after) h = h
stops_so r limit ran (stop.Answer p) h = h
stops_so r limit ran (stop.QueryDone ball) h = tt
stops_so r limit ran stop.AllDone h = tt

-- a region that runs
pub ran_to : (m : Machine) (r1 : RegionView) (start : Option Position) (limit : ℕ) (ran : Ran) → HasRun m.region r1 start limit ran → ComesTo m (record m { region = r1 }) (Runs start) limit ran
ran_to m r1 start limit ran h = record {
  run = λ program written inferences. h.run (own_asked m.asked program.queries.items) (next_state program m (Runs start) written inferences) refl refl;
  within = h.within;
  stops = stops_so r1 limit ran ran.stop h.stops;
}

-- what comes next is known already
abbrev pub at_once : Stop → Ran
at_once s = record { taken = 0; stop = s }

pub ball_ends : (m : Machine) (limit : ℕ) (ball : Term) → ComesTo m m (Uncaught ball) limit (at_once (stop.QueryDone (Some ball)))
ball_ends m limit ball = record {
  run = λ program written inferences. ap (λ n. (let st : State = record (next_state program m (Uncaught ball) written inferences) { inferences = n } in st)) (let z : inferences ≡ inferences + 0 = omega arith in z);
  within = omega arith;
  stops = tt;
}

pub over_ends : (m : Machine) (limit : ℕ) (halted : Option ℕ) → ComesTo m m (Over halted) limit (at_once stop.AllDone)
over_ends m limit halted = record {
  run = λ program written inferences. ap (λ n. (let st : State = record (next_state program m (Over halted) written inferences) { inferences = n } in st)) (let z : inferences ≡ inferences + 0 = omega arith in z);
  within = omega arith;
  stops = tt;
}
