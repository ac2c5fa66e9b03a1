-- The tree after an event.
use Rattle.std.specs.Prelude.{ℕ, suc, ◌+◌, Bool, true, false, cond, List, [], ◌∷◌, ◌++◌, Option, Some, None, map, length}
use Rattle.au_term.specs.Term.{Term}
use Rattle.run_model.specs.Machine.Items.{Item, CollectMark}
use Rattle.run_model.specs.Machine.Entries.{Entry, PlainEntry}
use Rattle.run_model.specs.Programs.Jobs.{Query}
use Rattle.run_model.specs.Goals.Worlds.{World}
use Rattle.tree_model.specs.Credits.{Credit, credit_of}
use Rattle.tree_model.specs.Nodes.{Gate, CutGate, BallGate, WorldGate, FrozenGate, ChoiceNode, Hold, Ready, TakenBy, Waiting, Numbered}
use Rattle.tree_model.specs.Nodes.{Status, Pending, Inner, single, entry_alternatives}
use Rattle.tree_model.specs.Levels.{Level, plug, Place, Spot, levels_of}
use Rattle.tree_model.specs.Floors.{floor_of, with_heights, with_nodes, node_of}
use Rattle.tree_model.specs.Gates.{ball_scope}
use Rattle.tree_model.specs.PrivateRuns.{taken_alone}
use Rattle.tree_model.specs.Closing.{Grown, closes}
use Rattle.tree_model.specs.Pruning.{Task, pruned, tasks_pruned, ball_closes}
use Rattle.tree_model.specs.Shapes.{placed}
use Rattle.tree_model.specs.FrontGates.{Taken, Continues, Answered, Raises, Halts, QueryEnds, taken_at_front}
use Rattle.tree_model.specs.Events.{Event, Claim, Nodes, Empty, Collected, Lost, Suspend, Resume, Prune, Answer, Stop}
use Rattle.tree_model.specs.TreeStates.{TreeState, opened_node}
use Rattle.tree_model.specs.Legality.{claimable, resumable, taken_at, gate_of, run_of, is_task}

-- the tree with this status at a place
abbrev pub with_status : Spot → Status → TreeState → TreeState
with_status s status t = record t { root = plug (levels_of s) status }

abbrev pub grown : Grown → TreeState → TreeState
grown g t = record t { root = g.root; next = g.next }

-- so many inferences more on the innermost level
abbrev pub spending : ℕ → List Level → List Level
spending n [] = []
spending n (v ∷ up) = record v { spent = v.spent + n } ∷ up

abbrev pub closed_with : Spot → Credit → TreeState → TreeState
closed_with s c t = grown (closes t.next (levels_of s) c) t

-- the entries of a new node below a place, one inference later; none: the place is closed
abbrev pub left_at : Spot → List Entry → TreeState → TreeState
left_at s [] t = closed_with s (credit_of 1) t
left_at s (e ∷ es) t =
    record t {
      root = plug (spending 1 (levels_of s))
          (Inner (Numbered t.next ChoiceNode (entry_alternatives Ready (map (with_nodes (node_of (levels_of s))) (e ∷ es)))));
      next = suc t.next;
    }

-- a ball falls from a place, and leaves this of the stack
abbrev pub ball_falls : Spot → List Entry → TreeState → TreeState
ball_falls s [] t = t
ball_falls s (e ∷ es) t =
    let scope = ball_scope (levels_of s) (e ∷ es) in
    grown (ball_closes t.next scope (levels_of s) (credit_of 1) (with_nodes (node_of (levels_of s)) e))
    (record t { lost = t.lost ++ tasks_pruned scope (levels_of s) })

-- a cut leaves this entry
abbrev pub cut_at : Spot → ℕ → List Entry → TreeState → TreeState
cut_at s scope [] t = t
cut_at s scope (e ∷ es) t =
    record t {
      root = plug (pruned scope (spending 1 (levels_of s))) (Inner (single t.next (with_nodes (node_of (levels_of s)) e)));
      next = suc t.next;
      lost = t.lost ++ tasks_pruned scope (levels_of s);
    }

abbrev pub or_none : Option (List Entry) → List Entry
or_none None = []
or_none (Some es) = es

abbrev pub gate_pruned : Spot → Option Gate → List Entry → TreeState → TreeState
gate_pruned s (Some (CutGate n)) es t = cut_at s n es t
gate_pruned s (Some (BallGate n)) es t = ball_falls s es t
gate_pruned s (Some WorldGate) es t = t
gate_pruned s (Some FrozenGate) es t = t
gate_pruned s None es t = t

abbrev pub query_opens : Spot → List Query → TreeState → TreeState
query_opens s [] t = closed_with s (credit_of 1) t
query_opens s (q ∷ qs) t = record t
    { root = plug (spending 1 (levels_of s)) (Inner (opened_node t.next q)); next = suc t.next; queries = qs }

-- a halt leaves the alternative as it is, with its inference
abbrev pub front_taken : Spot → Taken → TreeState → TreeState
front_taken s (Continues es) t = left_at s es t
front_taken s Answered t = closed_with s (record { inferences = 1; answers = 1; records = [] }) t
front_taken s (Raises es) t = ball_falls s es t
front_taken s (Halts k) t = record t { root = plug (spending 1 (levels_of s)) (Pending s.hold s.entry); halted = Some k }
front_taken s QueryEnds t = query_opens s t.queries t

-- what is in for an alternative in the sequential machine
abbrev pub spot_stack : Spot → List Entry
spot_stack s = with_heights (levels_of s) s.entry ∷ floor_of (levels_of s)

abbrev pub world_moved : Spot → World × Taken → TreeState → TreeState
world_moved s r t = front_taken s r.1 (record t { world = r.0 })

abbrev pub run_placed : Spot → ℕ → List ℕ → Option (List Entry) → TreeState → TreeState
run_placed s k sizes None t = t
run_placed s k sizes (Some es) t =
    record t { root = plug (spending k (levels_of s)) (placed t.next sizes (levels_of s) es); next = t.next + length sizes }

-- the record of what gives a result
abbrev pub result_of : List (Item ℕ) → List Term
result_of (CollectMark t h ∷ items) = t ∷ []
result_of items = []

abbrev pub results_of : Option (List Entry) → List Term
results_of (Some (PlainEntry f ∷ es)) = result_of f.items
results_of (Some es) = []
results_of None = []

abbrev pub without_task : ℕ → Place → List Task → List Task
without_task w a [] = []
without_task w a (task ∷ tasks) = cond (is_task w a task) tasks (task ∷ without_task w a tasks)

abbrev pub where_some : Option Spot → TreeState → (Spot → TreeState) → TreeState
where_some None t go = t
where_some (Some s) t go = go s

abbrev pub gate_or_frozen : Bool → Option Gate → Hold
gate_or_frozen true g = Waiting FrozenGate
gate_or_frozen false (Some g) = Waiting g
gate_or_frozen false None = Waiting WorldGate

abbrev pub after_allowed : TreeState → Event → TreeState
after_allowed t (Claim w a) = where_some (claimable t) t (λ s. with_status s (Pending (TakenBy w) s.entry) t)
after_allowed t (Resume w a) = where_some (resumable t) t (λ s. with_status s (Pending (TakenBy w) s.entry) t)
after_allowed t (Nodes w a k sizes) = where_some (taken_at w a t) t (λ s. run_placed s k sizes (run_of t s k) t)
after_allowed t (Empty w a k) = where_some (taken_at w a t) t (λ s. closed_with s (credit_of k) t)
after_allowed t (Collected w a k) = where_some (taken_at w a t) t
    (λ s. closed_with s (record { inferences = k; answers = 0; records = results_of (run_of t s k) }) t)
after_allowed t (Lost w a) = record t { lost = without_task w a t.lost }
after_allowed t (Suspend w a frozen) = where_some (taken_at w a t) t
    (λ s. with_status s (Pending (gate_or_frozen frozen (gate_of t s)) s.entry) t)
after_allowed t (Prune w a) = where_some (taken_at w a t) t
    (λ s. gate_pruned s (gate_of t s) (or_none (taken_alone t.job.clauses (spot_stack s))) t)
after_allowed t (Answer w a frozen) = where_some (taken_at w a t) t
    (λ s. world_moved s (taken_at_front t.job.clauses (spot_stack s) t.world) t)
after_allowed t (Stop w) = record t { stopped = true }

-- each event is noted
unfoldable pub after_event : TreeState → Event → TreeState
after_event t e = let new = after_allowed t e in record new { history = t.history ++ e ∷ [] }
