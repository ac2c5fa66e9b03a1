-- The tree that the workers of a job share.
use Rattle.std.specs.Prelude.{ℕ, Bool, false, cond, List, [], ◌∷◌, Option, Some, None, nat_le}
use Rattle.run_model.specs.declared.ending.RunEnding.{RunEnding}
use Rattle.run_model.specs.declared.ending.RunEnding.TheVariants.{Finished, Halted, Budget}
use Rattle.run_model.specs.Machine.Items.{goals_at}
use Rattle.run_model.specs.Machine.Entries.{PlainEntry, EndEntry}
use Rattle.run_model.specs.Programs.Jobs.{Query, Job, own_terms, query_bound}
use Rattle.run_model.specs.Goals.Worlds.{first_world}
use Rattle.run_model.specs.Goals.Worlds.{World}
use Rattle.tree_model.specs.Credits.{no_credit}
use Rattle.tree_model.specs.Nodes.{QueryNode, Ready, Dormant, Node, Numbered, none, alternative, Status, Pending, Inner, Closed}
use Rattle.tree_model.specs.Nodes.{credits_below, nodes_below}
use Rattle.tree_model.specs.Levels.{Spot, levels_of, pending_of}
use Rattle.tree_model.specs.Orders.{clock_of, answers_left}
use Rattle.tree_model.specs.Pruning.{Task}
use Rattle.tree_model.specs.Events.{Event}

pub record TreeState : Type 0 where
  pub job : Job
  pub budget : ℕ
  -- where so many nodes are live, only the leftmost pending alternative is handed out
  pub window : ℕ
  pub world : World
  -- the queries that haven't been opened
  pub queries : List Query
  -- the first query's node; a credit alone where the job has no query
  pub root : Status
  -- the number of the next node: none is used again
  pub next : ℕ
  -- the tasks that are out and have been pruned
  pub lost : List Task
  pub halted : Option ℕ
  pub stopped : Bool
  -- the events so far, in their order
  pub history : List Event

-- a query's node: its goals, and its end
abbrev pub opened_node : ℕ → Query → Node
opened_node n q =
    Numbered n QueryNode (alternative 0
    (Pending Ready (PlainEntry (record { items = goals_at n q.goals; named = own_terms q.names; next = query_bound q })))
    (alternative 0 (Pending Dormant (EndEntry None)) none))

abbrev pub opening_root : List Query → Status
opening_root [] = Closed no_credit
opening_root (q ∷ qs) = Inner (opened_node 0 q)

abbrev pub queries_after : List Query → List Query
queries_after [] = []
queries_after (q ∷ qs) = qs

abbrev pub opening_tree : Job → ℕ → ℕ → TreeState
opening_tree job budget window =
    record {
      job = job;
      budget = budget;
      window = window;
      world = first_world job;
      queries = queries_after job.queries;
      root = opening_root job.queries;
      next = nodes_below (opening_root job.queries);
      lost = [];
      halted = None;
      stopped = false;
      history = [];
    }

abbrev pub pending_spots : TreeState → List Spot
pending_spots t = pending_of t.root

abbrev pub first_spot : List Spot → Option Spot
first_spot [] = None
first_spot (s ∷ ss) = Some s

abbrev pub leftmost : TreeState → Option Spot
leftmost t = first_spot (pending_spots t)

abbrev pub live : TreeState → ℕ
live t = nodes_below t.root

abbrev pub end_by : Option ℕ → Option Spot → ℕ → Option RunEnding
end_by (Some k) first budget = Some (Halted k)
end_by None None budget = Some Finished
end_by None (Some s) budget = cond (nat_le budget (clock_of (levels_of s))) (Some Budget) None

-- how the tree has ended, if it has
abbrev pub ended : TreeState → Option RunEnding
ended t = end_by t.halted (leftmost t) t.budget

abbrev pub counts_by : Option Spot → Status → ℕ × ℕ
counts_by None root = ((credits_below root).answers, (credits_below root).inferences)
counts_by (Some s) root = (answers_left (levels_of s), clock_of (levels_of s))

-- answers and inferences: all to the left of the leftmost pending alternative, and what was spent on its path
abbrev pub counts : TreeState → ℕ × ℕ
counts t = counts_by (leftmost t) t.root
