-- A halt beside speculation: what a halting goal leaves at the leftmost pending alternative is put there by hand, and
-- what follows is computed.
use Rattle.std.specs.Prelude.{◌≡◌, ℕ, Bool, true, false, List, [], ◌∷◌, Some, codes, refl}
use Rattle.au_term.specs.Term.{AtomTerm, Compound, end, more}
use Rattle.run_model.specs.declared.ending.RunEnding.TheVariants.{Halted}
use Rattle.run_model.specs.Goals.Outcomes.{HaltNumber, Replies}
use Rattle.run_model.specs.Goals.Worlds.{first_world}
use Rattle.run_model.specs.Machine.Items.{Continuation}
use Rattle.run_model.specs.Programs.Jobs.{Job}
use Rattle.run_model.specs.Goals.GoalOutcomes.{outcome_of}
use Rattle.au_model.specs.Terms.Unifier.{unifier}
use lib.Utf8.{encode}
use Rattle.std.specs.Fmt.{digits}
use Rattle.tree_model.specs.PrivateRuns.{private_run}
use Rattle.tree_model.specs.FrontGates.{Halts, goal_at_front}
use Rattle.tree_model.specs.Events.{Event, Claim, Nodes, Empty, Lost, Suspend, Answer, Stop}
use Rattle.tree_model.specs.TreeStates.{TreeState, leftmost}
use Rattle.tree_model.specs.Legality.{is_legal, gate_of, run_of}
use Rattle.tree_model.specs.Effects.{where_some, front_taken, after_event}
use Rattle.tree_model.specs.Histories.{tree_after}
use Rattle.tree_model.proofs.WorkedJobs.{query, job, at_place, Replayed, shown_of, legal_here}

-- ?- h ; true.
abbrev halt_job : Job
halt_job = job [] (query (Compound (codes ";") (more (AtomTerm (codes "h")) (more (AtomTerm (codes "true")) end))) [] ∷ [])

-- both alternatives are out
abbrev halt_events : List Event
halt_events =
    Claim 0 (at_place 0 0) ∷ Nodes 0 (at_place 0 0) 1 (2 ∷ []) ∷ Claim 0 (at_place 1 0) ∷ Claim 1 (at_place 1 1) ∷ []

-- the tree where the goal of the leftmost pending alternative halts by 3
abbrev after_halt : TreeState → TreeState
after_halt t = where_some (leftmost t) t (λ s. front_taken s (Halts 3) t)

unfoldable halted : List Event → Replayed × List Bool
unfolding after_event is_legal gate_of run_of private_run outcome_of unifier encode digits
halted tried = let t = after_halt (tree_after halt_job 10 10000 halt_events) in (shown_of true t, legal_here t tried)

-- It has ended, with the inferences to its left and its own; nothing is legal there, not even what is speculative.
halts_beside_speculation : halted
    (Empty 1 (at_place 1 1) 1 ∷ Suspend 1 (at_place 1 1) false ∷ Lost 1 (at_place 1 1) ∷ Answer 0 (at_place 1 0) false ∷ Stop 0 ∷ [])
    ≡ (record { legal = true; text = []; end = Some (Halted 3); answers = 0; inferences = 2 }, false ∷ false ∷ false ∷ false ∷ false ∷ [])
unfolding halted
halts_beside_speculation = refl

-- what the table would say of such a goal at the front
goal_halts : (f : Continuation ℕ) → goal_at_front [] (Replies (HaltNumber 3)) f [] (first_world halt_job) ≡ (first_world halt_job, Halts 3)
goal_halts f = refl
