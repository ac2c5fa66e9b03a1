-- Where a ball lands that goes up from a level.
use Rattle.std.proofs.Common.{◌≡◌, ℕ, suc, ◌-◌, ◌==◌, Bool, true, false, cond, List, [], ◌∷◌, map, length, Option, Some, None, refl, sym, subst, arith}
use Rattle.au_term.specs.Term.{Term}
use Rattle.au_term.proofs.LogicLemmas.{not_equal}
use Rattle.run_model.specs.Programs.Jobs.{Job}
use Rattle.run_model.specs.Machine.Balls.{is_height, unwound}
use Rattle.tree_model.specs.Floors.{floor_of, height_of, right_entry, with_heights}
use Rattle.tree_model.specs.Levels.{Level, Place, level_node, plug, place_at}
use Rattle.tree_model.specs.Nodes.{Status, Inner}
use Rattle.tree_model.specs.PendingLists.{way_of}
use Rattle.tree_model.specs.NumberedTrees.{IsNumberedStatus}
use Rattle.tree_model.specs.SoundTrees.{IsSound}
use Rattle.tree_model.specs.Ways.{is_on}
use Rattle.tree_nodes.specs.TreeTables.{NodesView, IsTableOf}
use Rattle.tree_closing.specs.Sleeping.{right_of}
use Rattle.branch_shapes.proofs.FloorItemLemmas.{has_height}
use Rattle.branch_reading.specs.NumberedReadings.{NumberedTreesAreSettled}
use Rattle.branch_reading.specs.Readings.{reading}
use Rattle.interleaving.proofs.EntryLemmas.{length-floor}
use Rattle.task_region.specs.PlacesUp.{body_at, items_at_place}
use Rattle.task_stops.specs.BranchLandings.{height_of_mark, IsMarkOver, LeavesAt, BallsLandByNodes}
use Rattle.task_stops.specs.Landings.{innermost_catch, at_node, is_beside_sleeper, landing, way_beside}
use Rattle.task_stops.proofs.LandingLemmas.{lifted, none_takes, nothing_lands, passes, sleeper_lands}

lands : NumberedTreesAreSettled → (job : Job) (nodes : NodesView) (levels : List Level) (status : Status) (ball : Term) (mark : Option ℕ) → IsTableOf nodes (reading job) (plug levels status)
    → IsSound [] (plug levels status) → IsNumberedStatus (plug levels status) → IsMarkOver levels mark
    → LeavesAt job nodes.rows ball levels (landing nodes.rows ball mark (map place_at levels)) (unwound ball (height_of_mark levels mark) (floor_of levels))
lands settled job nodes [] status ball mark table sound numbered on = refl
lands settled job nodes (v ∷ up) status ball None table sound numbered on = none_takes ball None (floor_of (v ∷ up)) tt
lands settled job nodes (v ∷ up) status ball (Some s) table sound numbered on =
    by_node (v.number == s) refl on (λ k h. lands settled job nodes up (Inner (level_node v status)) ball k table sound numbered h)
  where
    Rest : Type 0
    Rest = (k : Option ℕ) → IsMarkOver up k → LeavesAt job nodes.rows ball up (landing nodes.rows ball k (map place_at up)) (unwound ball (height_of_mark up k) (floor_of up))

    here_lands : Bool → List Place
    here_lands asleep =
        cond asleep
        (at_node (body_at nodes.rows (place_at v)).kind (way_beside nodes.rows (place_at v) (map place_at up)) ball (place_at v ∷ map place_at up)
        (landing nodes.rows ball (innermost_catch (items_at_place nodes.rows (right_of (place_at v)))) (map place_at up)))
        []

    Goal : Bool → Type 0
    Goal t = LeavesAt job nodes.rows ball (v ∷ up)
        (cond t (here_lands (is_beside_sleeper nodes.rows (place_at v))) (landing nodes.rows ball (Some s) (map place_at up)))
        (unwound ball (Some (cond t (suc (length up)) (height_of up s) - 1)) (floor_of (v ∷ up)))

    by_sleeper : (asleep : Bool) → is_beside_sleeper nodes.rows (place_at v) ≡ asleep → Rest
        → LeavesAt job nodes.rows ball (v ∷ up) (here_lands asleep) (unwound ball (Some (suc (length up) - 1)) (floor_of (v ∷ up)))
    by_sleeper false e rest = nothing_lands settled job nodes ball v up status table sound numbered (suc (length up) - 1) (omega arith) e
    by_sleeper true e rest = sleeper_lands settled job nodes ball v up status table sound numbered e (suc (length up) - 1) (omega arith) rest

    by_node : (t : Bool) → (v.number == s) ≡ t → cond t true (is_on (way_of up) s) ≡ true → Rest → Goal t
    by_node true e k rest = by_sleeper (is_beside_sleeper nodes.rows (place_at v)) refl rest
    by_node false e k rest =
        let h = has_height up s k in
        let low = h.low in
        let some = h.some in
        let n = length-floor up in
        let other : is_height (Some (height_of up s - 1)) (length (floor_of up)) ≡ false = not_equal (height_of up s - 1) (length (floor_of up)) (omega (arith, low, some, n)) in
        subst (LeavesAt job nodes.rows ball (v ∷ up) (landing nodes.rows ball (Some s) (map place_at up)))
        (sym (passes ball (Some (height_of up s - 1)) (with_heights up (right_entry v.right)) (floor_of up) other))
        (lifted job nodes.rows ball v up (landing nodes.rows ball (Some s) (map place_at up)) (unwound ball (Some (height_of up s - 1)) (floor_of up)) (rest (Some s) k))

pub balls_land : NumberedTreesAreSettled → BallsLandByNodes
balls_land settled job nodes levels status ball mark table sound numbered on = lands settled job nodes levels status ball mark table sound numbered on
