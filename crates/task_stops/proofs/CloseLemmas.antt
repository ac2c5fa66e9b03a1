-- What is out closes as its end tells.
use Rattle.std.proofs.Common.{◌≡◌, ℕ, true, [], Option, Some, sym, subst}
use Rattle.std.specs.Prelude.{IsSome, is_some}
use Rattle.au_term.specs.Term.{Term}
use Rattle.run_model.specs.Programs.Jobs.{Job}
use Rattle.tree_model.specs.EventViews.{place_view}
use Rattle.tree_model.specs.Credits.{Credit}
use Rattle.tree_model.specs.LegalTrees.{IsLegalTree}
use Rattle.tree_model.specs.Legality.{run_of, taken_at}
use Rattle.tree_model.specs.Levels.{Place, Spot}
use Rattle.tree_model.specs.Nodes.{Pending}
use Rattle.tree_model.specs.SoundTrees.{IsSound}
use Rattle.tree_model.specs.TreeStates.{TreeState}
use Rattle.tree_nodes.specs.Bodies.{Body}
use Rattle.tree_nodes.specs.Rows.{Rows, cell_at, credit_view}
use Rattle.tree_nodes.specs.TreeTables.{NodesView, IsTableOf}
use Rattle.tree_closing.specs.Closings.{ComesToRest, HasSleeper, is_waking}
use Rattle.tree_closing.specs.Sleeping.{IsBesideSleeper}
use Rattle.tree_closing.specs.declared.way_up.Beside.{Beside}
use Rattle.tree_closing.specs.declared.way_up.Beside.TheVariants.{Same, Closes, Gathers, Ends}
use Rattle.tree_closing.specs.declared.way_up.Closing.{Closing}
use Rattle.branch_reading.specs.Readings.{reading}
use Rattle.public_tree.specs.PublicClosing.{end_credit, record_credit, ReadsAs, RunEndsAs}
use Rattle.public_tree.specs.declared.closing.TaskEnd.{TaskEnd}
use Rattle.task_stops.specs.WakingPlaces.{WakingClosingsAreNoCatch}
use Rattle.task_stops.specs.WokenBodies.{IsGivenFor}
use Rattle.branch_shapes.proofs.OutLemmas.{IsOutAt, out_at, spot_out}
use Rattle.task_stops.specs.TaskEnds.{EndsOut}

pub sleeps_there : (beside : Beside) (rows : Rows) (b : Place) → HasSleeper beside rows b → is_waking beside ≡ true → IsBesideSleeper rows b
sleeps_there Same rows b h e = absurd (cc e)
sleeps_there Closes rows b h e = h
sleeps_there Gathers rows b h e = h
sleeps_there Ends rows b h e = h

module _ (job : Job) (nodes : NodesView) (t : TreeState) (w : ℕ) (a : Place) (placed : IsTableOf nodes (reading job) t.root) (legal : IsLegalTree t)
    (out : is_some (taken_at w a t) ≡ true) where
  abbrev s : Spot
  s = (spot_out (taken_at w a t) out).0

  there : IsOutAt job nodes t w a s
  there = out_at job nodes t w a s placed (spot_out (taken_at w a t) out).1

  pub cell_out : IsSome (cell_at nodes.rows a)
  cell_out = there.cell_there

  -- what wakes reads as the body that is given for it
  pub given_out : (c : Credit) (closing : Closing) → ComesToRest nodes a c (place_view closing.end) (credit_view closing.credit) closing.beside
      → HasSleeper closing.beside nodes.rows (place_view closing.end) → WakingClosingsAreNoCatch → (body : Option Body) → IsGivenFor nodes closing body
      → ReadsAs (reading job) nodes.rows (place_view closing.end) (credit_view closing.credit).records (is_waking closing.beside) body
  given_out c closing rests sleeper law body given =
      given.reads job t.root placed legal.sound.sound legal.numbered
      (λ waking.
      law nodes (reading job) s.level s.above (Pending s.hold s.entry) a (place_view closing.end) c (credit_view closing.credit) closing.beside there.at
      there.table (subst (IsSound []) (sym there.in_tree) legal.sound.sound) rests waking
      (sleeps_there closing.beside nodes.rows (place_view closing.end) sleeper waking))

  module _ (k : ℕ) (e : TaskEnd) (collected : Option Term) (closing : Closing) (ends : EndsOut e collected w a k t)
      (rests : ComesToRest nodes a (record_credit k collected) (place_view closing.end) (credit_view closing.credit) closing.beside) where
    rests_out : (o : Spot) → taken_at w a t ≡ Some o
        → ComesToRest nodes a (end_credit e k (run_of t o k)) (place_view closing.end) (credit_view closing.credit) closing.beside
    rests_out o taken =
        subst (λ (c : Credit). ComesToRest nodes a c (place_view closing.end) (credit_view closing.credit) closing.beside) (sym (ends o taken).credit) rests

    pub ends_as : HasSleeper closing.beside nodes.rows (place_view closing.end) → WakingClosingsAreNoCatch → (body : Option Body) → IsGivenFor nodes closing body
        → RunEndsAs nodes e closing body w a k (reading job) t
    ends_as sleeper law body given = record {
      ends = λ o taken. (ends o taken).ends;
      rests = rests_out;
      given = given_out (record_credit k collected) closing rests sleeper law body given;
    }
