-- What may close at the front does.
use Rattle.std.proofs.Common.{◌≡◌, ℕ, Bool, true, [], cond, Option, Some, sym, ap, ◌∙◌, subst}
use Rattle.std.specs.Prelude.{is_some}
use Rattle.branch_reading.specs.Readings.{reading}
use Rattle.branch_shapes.proofs.OutLemmas.{IsOutAt, out_at, spot_out}
use Rattle.public_tree.specs.Answering.{EndsAs}
use Rattle.task_stops.specs.WakingPlaces.{WakingClosingsAreNoCatch}
use Rattle.task_stops.specs.WokenBodies.{IsGivenFor}
use Rattle.task_world.proofs.EventLemmas.{legal}
use Rattle.task_world.specs.FrontSteps.{MayClose, front_event}
use Rattle.tree_closing.specs.declared.way_up.Closing.{Closing}
use Rattle.tree_core.specs.Histories.{History, TreeView, NodesStand, state_of, with_event}
use Rattle.tree_core.specs.Turns.{where_legal}
use Rattle.tree_model.specs.EventViews.{place_view}
use Rattle.tree_model.specs.LegalTrees.{IsLegalTree}
use Rattle.tree_model.specs.Legality.{taken_at}
use Rattle.tree_model.specs.Levels.{Place, Spot}
use Rattle.tree_model.specs.Nodes.{Pending}
use Rattle.tree_model.specs.SoundTrees.{IsSound}
use Rattle.tree_model.specs.TreeStates.{TreeState}
use Rattle.tree_nodes.specs.Bodies.{Body}
use Rattle.tree_nodes.specs.Rows.{credit_view}
use Rattle.task_stops.proofs.CloseLemmas.{sleeps_there}

module _ (v : TreeView) (w : ℕ) (a : Place) (closing : Closing) (out : is_some (taken_at w a (state_of v.history)) ≡ true) (may : MayClose v w a closing) where
  abbrev t : TreeState
  t = state_of v.history

  abbrev s : Spot
  s = (spot_out (taken_at w a t) out).0

  abbrev taken : taken_at w a t ≡ Some s
  taken = (spot_out (taken_at w a t) out).1

  pub closes_as : NodesStand v → IsLegalTree t → WakingClosingsAreNoCatch → (body : Option Body) → IsGivenFor v.nodes closing body
      → EndsAs v.nodes closing body w a (reading v.history.job) t
  closes_as stand lawful law body given =
      let there : IsOutAt v.history.job v.nodes t w a s = out_at v.history.job v.nodes t w a s stand.placed taken in
      let rests = (may.rests s taken).1 in
      record {
        rests = may.rests;
        given =
            given.reads v.history.job t.root stand.placed lawful.sound.sound lawful.numbered
            (λ waking.
            law v.nodes (reading v.history.job) s.level s.above (Pending s.hold s.entry) a (place_view closing.end) rests.credit (credit_view closing.credit)
            closing.beside there.at there.table (subst (IsSound []) (sym there.in_tree) lawful.sound.sound) rests.rests waking
            (sleeps_there closing.beside v.nodes.rows (place_view closing.end) may.sleeper waking));
      }

  pub closed : (new : History) → new ≡ where_legal (front_event w a) v.history → new ≡ with_event (front_event w a) v.history
  closed new noted =
      noted
      ∙ ap (λ (b : Bool). cond b (with_event (front_event w a) v.history) v.history)
      (legal v.history w a s taken (may.rests s taken).0 may.may.0 may.may.1)
