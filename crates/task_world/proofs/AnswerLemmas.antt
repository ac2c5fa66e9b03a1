-- An answer at the front.
use Rattle.std.proofs.Common.{◌≡◌, ℕ, true, List, Some, sym, ap, ◌∙◌}
use Rattle.std.specs.Prelude.{is_some}
use Rattle.au_model.specs.Terms.Named.{NamedTerm}
use Rattle.au_model.specs.Writing.Lines.{answer_line}
use Rattle.branch_shapes.proofs.OutLemmas.{spot_out as spot}
use Rattle.run_model.specs.Goals.Worlds.{World, writes}
use Rattle.tree_model.specs.Effects.{spot_stack}
use Rattle.tree_model.specs.EventViews.{place_view}
use Rattle.tree_model.specs.Floors.{floor_of}
use Rattle.tree_model.specs.FrontGates.{Taken, Answered, item_at_front, taken_at_front}
use Rattle.tree_model.specs.Gates.{gate_on, item_gate}
use Rattle.tree_model.specs.Legality.{gate_of, taken_at}
use Rattle.tree_model.specs.Levels.{Level, Place, Spot, levels_of}
use Rattle.tree_model.specs.Nodes.{WorldGate}
use Rattle.tree_model.specs.TreeStates.{TreeState}
use Rattle.tree_core.specs.Histories.{History, state_of}
use Rattle.public_tree.specs.PublicTrees.{is_going}
use Rattle.task_world.specs.FrontSteps.{IsWorldAfter}
use Rattle.task_world.proofs.EventLemmas.{is_world_after}
use Rattle.tree_nodes.specs.Rows.{credit_view}
use Rattle.tree_nodes.specs.TreeTables.{NodesView}
use Rattle.tree_closing.specs.Closings.{ComesToRest}
use Rattle.tree_closing.specs.declared.way_up.Closing.{Closing}
use Rattle.public_tree.specs.Answering.{AtFront, ClosesAs, answer_credit, front_credit, is_first_at}
use Rattle.task_world.specs.FrontItems.{AnswersNext, IsAnswerNext}

module _ (t : TreeState) (named : List NamedTerm) (s : Spot) (k : AnswersNext named s) where
  abbrev levels : List Level
  levels = levels_of s

  pub gate_is : gate_of t s ≡ Some WorldGate
  unfolding gate_of
  gate_is =
      ap (gate_on t.job.clauses levels) k.has.stack
      ∙ ap (λ items. item_gate t.job.clauses levels items k.has.front (floor_of levels)) k.has.left

  pub taken_is : taken_at_front t.job.clauses (spot_stack s) t.world ≡ (writes (answer_line t.world.operators named) t.world, Answered)
  taken_is =
      ap (λ es. taken_at_front t.job.clauses es t.world) k.has.stack
      ∙ ap (λ items. item_at_front t.job.clauses items k.has.front (floor_of levels) t.world) k.has.left
      ∙ ap (λ (vs : List NamedTerm). (let p : World × Taken = (writes (answer_line t.world.operators vs) t.world, Answered) in p)) k.named_are

  -- in a world that is the tree's
  written : (old new : World) → old ≡ t.world → new ≡ writes (answer_line old.operators named) old
      → new ≡ (taken_at_front t.job.clauses (spot_stack s) t.world).0
  written old new same e =
      e ∙ ap (λ (x : World). writes (answer_line x.operators named) x) same ∙ ap (λ (x : World × Taken). x.0) (sym taken_is)

pub answer_closes : (nodes : NodesView) (t : TreeState) (named : List NamedTerm) (w : ℕ) (a : Place) (closing : Closing)
    → ComesToRest nodes a answer_credit (place_view closing.end) (credit_view closing.credit) closing.beside → IsAnswerNext named w a t
    → AtFront w a (λ s front. ClosesAs nodes a closing (front_credit front t.queries)) t
answer_closes nodes t named w a closing rests next s taken =
    let k = next s taken in (
      gate_is t named s k,
      record { credit = answer_credit; closes = ap (λ (x : World × Taken). front_credit x.1 t.queries) (taken_is t named s k); rests = rests },
    )

-- the world with its line is the one after the event
pub answered_world : (h : History) (named : List NamedTerm) (w : ℕ) (a : Place) (old new : World) → old ≡ (state_of h).world → IsAnswerNext named w a (state_of h)
    → (is_going (state_of h) ≡ true) × (is_first_at a (state_of h) ≡ true) → is_some (taken_at w a (state_of h)) ≡ true
    → new ≡ writes (answer_line old.operators named) old → IsWorldAfter h w a new
answered_world h named w a old new same next may out line =
    let o = spot (taken_at w a (state_of h)) out in
    let k = next o.0 o.1 in
    written (state_of h) named o.0 k old new same line ∙ is_world_after h w a o.0 o.1 (gate_is (state_of h) named o.0 k) may.0 may.1
