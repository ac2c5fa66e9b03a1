-- What the world replies to the goal that is next at the front.
use Rattle.std.proofs.Common.{◌≡◌, ℕ, true, List, [], length, Some, sym, ap, ◌∙◌, subst}
use Rattle.std.specs.Prelude.{is_some}
use Rattle.au_term.specs.Term.{Term}
use Rattle.cell_store.specs.StoreView.{Moment}
use Rattle.run_model.specs.Goals.GoalOutcomes.{outcome_of}
use Rattle.run_model.specs.Goals.Outcomes.{Reply, Solutions, Ball, HaltNumber, Outcome, AskWorld}
use Rattle.run_model.specs.Goals.WorldConstructs.{holds_once}
use Rattle.run_model.specs.Goals.Worlds.{World, world_step}
use Rattle.run_model.specs.Machine.Items.{GoalItem, Continuation}
use Rattle.tree_model.specs.Effects.{spot_stack}
use Rattle.tree_model.specs.Floors.{floor_of}
use Rattle.tree_model.specs.FrontGates.{Taken, Continues, goal_at_front, item_at_front, reply_taken, taken_at_front, world_taken}
use Rattle.tree_model.specs.Gates.{gate_on, goal_gate, item_gate}
use Rattle.tree_model.specs.Legality.{gate_of, taken_at}
use Rattle.tree_model.specs.Levels.{Level, Place, Spot, levels_of}
use Rattle.tree_model.specs.Nodes.{WorldGate}
use Rattle.tree_model.specs.TreeStates.{TreeState}
use Rattle.branch_reading.specs.Readings.{reading}
use Rattle.branch_shapes.specs.FrontReadings.{OnceLeaves}
use Rattle.public_tree.specs.Answering.{AtFront, HaltsAs, is_first_at}
use Rattle.public_tree.specs.PublicTrees.{is_going}
use Rattle.region_split.specs.Regions.{RegionView}
use Rattle.region_split.specs.Solutions.{SolutionView}
use Rattle.region_split.specs.SolutionTrials.{AreSolutionsHere}
use Rattle.run_model.specs.Programs.Jobs.{Job}
use Rattle.region_world.specs.WorldAnswers.{TellsReply}
use Rattle.region_world.specs.declared.asking.WorldAnswer.{WorldAnswer}
use Rattle.region_world.specs.declared.asking.WorldAnswer.TheVariants as answer
use Rattle.tree_core.specs.Histories.{History, state_of}
use Rattle.task_world.specs.FrontSteps.{IsWorldAfter, LeavesRest}
use Rattle.task_world.proofs.EventLemmas.{is_world_after}
use Rattle.branch_shapes.proofs.OutLemmas.{spot_out}
use Rattle.front_goals.specs.RaisedBalls.{RaisesThere}
use Rattle.front_goals.specs.RepliesNext.{AsksNext, IsAskedNext, RepliesNext, SolutionsAreNext, TellsNext, follows_next}

module _ (t : TreeState) (goal : Term) (m : Moment) (s : Spot) (k : AsksNext t.job.clauses goal m s) where
  abbrev levels : List Level
  levels = levels_of s

  abbrev front : Continuation ℕ
  front = k.next.has.front

  abbrev after : Continuation ℕ
  after = follows_next (GoalItem goal k.height) m s k.next

  outcome : outcome_of t.job.clauses goal front.next ≡ AskWorld goal
  outcome = ap (outcome_of t.job.clauses goal) k.next.number ∙ k.asks

  pub gate_is : gate_of t s ≡ Some WorldGate
  unfolding gate_of
  gate_is =
      ap (gate_on t.job.clauses levels) k.next.has.stack
      ∙ ap (λ items. item_gate t.job.clauses levels items front (floor_of levels)) k.next.has.left
      ∙ ap (λ (o : Outcome). goal_gate levels o k.height after (floor_of levels)) outcome

  pub taken_is : taken_at_front t.job.clauses (spot_stack s) t.world ≡ world_taken (world_step t.job.clauses goal m.next t.world) after (floor_of levels)
  taken_is =
      ap (λ es. taken_at_front t.job.clauses es t.world) k.next.has.stack
      ∙ ap (λ items. item_at_front t.job.clauses items front (floor_of levels) t.world) k.next.has.left
      ∙ ap (λ (o : Outcome). goal_at_front t.job.clauses o after (floor_of levels) t.world) outcome
      ∙ ap (λ n. world_taken (world_step t.job.clauses goal n t.world) after (floor_of levels)) k.next.number

  pub replies : (reply : Reply) → reply ≡ (world_step t.job.clauses goal m.next t.world).1 → RepliesNext reply m t s
  replies reply is = record {
    item = GoalItem goal k.height;
    next = k.next;
    gate = gate_is;
    taken = ap (λ (p : World × Taken). p.1) taken_is ∙ ap (λ (x : Reply). reply_taken x after (floor_of levels)) (sym is);
  }

-- what the world answers in a region
module _ (r : RegionView) (t : TreeState) (w : ℕ) (a : Place) (goal : Term) (asked : IsAskedNext goal r.store.now w a t) where
  pub tells_next : (reply : Reply) (told : WorldAnswer) → TellsReply r reply told → reply ≡ (world_step t.job.clauses goal r.store.now.next t.world).1 → TellsNext r told w a t
  tells_next reply told tells is =
      record { reply = reply; tells = tells; next = λ s taken. replies t goal r.store.now s (asked s taken) reply is }

-- the world after the goal is that after the event
pub asked_world : (h : History) (w : ℕ) (a : Place) (goal : Term) (m : Moment) (new : World) → IsAskedNext goal m w a (state_of h)
    → (is_going (state_of h) ≡ true) × (is_first_at a (state_of h) ≡ true) → is_some (taken_at w a (state_of h)) ≡ true
    → new ≡ (world_step (state_of h).job.clauses goal m.next (state_of h).world).0 → IsWorldAfter h w a new
asked_world h w a goal m new asked may out is =
    let o = spot_out (taken_at w a (state_of h)) out in
    let k = asked o.0 o.1 in
    is ∙ sym (ap (λ (p : World × Taken). p.0) (taken_is (state_of h) goal m o.0 k)) ∙ is_world_after h w a o.0 o.1 (gate_is (state_of h) goal m o.0 k) may.0 may.1

-- by what comes
module _ (r : RegionView) (w : ℕ) (a : Place) (t : TreeState) (told : WorldAnswer) (n : TellsNext r told w a t) where
  abbrev as_reply : Reply → Type 0
  as_reply reply = (s : Spot) → taken_at w a t ≡ Some s → RepliesNext reply r.store.now t s

  same_reply : (reply : Reply) → n.reply ≡ reply → as_reply reply
  same_reply reply is s taken = subst (λ x. RepliesNext x r.store.now t s) is (n.next s taken)

  pub goes_on : OnceLeaves → told ≡ answer.Went → LeavesRest w a t
  goes_on once is s taken =
      let k = same_reply holds_once (subst (TellsReply r n.reply) is n.tells) s taken in
      record {
        item = k.item;
        behind = k.next.behind;
        has = k.next.has;
        gate = k.gate;
        leaves = k.taken ∙ once (follows_next k.item r.store.now s k.next) (floor_of (levels_of s));
      }

  pub leaves_nothing : told ≡ answer.Fails → AtFront w a (λ s front. front ≡ Continues []) t
  leaves_nothing is s taken = let k = same_reply (Solutions []) (subst (TellsReply r n.reply) is n.tells) s taken in (k.gate, k.taken)

  pub halts : (status : ℕ) (job : Job) → told ≡ answer.Halted status → HaltsAs status w a (reading job) t
  halts status job is s taken = let k = same_reply (HaltNumber status) (subst (TellsReply r n.reply) is n.tells) s taken in (k.gate, k.taken)

  pub raises : (ball : Term) → told ≡ answer.Raised ball → RaisesThere ball w a t
  raises ball is s taken =
      let k = same_reply (Ball ball) (subst (TellsReply r n.reply) is n.tells) s taken in
      record { item = k.item; behind = k.next.behind; has = k.next.has; gate = k.gate; raises = k.taken }

  module _ (solutions : List SolutionView) (is : told ≡ answer.Solutions solutions) where
    told_so : TellsReply r n.reply (answer.Solutions solutions)
    told_so = subst (TellsReply r n.reply) is n.tells

    pub there : AreSolutionsHere r solutions
    there = told_so.0

    pub solutions_next : SolutionsAreNext r solutions w a t
    solutions_next s taken =
        let k = same_reply (Solutions told_so.1.all) told_so.1.replies s taken in
        record {
          item = k.item;
          next = k.next;
          gate = k.gate;
          taken = k.taken ∙ ap Continues (told_so.1.leave (length (floor_of (levels_of s))) (follows_next k.item r.store.now s k.next));
        }
