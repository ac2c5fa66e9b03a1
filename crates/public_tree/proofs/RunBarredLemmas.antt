-- Whether a run may be taken at once, by the clock of the leftmost entry.
use Rattle.std.proofs.Common.{◌≡◌, ℕ, ◌+◌, ◌<◌, ◌≤◌, Bool, true, false, cond, Option, Some, None, refl, sym, ap, ◌∙◌, subst, arith}
use Rattle.std.specs.Option.{option_map}
use Rattle.std.specs.Prelude.{nat_lt}
use Rattle.tree_model.specs.Legality.{is_spot_at}
use Rattle.tree_model.specs.Levels.{Place, Spot, same_place, levels_of, place_of_spot, pending_of}
use Rattle.tree_model.specs.Nodes.{Pending}
use Rattle.tree_model.specs.Orders.{clock_of}
use Rattle.tree_model.specs.TreeStates.{TreeState, first_spot, leftmost}
use Rattle.tree_nodes.specs.Bodies.{Reading}
use Rattle.tree_nodes.specs.TreeTables.{IsTableOf}
use Rattle.branch_order.specs.Clocks.{HasClock}
use Rattle.interleaving.proofs.UnchangedPlaceLemmas.{same_place-is}
use Rattle.public_tree.specs.declared.answering_at_once.RunAnswering.{RunAnswering}
use Rattle.public_tree.specs.declared.answering_at_once.RunAnswering.TheVariants as answering
use Rattle.public_tree.specs.AnsweringAtOnce.{lasts_at, lasts, run_answering}
use Rattle.public_tree.specs.Answering.{is_first_at}
use Rattle.public_tree.specs.PublicTrees.{PublicView, IsPublicOf, Answers, IsLeftmostAt, is_going}
use Rattle.public_tree.proofs.HandOutLemmas.{IsFirstSpot, first_spot_at}

placed_at : (a : Place) (o : Option Spot) → is_spot_at a o ≡ true → option_map place_of_spot o ≡ Some a
placed_at a None e = absurd (cc e)
placed_at a (Some s) e = ap Some (sym (same_place-is a (place_of_spot s) e))

module _ (p : PublicView) (a : Place) (k clock : ℕ) (going : Answers p is_going true) (first : IsLeftmostAt p.nodes a true) (told : HasClock p.nodes a clock)
    (read : Reading) (t : TreeState) (h : IsPublicOf p read t) where
  first_here : true ≡ is_first_at a t
  first_here = first read t.root h.placed h.sound.sound

  spot : IsFirstSpot t.root a
  spot = first_spot_at t.root a h.sound.sound (placed_at a (first_spot (pending_of t.root)) (sym first_here))

  clock_is : clock ≡ clock_of (levels_of spot.spot)
  clock_is = told read spot.spot.level spot.spot.above (Pending spot.spot.hold spot.spot.entry) spot.at (subst (IsTableOf p.nodes read) spot.plugged h.placed) spot.clear

  lasts_is : lasts k t ≡ nat_lt (clock + k) p.budget
  lasts_is =
      ap (lasts_at k t.budget) spot.is
      ∙ (ap (λ (c : ℕ). nat_lt (c + k) t.budget) (sym clock_is) ∙ ap (nat_lt (clock + k)) (sym h.budget))

  answer_is : (b : Bool) → nat_lt (clock + k) p.budget ≡ b → cond b answering.Taken answering.OverBudget ≡ run_answering a k t
  answer_is b e =
      ap (λ (x : Bool). cond x answering.Taken answering.OverBudget) (sym e ∙ sym lasts_is)
      ∙ (ap (λ (x : Bool). cond x (cond (lasts k t) answering.Taken answering.OverBudget) answering.NotLeftmost) first_here
      ∙ ap (λ (x : Bool). cond x (cond (is_first_at a t) (cond (lasts k t) answering.Taken answering.OverBudget) answering.NotLeftmost) answering.HasEnded)
      (going read t h))

  pub run_free : clock + k < p.budget → answering.Taken ≡ run_answering a k t
  run_free l = let b : nat_lt (clock + k) p.budget ≡ true = grind (arith, l) in answer_is true b

  pub run_over : p.budget ≤ clock + k → answering.OverBudget ≡ run_answering a k t
  run_over l = let b : nat_lt (clock + k) p.budget ≡ false = grind (arith, l) in answer_is false b
