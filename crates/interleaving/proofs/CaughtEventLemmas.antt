-- Each event keeps the marks, records and queries of a tree.
use Rattle.std.proofs.Common.{◌≡◌, inr, ℕ, suc, ◌+◌, ◌==◌, Bool, true, false, cond, List, [], ◌∷◌, ◌++◌, map, Option, Some, None, refl}
use Rattle.std.proofs.Common.{sym, subst}
use Rattle.au_term.specs.Term.{Term}
use Rattle.au_model.specs.Terms.Each.{Each}
use Rattle.au_model.specs.Terms.Substitutions.{Substitution}
use Rattle.au_model.specs.Terms.Unifier.{unifier}
use Rattle.run_model.specs.Goals.Outcomes.{Solution}
use Rattle.run_model.specs.Machine.Items.{Item, GoalItem, CatchMark, CollectMark, RemovalItem, Continuation, goals_at, before, with_next}
use Rattle.run_model.specs.Machine.Items.{removal_items, removing, without_marks}
use Rattle.run_model.specs.Machine.Entries.{Entry, unified, solution_entry, solution_entries}
use Rattle.tree_model.specs.Nodes.{ChoiceNode, Ready, entry_alternatives}
use Rattle.tree_model.specs.Levels.{Level}
use Rattle.tree_model.specs.Floors.{with_nodes}
use Rattle.tree_model.specs.Orders.{levels_below}
use Rattle.tree_model.specs.TreeStates.{TreeState}
use Rattle.tree_model.specs.CaughtTrees.{catch_right, with_catch, MarksCaught, EntryCaught, AreCaught, IsNoEnd, HaveNoQuery}
use Rattle.tree_model.specs.CaughtTrees.{AreNoQueryNodes, AreLast, AreUnspent, IsCaughtTree}
use Rattle.interleaving.proofs.RoundtripLemmas.{by_nodes}
use Rattle.interleaving.proofs.AppendLemmas.{each-append}
use Rattle.interleaving.proofs.ClockLemmas.{AreClear}
use Rattle.interleaving.proofs.CaughtContextLemmas.{IsCaughtRoot}
use Rattle.interleaving.proofs.CaughtBallLemmas.{marks_resolved}

pub as_tree : (t : TreeState) → IsCaughtRoot t.root → IsCaughtTree t
as_tree t h = record { caught = h.caught; last = h.last; unspent = λ z. h.unspent }

-- what was spent doesn't matter where a branch is clear
pub clear_spent : (n k : ℕ) (v : Level) (up : List Level) → AreClear (levels_below (Some n) (v ∷ up))
    → AreClear (levels_below (Some n) (record v { spent = k } ∷ up))
clear_spent n k v up h = go (n == v.number) h
  where
    go : (b : Bool) → AreClear (cond b [] (v ∷ levels_below (Some n) up))
        → AreClear (cond b [] (record v { spent = k } ∷ levels_below (Some n) up))
    go true z = tt
    go false z = z

-- marks of goals, and of solutions
marks_goals : (sleeps : ℕ → Bool) (node : ℕ → ℕ) (h : ℕ) (gs : List Term) (items : List (Item ℕ))
    → MarksCaught sleeps (by_nodes node items) → MarksCaught sleeps (by_nodes node (goals_at h gs ++ items))
marks_goals sleeps node h [] items k = k
marks_goals sleeps node h (g ∷ gs) items k = marks_goals sleeps node h gs items k

pub marks_opened : (sleeps : ℕ → Bool) (n : ℕ) (gs : List Term) → MarksCaught sleeps (goals_at n gs)
marks_opened sleeps n [] = tt
marks_opened sleeps n (g ∷ gs) = marks_opened sleeps n gs

pub marks_without : (sleeps : ℕ → Bool) (items : List (Item ℕ)) → MarksCaught sleeps items → MarksCaught sleeps (without_marks items)
marks_without sleeps [] h = tt
marks_without sleeps (CatchMark s ∷ items) h = marks_without sleeps items h.1
marks_without sleeps (GoalItem t s ∷ items) h = h
marks_without sleeps (CollectMark t s ∷ items) h = h
marks_without sleeps (RemovalItem n ∷ items) h = h

-- entries by node numbers, of a new node
abbrev pub NewCaught : (ℕ → Bool) → ℕ → Entry → Type 0
NewCaught sleeps next e = EntryCaught (with_catch next false sleeps) e × IsNoEnd e

abbrev pub OverCaught : (ℕ → Bool) → ℕ → (ℕ → ℕ) → Entry → Type 0
OverCaught sleeps next node e = NewCaught sleeps next (with_nodes node e)

pub each_named : (sleeps : ℕ → Bool) (next : ℕ) (node : ℕ → ℕ) (es : List Entry) → Each (OverCaught sleeps next node) es
    → Each (NewCaught sleeps next) (map (with_nodes node) es)
each_named sleeps next node [] h = tt
each_named sleeps next node (e ∷ es) h = (h.0, each_named sleeps next node es h.1)

unified_caught : (sleeps : ℕ → Bool) (next : ℕ) (node : ℕ → ℕ) (o : Option Substitution) (f : Continuation ℕ)
    → MarksCaught (with_catch next false sleeps) (by_nodes node f.items) → Each (OverCaught sleeps next node) (unified o f)
unified_caught sleeps next node None f h = tt
unified_caught sleeps next node (Some o) f h = ((marks_resolved (with_catch next false sleeps) node o f.items h, tt), tt)

marks_removal : (sleeps : ℕ → Bool) (node : ℕ → ℕ) (number : Option ℕ) (items : List (Item ℕ)) → MarksCaught sleeps (by_nodes node items)
    → MarksCaught sleeps (by_nodes node (removal_items number ++ items))
marks_removal sleeps node None items h = h
marks_removal sleeps node (Some k) items h = h

pub solutions_caught : (sleeps : ℕ → Bool) (next : ℕ) (node : ℕ → ℕ) (n : ℕ) (f : Continuation ℕ) (ss : List Solution)
    → MarksCaught (with_catch next false sleeps) (by_nodes node f.items) → Each (OverCaught sleeps next node) (solution_entries n f ss)
solutions_caught sleeps next node n f [] h = tt
solutions_caught sleeps next node n f (s ∷ ss) h =
    each-append (OverCaught sleeps next node) (solution_entry n f s) (solution_entries n f ss)
    (unified_caught sleeps next node (unifier s.equations) (with_next (f.next + s.variables) (before (goals_at n s.goals) (removing s.removes f)))
    (marks_goals (with_catch next false sleeps) node n s.goals (removing s.removes f).items (marks_removal (with_catch next false sleeps) node s.removes f.items h)))
    (solutions_caught sleeps next node n f ss h)

alternatives_right : (ds : List Entry) → catch_right (entry_alternatives Ready ds) ≡ false
alternatives_right [] = refl
alternatives_right (d ∷ ds) = refl

pub alternatives_caught : (sleeps : ℕ → Bool) (under : Bool) (n i : ℕ) (ds : List Entry) → Each (NewCaught sleeps n) ds
    → AreCaught sleeps under n ChoiceNode i (entry_alternatives Ready ds)
alternatives_caught sleeps under n i [] h = tt
alternatives_caught sleeps under n i (d ∷ ds) h = (
  subst (λ b. EntryCaught (with_catch n b sleeps) d) (sym (alternatives_right ds)) h.0.0,
  alternatives_caught sleeps under n
      (suc i) ds h.1,
)

pub alternatives_no_query : (sleeps : ℕ → Bool) (n : ℕ) (ds : List Entry) → Each (NewCaught sleeps n) ds
    → HaveNoQuery (entry_alternatives Ready ds)
alternatives_no_query sleeps n [] h = tt
alternatives_no_query sleeps n (d ∷ ds) h = (h.0.1, alternatives_no_query sleeps n ds h.1)

pub alternatives_no_node : (ds : List Entry) → AreNoQueryNodes (entry_alternatives Ready ds)
alternatives_no_node [] = tt
alternatives_no_node (d ∷ ds) = (tt, alternatives_no_node ds)

pub alternatives_last : (sleeps : ℕ → Bool) (n : ℕ) (ds : List Entry) → Each (NewCaught sleeps n) ds → AreLast (entry_alternatives Ready ds)
alternatives_last sleeps n [] h = tt
alternatives_last sleeps n (d ∷ []) h = tt
alternatives_last sleeps n (d ∷ c ∷ ds) h = (h.0.1, inr (alternatives_no_node (c ∷ ds)), alternatives_last sleeps n (c ∷ ds) h.1)

pub alternatives_unspent : (ds : List Entry) → AreUnspent (entry_alternatives Ready ds)
alternatives_unspent [] = tt
alternatives_unspent (d ∷ ds) = (refl, alternatives_unspent ds)
