-- A tree that has not ended, and what is legal there.
use Rattle.std.proofs.Common.{◌≡◌, ℕ, ◌≤◌, ◌<◌, Bool, true, false, cond, Option, Some, None, refl, ap, subst, arith}
use Rattle.std.specs.Prelude.{min, nat_le, not, is_none}
use Rattle.run_model.specs.declared.ending.RunEnding.TheVariants.{Budget}
use Rattle.tree_model.specs.Credits.{greatest}
use Rattle.tree_model.specs.Levels.{Spot, levels_of}
use Rattle.tree_model.specs.Orders.{clock_of}
use Rattle.tree_model.specs.Events.{Event}
use Rattle.tree_model.specs.TreeStates.{TreeState, leftmost, ended, end_by}
use Rattle.tree_model.specs.Legality.{is_allowed, is_legal}
use Rattle.tree_model.specs.PendingLists.{pending_list}
use Rattle.tree_model.specs.SoundTrees.{IsSoundTree}
use Rattle.interleaving.specs.Follows.{lead}
use Rattle.interleaving.specs.HistoryInvariants.{shared_of, left_by, tree_list}
use Rattle.interleaving.proofs.ClockLemmas.{leftmost_known}
use Rattle.au_term.proofs.LogicLemmas.{and-right, and-left}

-- a tree that has not ended
pub record IsGoing (t : TreeState) : Type 0 where
  pub spot : Spot
  pub first : leftmost t ≡ Some spot
  pub halted : t.halted ≡ None
  pub early : clock_of (levels_of spot) < t.budget

pub going : (t : TreeState) → ended t ≡ None → IsGoing t
going t e = go t.halted refl (leftmost t) refl e
  where
    go : (h : Option ℕ) → t.halted ≡ h → (o : Option Spot) → leftmost t ≡ o → end_by h o t.budget ≡ None → IsGoing t
    go (Some k) p o q e = let no_way : ⊥ = cc in absurd no_way
    go None p None q e = let no_way : ⊥ = cc in absurd no_way
    go None p (Some s) q e = at_clock (nat_le t.budget (clock_of (levels_of s))) refl e
      where
        at_clock : (b : Bool) → nat_le t.budget (clock_of (levels_of s)) ≡ b → cond b (Some Budget) None ≡ None → IsGoing t
        at_clock true r z = let no_way : ⊥ = cc in absurd no_way
        at_clock false r z = let l : clock_of (levels_of s) < t.budget = grind arith in record
            { spot = s; first = q; halted = p; early = l }

is-none : {A : Type 0} → (o : Option A) → is_none o ≡ true → o ≡ None
is-none None h = refl
is-none (Some a) h = let no_way : ⊥ = cc in absurd no_way

pub legal_parts : (t : TreeState) (e : Event) → is_legal t e ≡ true → (ended t ≡ None) × (is_allowed t e ≡ true)
unfolding is_legal
legal_parts t e l =
    let rest = and-right (not t.stopped) _ l in
    (is-none (ended t) (and-left (is_none (ended t)) _ rest), and-right (is_none (ended t)) _ rest)

-- the list of a tree that was not halted
pub not_halted : (t : TreeState) → t.halted ≡ None → tree_list t ≡ pending_list t.root
not_halted t h = ap (λ o. left_by o (pending_list t.root)) h

pub same_shared : (answers : ℕ) (t new : TreeState) → new.world ≡ t.world → new.queries ≡ t.queries → new.halted ≡ t.halted
    → shared_of answers t ≡ shared_of answers new
same_shared answers t new a b c = cc

-- in front of the leftmost clock the count is what it seems
pub true_clock : (t : TreeState) (budget : ℕ) → budget ≤ greatest → t.budget ≡ budget → (h : IsSoundTree t) → (g : IsGoing t)
    → (lead (pending_list t.root) < budget) × (clock_of (levels_of g.spot) ≡ lead (pending_list t.root))
true_clock t budget b e h g =
    let k = leftmost_known t h g.spot g.first in
    let clock : clock_of (levels_of g.spot) ≡ min greatest (lead (pending_list t.root)) = k.clock in
    let early : clock_of (levels_of g.spot) < budget = subst (λ n. clock_of (levels_of g.spot) < n) e g.early in
    let small : lead (pending_list t.root) < budget = omega (arith, clock, early, b) in
    (small, omega (arith, clock, early, b))
