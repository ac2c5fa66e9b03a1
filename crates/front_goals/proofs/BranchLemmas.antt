-- Branches of solutions that are tried one after another in a region that is taken back.
use Rattle.std.proofs.Common.{◌≡◌, inl, inr, ℕ, List, [], ◌∷◌, ◌++◌, append_assoc, append-nil, Option, Some, None, refl, sym, ap, ◌∙◌, subst}
use Rattle.std.specs.Prelude.{option_to_list}
use Rattle.au_model.specs.Terms.Unifier.{unifier}
use Rattle.clause_compile.specs.declared.event.Branch.{Branch}
use Rattle.clause_compile.specs.declared.item.Item.{Item}
use Rattle.clause_compile.proofs.CodeLemmas.{keeps_same, keeps_twice}
use Rattle.cell_store.specs.StoreView.{Moment, text_in, IsComposition}
use Rattle.branch_bindings.specs.Extensions.{ExtendsBy}
use Rattle.branch_shapes.specs.ExtendedWays.{number_after, written_on}
use Rattle.run_model.specs.Goals.Outcomes.{Solution}
use Rattle.region_split.specs.Regions.{RegionView, IsPositionIn}
use Rattle.region_split.specs.Solutions.{SolutionView, solution_at, IsSolutionAt}
use Rattle.region_split.specs.StackOperations.{IsSolutionHere, solution_here}
use Rattle.region_split.specs.declared.frame.Position.{Position}
use Rattle.region_split.proofs.SolutionLemmas.{solution_there, solutions_same}
use Rattle.front_goals.specs.SolutionBranches.{AreSolutionBranches, IsSolutionBranchOr}
use Rattle.front_goals.specs.SolvedSolutions.{IsRegionTakenBack}

pub stays_as_it_is : (r : RegionView) (position : Position) → IsPositionIn r position → IsRegionTakenBack r r position
stays_as_it_is r position h = record { now = refl; floor = refl; text = refl; keeps = keeps_same (text_in r.store); there = h }

pub back_twice : (a b c : RegionView) (position : Position) → IsRegionTakenBack a b position → IsRegionTakenBack b c position → IsRegionTakenBack a c position
back_twice a b c position p q = record {
  now = q.now ∙ p.now;
  floor = q.floor ∙ p.floor;
  text = q.text ∙ p.text;
  keeps = keeps_twice (text_in a.store) (text_in b.store) (text_in c.store) p.keeps q.keeps;
  there = q.there;
}

module _ (r0 r : RegionView) (position : Position) (back : IsRegionTakenBack r0 r position) where
  pub here_still : (s : SolutionView) → IsSolutionHere r0 s → IsSolutionHere r s
  here_still s here =
      subst (λ (m : Moment). IsSolutionAt (text_in r.store) m.next s) (sym back.now) (solution_there (text_in r0.store) (text_in r.store) r0.store.now.next back.keeps s here)

  same_solution : (s : SolutionView) → IsSolutionHere r0 s → solution_here r s ≡ solution_here r0 s
  same_solution s here =
      ap (λ (m : Moment). solution_at (text_in r.store) m.bound s) back.now
      ∙ first_same (solutions_same (text_in r0.store) (text_in r.store) r0.store.now.next back.keeps r0.store.now.bound (s ∷ []) (here, tt))
    where
      first_same : {x y : Solution} → ◌≡◌ {A = List Solution} (x ∷ []) (y ∷ []) → x ≡ y
      first_same e = cc

  -- a branch of what was taken back to is one of where it began
  pub branch_back : (node : ℕ) (follows : List Item) (s : SolutionView) → IsSolutionHere r0 s → (o : Option Branch) → IsSolutionBranchOr r node follows s o
      → IsSolutionBranchOr r0 node follows s o
  branch_back node follows s here None h = sym (ap (λ (x : Solution). unifier x.equations) (same_solution s here)) ∙ h
  branch_back node follows s here (Some b) h = record {
    solves = record {
      further = h.solves.further;
      unified = sym (ap (λ (x : Solution). unifier x.equations) (same_solution s here)) ∙ h.solves.unified;
      after = h.solves.after;
      composed = subst (λ (m : Moment). IsComposition m.bound h.solves.further h.solves.after) back.now h.solves.composed;
      leads = subst (λ (m : Moment). ExtendsBy m.bound h.solves.after (number_after b.segment) (written_on b.segment)) back.floor h.solves.leads;
      base = h.solves.base ∙ ap (λ (m : Moment). m.next) back.now;
      vars = h.solves.vars;
    };
    goals = h.goals;
  }

-- with the branch of the next solution, if it has one
module _ (r : RegionView) (node : ℕ) (follows : List Item) (all : List SolutionView) where
  -- whatever branches the solutions have that are left, with these before them they are those of all
  abbrev pub AreFirst : List SolutionView → List Branch → Type 0
  AreFirst left made = (rest : List Branch) → AreSolutionBranches r node follows left rest → AreSolutionBranches r node follows all (made ++ rest)

  pub one_more : (s : SolutionView) (old left : List SolutionView) (made now : List Branch) (o : Option Branch) → AreFirst old made → old ≡ s ∷ left
      → IsSolutionBranchOr r node follows s o → now ≡ made ++ option_to_list o → AreFirst left now
  one_more s old left made now None first were h are rest others =
      subst (λ (xs : List Branch). AreSolutionBranches r node follows all (xs ++ rest)) (sym (are ∙ append-nil made))
      (first rest (subst (λ ss. AreSolutionBranches r node follows ss rest) (sym were) (inl (h, others))))
  one_more s old left made now (Some b) first were h are rest others =
      subst (AreSolutionBranches r node follows all) (sym (ap (λ (xs : List Branch). xs ++ rest) are ∙ append_assoc made (b ∷ []) rest))
      (first (b ∷ rest) (subst (λ ss. AreSolutionBranches r node follows ss (b ∷ rest)) (sym were)
      (inr (record { branch = b; others = rest; are = refl; own = h; rest = others }))))

  pub all_made : (left : List SolutionView) (made : List Branch) → AreFirst left made → left ≡ [] → AreSolutionBranches r node follows all made
  all_made left made first none =
      subst (AreSolutionBranches r node follows all) (append-nil made) (first [] (subst (λ ss. AreSolutionBranches r node follows ss []) (sym none) refl))

  pub nothing_made : (made : List Branch) → made ≡ [] → AreFirst all made
  nothing_made made none rest others = subst (λ (xs : List Branch). AreSolutionBranches r node follows all (xs ++ rest)) (sym none) others
