-- The solutions of clauses that were found.
use Rattle.std.proofs.Common.{◌≡◌, ℕ, ◌+◌, ◌≤◌, Bool, true, false, List, [], ◌∷◌, ◌++◌, length, map, Option, None, refl, sym, ap, ap₂, ◌∙◌, arith}
use Rattle.std.specs.Prelude.{codes}
use Rattle.std.specs.Cmp.Lexicographic.{same_text}
use Rattle.au_term.specs.Term.{Term, VarTerm, IntTerm, AtomTerm, Compound, end, more, var_bound}
use Rattle.au_term.specs.Shifted.{shifted}
use Rattle.au_model.specs.Terms.Copies.{place_of, renamed, seen_in}
use Rattle.au_model.specs.Terms.Forms.{binary, same_name}
use Rattle.au_model.specs.Terms.Substitutions.{Substitution, apply, value_of, resolve}
use Rattle.au_model.proofs.ApplyLemmas.{apply-apply, apply-same}
use Rattle.au_model.proofs.EquationsInTurnLemmas.{resolve-nothing}
use Rattle.au_model.proofs.VariableBoundLemmas.{all_seen, still_seen, renamed-below}
use Rattle.run_model.specs.Goals.DatabaseGoals.{head_in, body_in}
use Rattle.run_model.specs.Goals.Outcomes.{Solution}
use Rattle.run_model.specs.Programs.Clauses.{Clause, clause_variables, clause_renaming, clause_takes, renamed_head, renamed_body, renamed_goals}
use Rattle.run_model.specs.Programs.Databases.{NumberedClause}
use Rattle.run_model.specs.Programs.Bodies.{clause_goals_of}
use Rattle.run_model.specs.Laws.Numbering.{AreTermsBelow}
use Rattle.run_model.proofs.OutcomeBoundLemmas.{alternatives-below}
use Rattle.clause_compile.specs.ClauseInvariant.{numbers_from}
use Rattle.clause_compile.proofs.RenumberingLemmas.{length-numbers}
use Rattle.clause_compile.specs.CompiledClauses.{clause_bound, goal_items}
use Rattle.clause_compile.specs.Places.{CodeView}
use Rattle.clause_compile.specs.declared.item.Item.{Item}
use Rattle.clause_compile.specs.declared.item.Item.TheVariants.{Goal as ItemGoal, CatchEnd, Collect, Remove, End}
use Rattle.clause_compile.specs.declared.item.Scope.{Scope}
use Rattle.binding_array.specs.declared.cell.BindingCell.{BindingCell}
use Rattle.cell_store.specs.StoreView.{IsValidStore, meaning, text_in}
use Rattle.region_split.specs.Regions.{RegionView}
use Rattle.region_split.specs.Solutions.{SolutionView, IsSideAt}
use Rattle.region_split.specs.SolutionTrials.{AreSolutionsHere}
use Rattle.region_split.specs.StackOperations.{IsSolutionHere, solution_here}
use Rattle.region_split.specs.declared.solution.Equation.{Equation}
use Rattle.region_split.specs.declared.solution.EquationSide.{EquationSide}
use Rattle.region_split.specs.declared.solution.EquationSide.TheVariants.{Value, Copied}
use Rattle.region_split.proofs.ClauseLemmas.{AreBelow, goals_within, part_renamed}
use Rattle.region_world.specs.FoundSolutions.{IsMatchingIn, clause_unified, found_solution, removal_of, side_meaning}
use Rattle.region_world.specs.declared.found.Matching.{Matching}
use Rattle.region_world.specs.declared.found.Matching.TheVariants.{Goal, Parts}

-- the solution of a clause whose variables are numbered from 0, by its parts as they are computed
solution_same : {es fs : List Equation} {gs hs : List Term} {o p : Option ℕ} {m n : ℕ} → es ≡ fs → gs ≡ hs → o ≡ p → m ≡ n
    → (let s : SolutionView = record { equations = es; goals = gs; removes = o; variables = m } in s) ≡ record { equations = fs; goals = hs; removes = p; variables = n }
solution_same e f g h = cc

module _ (c : Clause) (number base first k n : ℕ) (numbered : clause_variables c ≡ numbers_from 0 k) (bound : clause_bound c ≤ k) (from : first ≡ base) (many : n ≡ k) where
  part : (t : Term) → var_bound t ≤ k → shifted first t ≡ apply (clause_renaming c base) t
  part t le = ap (λ b. shifted b t) from ∙ (sym (resolve-nothing (shifted base t)) ∙ part_renamed [] base k c t numbered (λ n above. refl) le)

  parts : (ts : List Term) → AreBelow k ts → map (shifted first) ts ≡ map (apply (clause_renaming c base)) ts
  parts [] h = refl
  parts (t ∷ ts) h = ap₂ (λ u us. u ∷ us) (part t h.0) (parts ts h.1)

  takes : n ≡ clause_takes c
  takes = many ∙ sym (ap length numbered ∙ length-numbers 0 k)

  module _ (head : Term) (head_is : head ≡ shifted first c.head) where
    same_head : head ≡ renamed_head c base
    same_head = head_is ∙ part c.head (omega (arith, bound))

    pub called_solution : (goal : BindingCell) (es : List Equation) (gs : List Term) → es ≡ record { left = Value goal; right = Copied head } ∷ [] → gs ≡ map (shifted first) (clause_goals_of c.body)
        → (let s : SolutionView = record { equations = es; goals = gs; removes = None; variables = n } in s) ≡ found_solution (Goal goal) base (record { number = number; clause = c })
    called_solution goal es gs e g =
        solution_same (e ∙ ap (λ t. (let q : Equation = record { left = Value goal; right = Copied t } in q) ∷ []) same_head) (g ∙ parts (clause_goals_of c.body) (goals_within k c.body (omega (arith, bound)))) refl takes

    pub parts_solution : (left : BindingCell) (body side : EquationSide) (removes : Bool) (kept : Term) (before es : List Equation) (gs : List Term) (o : Option ℕ) → side ≡ body → kept ≡ shifted first c.body → before ≡ record { left = Value left; right = Copied head } ∷ [] → es ≡ before ++ record { left = side; right = Copied kept } ∷ []
        → gs ≡ [] → o ≡ removal_of removes number → (let s : SolutionView = record { equations = es; goals = gs; removes = o; variables = n } in s) ≡ found_solution (Parts left body removes) base (record { number = number; clause = c })
    parts_solution left body side removes kept before es gs o same kept_is b e g r =
        let same_body : kept ≡ renamed_body c base = kept_is ∙ part c.body (omega (arith, bound)) in
        solution_same
        (e
        ∙ (ap (λ qs. qs ++ (let q : Equation = record { left = side; right = Copied kept } in q) ∷ []) b
        ∙ (ap (λ t. (let p : Equation = record { left = Value left; right = Copied t } in p) ∷ (let q : Equation = record { left = side; right = Copied kept } in q) ∷ []) same_head
        ∙ ap₂ (λ x t. (let p : Equation = record { left = Value left; right = Copied (renamed_head c base) } in p) ∷ (let q : Equation = record { left = x; right = Copied t } in q) ∷ []) same same_body)))
        g r takes

-- new variables are free
module _ (s : Substitution) (next : ℕ) (free : (n : ℕ) → next ≤ n → value_of s n ≡ VarTerm n) where
  renamed_stays : (seen : List ℕ) (t : Term) → resolve s (apply (renamed seen next) t) ≡ apply (renamed seen next) t
  renamed_stays seen t = apply-apply (value_of s) (renamed seen next) t ∙ apply-same (λ n. resolve s (renamed seen next n)) (renamed seen next) (λ n. free (next + place_of seen n) (omega arith)) t

  all_stay : (seen : List ℕ) (ts : List Term) → map (resolve s) (map (apply (renamed seen next)) ts) ≡ map (apply (renamed seen next)) ts
  all_stay seen [] = refl
  all_stay seen (t ∷ ts) = ap₂ (λ u us. u ∷ us) (renamed_stays seen t) (all_stay seen ts)

head_below : (c : Clause) (next : ℕ) → var_bound (renamed_head c next) ≤ next + clause_takes c
head_below c next = renamed-below (clause_variables c) next c.head (still_seen c.body c.head (seen_in c.head []) (all_seen c.head []))

body_below : (c : Clause) (next : ℕ) → var_bound (renamed_body c next) ≤ next + clause_takes c
body_below c next = renamed-below (clause_variables c) next c.body (all_seen c.body (seen_in c.head []))

goals_below : (c : Clause) (next : ℕ) → AreTermsBelow (next + clause_takes c) (renamed_goals c next)
goals_below c next = (alternatives-below (c ∷ []) (AtomTerm []) next (omega arith)).0.1

side_further : (code : CodeView) (next bound : ℕ) (side : EquationSide) → next ≤ bound → IsSideAt code next next side → IsSideAt code next bound side
side_further code next bound (Value v) le h = h
side_further code next bound (Copied t) le h = omega (arith, h, le)

module _ (r : RegionView) (valid : IsValidStore r.store) where
  abbrev next : ℕ
  next = r.store.now.next

  abbrev stays : (c : Clause) (t : Term) → resolve r.store.now.bound (apply (clause_renaming c next) t) ≡ apply (clause_renaming c next) t
  stays c t = renamed_stays r.store.now.bound next valid.new (clause_variables c) t

  one_same : (m : Matching) (c : NumberedClause) → solution_here r (found_solution m next c) ≡ clause_unified r.store m c
  one_same (Goal goal) c =
      ap₂ (λ t gs. (let x : Solution = record { equations = (meaning r.store goal, t) ∷ []; goals = gs; removes = None; variables = clause_takes c.clause } in x))
      (stays c.clause c.clause.head) (all_stay r.store.now.bound next valid.new (clause_variables c.clause) (clause_goals_of c.clause.body))
  one_same (Parts head body removes) c =
      ap₂ (λ t u. (let x : Solution = record { equations = (meaning r.store head, t) ∷ (side_meaning r.store body, u) ∷ []; goals = []; removes = removal_of removes c.number; variables = clause_takes c.clause } in x))
      (stays c.clause c.clause.head) (stays c.clause c.clause.body)

  one_here : (m : Matching) → IsMatchingIn r.store m → (c : NumberedClause) → IsSolutionHere r (found_solution m next c)
  one_here (Goal goal) there c = (((there, head_below c.clause next), tt), goals_below c.clause next)
  one_here (Parts head body removes) there c =
      (((there.0, head_below c.clause next), ((side_further (text_in r.store) next (next + clause_takes c.clause) body (omega arith) there.1, body_below c.clause next), tt)), tt)

  pub found_same : (m : Matching) (cs : List NumberedClause) → map (solution_here r) (map (found_solution m next) cs) ≡ map (clause_unified r.store m) cs
  found_same m [] = refl
  found_same m (c ∷ cs) = ap₂ (λ x xs. x ∷ xs) (one_same m c) (found_same m cs)

  pub found_here : (m : Matching) → IsMatchingIn r.store m → (cs : List NumberedClause) → AreSolutionsHere r (map (found_solution m next) cs)
  found_here m there [] = tt
  found_here m there (c ∷ cs) = (one_here m there c, found_here m there cs)

-- the goals of items, where these are goals
abbrev pub item_goals : List Item → List Term
item_goals [] = []
item_goals (ItemGoal t cut ∷ items) = t ∷ item_goals items
item_goals (CatchEnd scope ∷ items) = item_goals items
item_goals (Collect t scope ∷ items) = item_goals items
item_goals (Remove id ∷ items) = item_goals items
item_goals (End ball ∷ items) = item_goals items

pub goals_again : (cut : Scope) (gs : List Term) → item_goals (goal_items cut gs ++ []) ≡ gs
goals_again cut [] = refl
goals_again cut (g ∷ gs) = ap (λ ts. g ∷ ts) (goals_again cut gs)

-- the parts of a clause as a term
pub parts_in : (t l u : Term) → t ≡ binary (codes ":-") l u → (l ≡ head_in t) × (u ≡ body_in t)
parts_in t l u e = (ap head_in (sym e), ap body_in (sym e))

pub no_parts_in : (t : Term) → ((l u : Term) → t ≡ binary (codes ":-") l u → ⊥) → (t ≡ head_in t) × (AtomTerm (codes "true") ≡ body_in t)
no_parts_in (VarTerm n) none = (refl, refl)
no_parts_in (IntTerm z) none = (refl, refl)
no_parts_in (AtomTerm a) none = (refl, refl)
no_parts_in (Compound f end) none = (refl, refl)
no_parts_in (Compound f (more a end)) none = (refl, refl)
no_parts_in (Compound f (more a (more b end))) none = by_name (same_name f (codes ":-")) refl
  where
    by_name : (c : Bool) → same_name f (codes ":-") ≡ c → (binary f a b ≡ head_in (binary f a b)) × (AtomTerm (codes "true") ≡ body_in (binary f a b))
    by_name true e = absurd (none a b (ap (λ g. binary g a b) (same_text f (codes ":-") (sym e))))
    by_name false e = rw e (refl, refl)
no_parts_in (Compound f (more a (more b (more c ts)))) none = (refl, refl)
