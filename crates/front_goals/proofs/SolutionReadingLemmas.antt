-- Branches of solutions read as the entries of these.
use Rattle.std.proofs.Common.{◌≡◌, inl, inr, ℕ, suc, ◌+◌, ◌-◌, ◌≤◌, ◌==◌, ◌&&◌, Bool, true, false, cond, List, [], ◌∷◌, ◌++◌, length, map, slice_get, append_assoc, length-append, Option, Some, None, refl, sym, ap, ap₂, ◌∙◌, subst, arith}
use Rattle.std.proofs.lemmas.Bool.Decides.{nat_tests}
use Rattle.std.specs.List.{list_all}
use Rattle.au_term.proofs.LogicLemmas.{and-both, and-right}
use Rattle.au_term.specs.Term.{Term, var_bound}
use Rattle.au_model.specs.Terms.Each.{Each}
use Rattle.au_model.specs.Terms.MostGeneral.{SameValues}
use Rattle.au_model.specs.Terms.Named.{NamedTerm}
use Rattle.au_model.specs.Terms.Substitutions.{Substitution, resolve, value_of}
use Rattle.clause_compile.specs.CompiledClauses.{goal_items}
use Rattle.clause_compile.specs.declared.event.Branch.{Branch}
use Rattle.clause_compile.specs.declared.item.Item.{Item as BranchItem}
use Rattle.clause_compile.specs.declared.item.Item.TheVariants.{Goal, CatchEnd, Collect, Remove, End}
use Rattle.clause_compile.specs.declared.item.Scope.TheVariants.{Node}
use Rattle.run_model.specs.Machine.Entries.{Entry, PlainEntry, solution_entries, unified}
use Rattle.run_model.specs.Machine.Items.{Item, GoalItem, CatchMark, CollectMark, RemovalItem, Continuation, before, goals_at, removal_items, removing, resolve_item, resolve_named, resolve_continuation, with_next}
use Rattle.run_model.specs.Programs.Jobs.{Job}
use Rattle.tree_model.specs.Floors.{height_of, node_of, with_nodes}
use Rattle.tree_model.specs.Levels.{Level}
use Rattle.tree_model.specs.Nodes.{ChoiceNode, Ready, Numbered, Alternatives, alternative, Pending, entry_alternatives}
use Rattle.tree_nodes.specs.Bodies.{Body, ChoiceBody, Branching, new_alternatives, new_node}
use Rattle.tree_nodes.specs.Rows.{scope_number}
use Rattle.branch_bindings.specs.ExtensionLaws.{IsFinal}
use Rattle.branch_bindings.proofs.ExtendedUnifierLemmas.{unifiers_are_final}
use Rattle.branch_reading.specs.BranchSegments.{binding_equations, bindings_on, bound_by, next_number, segments_on}
use Rattle.branch_reading.specs.Readings.{items_meant, named_of, or_nothing, query_on, reading}
use Rattle.branch_reading.specs.SettledWays.{is_branch_settled, is_item_settled, is_term_below, is_way_settled, items_on}
use Rattle.task_region.specs.TaskLoads.{IsBoundOnBranch}
use Rattle.task_publishing.proofs.GoalLemmas.{settled_more}
use Rattle.branch_shapes.specs.ExtendedWays.{WayBinds, BranchLeadsOn, continuation_of, number_after}
use Rattle.branch_shapes.specs.FloorItems.{NamesLevels}
use Rattle.branch_shapes.specs.RestBodies.{items_behind, quiet_segment}
use Rattle.branch_shapes.proofs.PlainItemLemmas.{back, high, names_left, round}
use Rattle.branch_shapes.proofs.RestReadingLemmas.{items_settled, segments_settled}
use Rattle.region_split.specs.Regions.{RegionView}
use Rattle.region_split.specs.Solutions.{SolutionView}
use Rattle.region_split.specs.SolutionTrials.{AreSolutionsHere}
use Rattle.region_split.specs.StackOperations.{IsSolutionHere, solution_here}
use Rattle.region_split.proofs.TrialLemmas.{resolved_twice, items_twice, named_twice}
use Rattle.task_stops.proofs.QuietLemmas.{BranchLaws}
use Rattle.front_goals.specs.SolutionBranches.{AreSolutionBranches, IsSolutionBranch, clause_removal}
use Rattle.task_region.proofs.BranchLoadLemmas.{or_nothing_same}

-- what is left behind a settled branch's first goal is settled
left_settled : (next : ℕ) (items : List BranchItem) → list_all (is_item_settled next) items ≡ true → list_all (is_item_settled next) (items_behind items) ≡ true
left_settled next [] h = refl
left_settled next (Goal term cut ∷ items) h = and-right (is_item_settled next (Goal term cut)) (list_all (is_item_settled next) items) h
left_settled next (CatchEnd scope ∷ items) h = left_settled next items h
left_settled next (Collect template scope ∷ items) h = and-right (is_item_settled next (Collect template scope)) (list_all (is_item_settled next) items) h
left_settled next (Remove id ∷ items) h = h
left_settled next (End ball ∷ items) h = absurd cc

-- bindings leave the heights of items
high_twice : (levels : List Level) (s after : Substitution) → ((t : Term) → resolve after (resolve s t) ≡ resolve after t) → (items : List BranchItem)
    → map (resolve_item after) (high levels s items) ≡ high levels after items
high_twice levels s after same [] = refl
high_twice levels s after same (Goal term cut ∷ items) = ap₂ (λ t is. GoalItem t (height_of levels (scope_number cut)) ∷ is) (same term) (high_twice levels s after same items)
high_twice levels s after same (CatchEnd scope ∷ items) = ap (λ is. CatchMark (height_of levels (scope_number scope) - 1) ∷ is) (high_twice levels s after same items)
high_twice levels s after same (Collect template scope ∷ items) = ap₂ (λ t is. CollectMark t (height_of levels (scope_number scope) - 1) ∷ is) (same template) (high_twice levels s after same items)
high_twice levels s after same (Remove id ∷ items) = ap (λ is. RemovalItem id.0 ∷ is) (high_twice levels s after same items)
high_twice levels s after same (End ball ∷ items) = high_twice levels s after same items

named_once : (s after : Substitution) → ((t : Term) → resolve after (resolve s t) ≡ resolve after t) → (vs : List NamedTerm)
    → map (resolve_named after) (map (resolve_named s) vs) ≡ map (resolve_named after) vs
named_once s after same [] = refl
named_once s after same (v ∷ vs) = ap₂ (λ (t : Term) ws. (let w : NamedTerm = record v { term = t } in w) ∷ ws) (same v.term) (named_once s after same vs)

-- goals in front
goals_read : (levels : List Level) (node h : ℕ) (after further now : Substitution) → node ≡ node_of levels h → ((t : Term) → resolve after t ≡ resolve further (resolve now t))
    → (gs : List Term) (rest : List BranchItem) (items : List (Item ℕ)) → map (resolve_item after) (items_meant rest) ≡ back levels further (map (resolve_item further) items)
    → map (resolve_item after) (items_meant (goal_items (Node node) gs ++ rest)) ≡ back levels further (map (resolve_item further) (goals_at h (map (resolve now) gs) ++ items))
goals_read levels node h after further now is same [] rest items e = e
goals_read levels node h after further now is same (g ∷ gs) rest items e =
    ap₂ (λ (i : Item ℕ) xs. i ∷ xs) (ap₂ GoalItem (same g) is) (goals_read levels node h after further now is same gs rest items e)

removal_read : (levels : List Level) (after further : Substitution) (removes : Option ℕ) (rest : List BranchItem) (items : List (Item ℕ))
    → map (resolve_item after) (items_meant rest) ≡ back levels further (map (resolve_item further) items)
    → map (resolve_item after) (items_meant (clause_removal removes ++ rest)) ≡ back levels further (map (resolve_item further) (removal_items removes ++ items))
removal_read levels after further None rest items e = e
removal_read levels after further (Some n) rest items e = ap (λ xs. RemovalItem n ∷ xs) e

-- goals of a solution are settled
goals_settled : (next node : ℕ) (gs : List Term) (rest : List BranchItem) → Each (λ t. var_bound t ≤ next) gs → list_all (is_item_settled next) rest ≡ true
    → list_all (is_item_settled next) (goal_items (Node node) gs ++ rest) ≡ true
goals_settled next node [] rest below settled = settled
goals_settled next node (g ∷ gs) rest below settled =
    and-both (is_term_below next g) (list_all (is_item_settled next) (goal_items (Node node) gs ++ rest)) (let h = below.0 in grind (arith, nat_tests, h))
    (goals_settled next node gs rest below.1 settled)

removal_settled : (next : ℕ) (removes : Option ℕ) (rest : List BranchItem) → list_all (is_item_settled next) rest ≡ true
    → list_all (is_item_settled next) (clause_removal removes ++ rest) ≡ true
removal_settled next None rest settled = settled
removal_settled next (Some n) rest settled = settled

and_one : (a : Bool) (b : Bool) → a ≡ true → (a && cond b true true) ≡ true
and_one true true h = refl
and_one true false h = refl
and_one false b h = absurd cc

either_plain : (b : Bool) (f : Continuation ℕ) → cond b (PlainEntry f) (PlainEntry f) ≡ PlainEntry f
either_plain true f = refl
either_plain false f = refl

entry_same : {is js : List (Item ℕ)} {vs ws : List NamedTerm} {n m : ℕ} → is ≡ js → vs ≡ ws → n ≡ m
    → PlainEntry (let f : Continuation ℕ = record { items = is; named = vs; next = n } in f) ≡ PlainEntry (record { items = js; named = ws; next = m })
entry_same e f g = cc

-- one among others
found_at : {X : Type 0} (pre : List X) (x : X) (others : List X) → slice_get (pre ++ x ∷ others) (length pre) ≡ Some x
found_at [] x others = refl
found_at (y ∷ pre) x others = found_at pre x others

module _ (laws : BranchLaws) (job : Job) (way : Branching) (levels : List Level) (settled : is_way_settled way ≡ true)
    (names : Each (NamesLevels levels) (items_meant (items_on way))) (r : RegionView) (start : IsBoundOnBranch way r.store.floor)
    (number : r.store.now.next ≡ next_number (segments_on way)) where
  abbrev next : ℕ
  next = next_number (segments_on way)

  abbrev bound : Substitution
  bound = or_nothing (bound_by (segments_on way))

  abbrev follows : List BranchItem
  follows = items_behind (items_on way)

  abbrev named : List NamedTerm
  named = named_of (query_on job way)

  abbrev own : ℕ
  own = node_of levels (length levels)

  -- what follows the goal, by heights
  abbrev pub after_goal : Continuation ℕ
  after_goal = record { items = high levels bound follows; named = map (resolve_named bound) named; next = next }

  binds : WayBinds way r.store.floor.bound
  binds = laws.bind (segments_on way) r.store.floor.bound (segments_settled way settled) start.bound

  final : IsFinal r.store.floor.bound
  final = unifiers_are_final (binding_equations (bindings_on (segments_on way))) r.store.floor.bound binds.unified

  module _ (fixed : resolve_continuation r.store.now.bound after_goal ≡ after_goal) (bs : List Branch) where
    abbrev pub made : Body
    made = record { segment = quiet_segment r.store.now.next; branches = bs; kind = ChoiceBody }

    module _ (s : SolutionView) (here : IsSolutionHere r s) (b : Branch) (is : IsSolutionBranch r own follows s b) (i : ℕ) (there : slice_get bs i ≡ Some b) where
      abbrev after : Substitution
      after = is.solves.after

      abbrev further : Substitution
      further = is.solves.further

      number_is : number_after b.segment ≡ next + s.variables
      number_is = let a = is.solves.base in let c = is.solves.vars in omega (arith, a, c, number)

      leads : BranchLeadsOn r.store.floor.bound r.store.floor.bound after next made i b
      leads = record {
        is = there;
        no_query = tt;
        shared = laws.empty r.store.floor.bound next (quiet_segment r.store.now.next) final refl (omega (arith, number));
        own = record { numbers = let n = number_is in omega (arith, n, number); extends = is.solves.leads };
      }

      goals_below : list_all (is_item_settled (number_after b.segment)) b.goals ≡ true
      goals_below =
          let more : next ≤ number_after b.segment = let n = number_is in omega (arith, n) in
          let all : r.store.now.next + s.variables ≡ number_after b.segment = let n = number_is in omega (arith, n, number) in
          ap (list_all (is_item_settled (number_after b.segment))) is.goals
          ∙ goals_settled (number_after b.segment) own s.goals (clause_removal s.removes ++ follows) (subst (λ n. Each (λ t. var_bound t ≤ n) s.goals) all here.1)
          (removal_settled (number_after b.segment) s.removes follows
          (settled_more next (number_after b.segment) follows more (left_settled next (items_on way) (items_settled way settled))))

      below : is_branch_settled (number_after b.segment) ChoiceBody i b.goals ≡ true
      below = and_one (list_all (is_item_settled (number_after b.segment)) b.goals) (i == 1) goals_below

      reads : reading job ((made, i) ∷ way) ≡ PlainEntry (resolve_continuation after (continuation_of named b))
      reads =
          laws.read job r.store.floor.bound r.store.floor.bound after way made i b binds leads below
          ∙ either_plain (i == 1) (resolve_continuation after (continuation_of named b))

      -- what is bound further is bound last
      twice : (t : Term) → resolve after (resolve bound t) ≡ resolve after t
      twice t =
          sym (resolved_twice bound after after (λ n. is.solves.leads.further n ∙ ap (resolve after) (sym (or_nothing_same (bound_by (segments_on way)) r.store.floor.bound start.bound n))) t)

      through : (t : Term) → resolve after t ≡ resolve further (resolve r.store.now.bound t)
      through t = resolved_twice r.store.now.bound further after is.solves.composed t

      items_fixed : map (resolve_item further) (high levels bound follows) ≡ high levels after follows
      items_fixed =
          ap (map (resolve_item further)) (sym (ap (λ (f : Continuation ℕ). f.items) fixed))
          ∙ sym (items_twice r.store.now.bound further after is.solves.composed (high levels bound follows))
          ∙ high_twice levels bound after twice follows

      named_fixed : map (resolve_named further) (map (resolve_named bound) named) ≡ map (resolve_named after) named
      named_fixed =
          ap (map (resolve_named further)) (sym (ap (λ (f : Continuation ℕ). f.named) fixed))
          ∙ sym (named_twice r.store.now.bound further after is.solves.composed (map (resolve_named bound) named))
          ∙ named_once bound after twice named

      follows_read : map (resolve_item after) (items_meant follows) ≡ back levels further (map (resolve_item further) (high levels bound follows))
      follows_read = sym (ap (back levels further) items_fixed ∙ round levels after follows (names_left levels (items_on way) names))

      abbrev pub left : Continuation ℕ
      left = resolve_continuation further
          (with_next (next + s.variables) (before (goals_at (length levels) (map (resolve r.store.now.bound) s.goals)) (removing s.removes after_goal)))

      pub reads_as : reading job ((made, i) ∷ way) ≡ with_nodes (node_of levels) (PlainEntry left)
      reads_as =
          reads
          ∙ entry_same
          (ap (λ gs. map (resolve_item after) (items_meant gs)) is.goals
          ∙ goals_read levels own (length levels) after further r.store.now.bound refl through s.goals (clause_removal s.removes ++ follows)
          (removal_items s.removes ++ high levels bound follows)
          (removal_read levels after further s.removes follows (high levels bound follows) follows_read))
          (sym named_fixed) number_is

    abbrev entries : List SolutionView → List Entry
    entries ss = solution_entries (length levels) after_goal (map (solution_here r) ss)

    -- all of them, one after another
    pub all_read : (ss : List SolutionView) → AreSolutionsHere r ss → (pre suf : List Branch) (i : ℕ) → bs ≡ pre ++ suf → i ≡ length pre → AreSolutionBranches r own follows ss suf
        → new_alternatives (reading job) way made i suf ≡ entry_alternatives Ready (map (with_nodes (node_of levels)) (entries ss))
    all_read [] here pre suf i parts at are = ap (new_alternatives (reading job) way made i) are
    all_read (s ∷ ss) here pre suf i parts at (inl h) =
        all_read ss here.1 pre suf i parts at h.1
        ∙ ap (λ o. entry_alternatives Ready (map (with_nodes (node_of levels))
        (unified o (with_next (next + s.variables) (before (goals_at (length levels) (solution_here r s).goals) (removing s.removes after_goal))) ++ entries ss))) (sym h.0)
    all_read (s ∷ ss) here pre suf i parts at (inr h) =
        let whole : bs ≡ pre ++ h.branch ∷ h.others = parts ∙ ap (λ xs. pre ++ xs) h.are in
        let there : slice_get bs i ≡ Some h.branch = ap₂ (λ (xs : List Branch) n. slice_get xs n) whole at ∙ found_at pre h.branch h.others in
        let next_parts : bs ≡ (pre ++ h.branch ∷ []) ++ h.others = whole ∙ sym (append_assoc pre (h.branch ∷ []) h.others) in
        let next_at : suc i ≡ length (pre ++ h.branch ∷ []) = let m = length-append pre (h.branch ∷ []) in omega (arith, m, at) in
        ap (new_alternatives (reading job) way made i) h.are
        ∙ ap₂ (λ (e : Entry) (more : Alternatives). alternative 0 (Pending Ready e) more) (reads_as s here.0 h.branch h.own i there)
        (all_read ss here.1 (pre ++ h.branch ∷ []) h.others (suc i) next_parts next_at h.rest)
        ∙ ap (λ o. entry_alternatives Ready (map (with_nodes (node_of levels))
        (unified o (with_next (next + s.variables) (before (goals_at (length levels) (solution_here r s).goals) (removing s.removes after_goal))) ++ entries ss))) (sym h.own.solves.unified)

    pub node_reads : (ss : List SolutionView) → AreSolutionsHere r ss → AreSolutionBranches r own follows ss bs → (n : ℕ)
        → new_node (reading job) way n made ≡ Numbered n ChoiceNode (entry_alternatives Ready (map (with_nodes (node_of levels)) (entries ss)))
    node_reads ss here are n = ap (Numbered n ChoiceNode) (all_read ss here [] bs 0 refl refl are)
