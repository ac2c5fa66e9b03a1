-- Branches of one node or two that can be loaded.
use Rattle.std.proofs.Common.{◌≡◌, ℕ, ℤ, ◌+◌, ◌==◌, Bool, true, false, cond, [], ◌∷◌, ◌++◌, Option, Some, None, refl, sym, ap, ap₂, ◌∙◌, subst, arith}
use Rattle.std.proofs.lemmas.Bool.Decides.{nat_tests}
use Rattle.std.specs.Option.{option_map}
use Rattle.std.specs.Bool.{OnTrue}
use Rattle.std.specs.Prelude.{is_some, nat_lt, nat_le, slice_get, IfOk, Ok, Err}
use Rattle.std.specs.declared.result.Result.{Result}
use Rattle.au_term.proofs.LogicLemmas.{and-both}
use Rattle.au_term.specs.Term.{Term, VarTerm, IntTerm, AtomTerm, Compound}
use Rattle.au_term.specs.PrefixOrder.{top_of}
use Rattle.au_term.specs.declared.cell.Cell.TheVariants.{Int as IntCell}
use Rattle.au_term.specs.declared.segment.Binding.{Binding}
use Rattle.au_model.specs.Terms.MostGeneral.{GoesByRules}
use Rattle.au_model.specs.Terms.Unifier.{bound, unifier}
use Rattle.clause_compile.specs.declared.event.Branch.{Branch}
use Rattle.tree_model.specs.Levels.{Place}
use Rattle.tree_nodes.specs.Bodies.{Body, BodyKind, QueryBody, ChoiceBody, Branching}
use Rattle.tree_nodes.specs.Rows.{StoredNode, Rows, row_of_node, node_parent}
use Rattle.tree_nodes.specs.TreeTables.{stored_body}
use Rattle.branch_reading.specs.BranchSegments.{above_in_query, own_segments, segments_on, bindings_on, next_number}
use Rattle.branch_reading.specs.SettledWays.{are_bindings_settled, branch_items, is_branch_settled, is_guard_settled}
use Rattle.task_region.specs.PlacesUp.{IsStepUp, missing_body, body_at}
use Rattle.task_region.specs.TaskLoads.{is_task_at, CanBeLoaded, HasLoadableBranch}
use Rattle.branch_tests.specs.SettledBranches.{IsBranchSettledAfter}

cond_true : (c : Bool) → cond c true true ≡ true
cond_true true = refl
cond_true false = refl

three : {A B C D : Type 0} (f : A → B → C → D) {a b : A} {c d : B} {e g : C} → a ≡ b → c ≡ d → e ≡ g → f a c e ≡ f b d g
three f h i j = cc

-- bindings
pub none_settled : GoesByRules → (next : ℕ) → are_bindings_settled next [] ≡ true
none_settled rules next = ap is_some rules.none_left

is_least : (n : ℕ) → nat_le 0 n ≡ true
is_least n = grind (arith, nat_tests)

number_unified : GoesByRules → (v : ℕ) (z : ℤ) → is_some (unifier ((VarTerm v, IntTerm z) ∷ [])) ≡ true
number_unified rules v z = ap is_some (rules.first (VarTerm v) (IntTerm z) [] ∙ ap (option_map (bound v (IntTerm z))) rules.none_left)

number_settled : GoesByRules → (next v : ℕ) (t : Term) (z : ℤ) → top_of t ≡ IntCell z → nat_lt v next ≡ true
    → are_bindings_settled next (record { var = v; value = t } ∷ []) ≡ true
number_settled rules next v (VarTerm w) z e l = absurd (cc e)
number_settled rules next v (IntTerm y) z e l =
    and-both _ _ (and-both _ _ (and-both _ _ l (and-both _ _ (is_least next) refl)) refl) (and-both _ _ refl (number_unified rules v y))
number_settled rules next v (AtomTerm a) z e l = absurd (cc e)
number_settled rules next v (Compound f ts) z e l = absurd (cc e)

pub one_settled : GoesByRules → (next : ℕ) (b : Binding) (z : ℤ) → top_of b.value ≡ IntCell z → nat_lt b.var next ≡ true
    → are_bindings_settled next (b ∷ []) ≡ true
one_settled rules next b z e l = number_settled rules next b.var b.value z e l

-- a branch of a node below others that bind nothing
module _ (b : Body) (i : ℕ) (way : Branching) (branch : Branch) (kind : BodyKind) (here : slice_get b.branches i ≡ Some branch) (of : b.kind ≡ kind) where
  segments_are : segments_on ((b, i) ∷ way) ≡ branch.segment ∷ b.segment ∷ above_in_query kind (segments_on way)
  segments_are = ap₂ (λ o k. own_segments o ++ b.segment ∷ above_in_query k (segments_on way)) here of

  pub binds_as : bindings_on (above_in_query kind (segments_on way)) ≡ []
      → bindings_on (segments_on ((b, i) ∷ way)) ≡ b.segment.bindings ++ branch.segment.bindings
  binds_as none = ap bindings_on segments_are ∙ ap (λ bs. (bs ++ b.segment.bindings) ++ branch.segment.bindings) none

  next_is : next_number (segments_on ((b, i) ∷ way)) ≡ branch.segment.base + branch.segment.vars
  next_is = ap next_number segments_are

  pub can_load : bindings_on (above_in_query kind (segments_on way)) ≡ [] → ((n : ℕ) → is_guard_settled n kind ≡ true) → is_task_at kind i ≡ true
      → IsBranchSettledAfter b.segment branch → CanBeLoaded ((b, i) ∷ way)
  can_load none guard task settled = record {
    settled = and-both _ _ (ap₂ are_bindings_settled next_is (binds_as none) ∙ settled.bindings)
        (three (λ n k items. is_branch_settled n k i items) next_is of (ap branch_items here)
        ∙ and-both _ _ settled.items (ap (λ t. cond (i == 1) t true) (guard (branch.segment.base + branch.segment.vars)) ∙ cond_true (i == 1)));
    task = ap (λ k. is_task_at k i) of ∙ task;
  }

pub query_loads : (b : Body) (i : ℕ) (branch : Branch) → slice_get b.branches i ≡ Some branch → b.kind ≡ QueryBody
    → IsBranchSettledAfter b.segment branch → CanBeLoaded ((b, i) ∷ [])
query_loads b i branch here of settled = can_load b i [] branch QueryBody here of refl (λ n. refl) refl settled

pub choice_loads : (b : Body) (i : ℕ) (way : Branching) (branch : Branch) → slice_get b.branches i ≡ Some branch → b.kind ≡ ChoiceBody
    → bindings_on (segments_on way) ≡ [] → IsBranchSettledAfter b.segment branch → CanBeLoaded ((b, i) ∷ way)
choice_loads b i way branch here of none settled = can_load b i way branch ChoiceBody here of none (λ n. refl) refl settled

pub query_binds_nothing : (b : Body) (i : ℕ) (branch : Branch) → slice_get b.branches i ≡ Some branch → b.kind ≡ QueryBody
    → b.segment.bindings ≡ [] → branch.segment.bindings ≡ [] → bindings_on (segments_on ((b, i) ∷ [])) ≡ []
query_binds_nothing b i branch here of shared own = binds_as b i [] branch QueryBody here of refl ∙ ap₂ (λ bs cs. bs ++ cs) shared own

-- rows
stored : (o : Option StoredNode) (other body : Body) → option_map (λ r. r.body) o ≡ Some body → stored_body other o ≡ body
stored None other body e = absurd (cc e)
stored (Some r) other body e = cc e

step_parent : (rows : Rows) (p : Place) (above parent : Option Place) → IsStepUp rows p above → node_parent rows p.node ≡ Some parent → above ≡ parent
step_parent rows p above parent step e =
    let found : Some above ≡ Some parent = sym (ap Some step.parent) ∙ (sym (ap (option_map (λ r. r.parent)) step.is) ∙ e) in cc found

pub loads_first : (rows : Rows) (a : Place) (body : Body) → option_map (λ r. r.body) (row_of_node rows a.node) ≡ Some body
    → node_parent rows a.node ≡ Some None → CanBeLoaded ((body, a.index) ∷ []) → HasLoadableBranch rows a
loads_first rows a body here top can [] leads = absurd (cc leads)
loads_first rows a body here top can (p ∷ []) leads =
    let same : a ≡ p = cc leads.0 in
    subst (λ (q : Place). CanBeLoaded ((body_at rows q, q.index) ∷ [])) same
    (subst (λ b. CanBeLoaded ((b, a.index) ∷ [])) (sym (stored (row_of_node rows a.node) missing_body body here)) can)
loads_first rows a body here top can (p ∷ q ∷ places) leads =
    let same : a ≡ p = cc leads.0 in
    let none = step_parent rows p leads.1.0 None leads.1.1.0 (subst (λ (q : Place). node_parent rows q.node ≡ Some None) same top) in
    let more : None ≡ Some q = sym none ∙ leads.1.1.1.0 in
    absurd (cc more)

pub loads_second : (rows : Rows) (a u : Place) (body upper : Body) → option_map (λ r. r.body) (row_of_node rows a.node) ≡ Some body
    → option_map (λ r. r.body) (row_of_node rows u.node) ≡ Some upper → node_parent rows a.node ≡ Some (Some u) → node_parent rows u.node ≡ Some None
    → CanBeLoaded ((body, a.index) ∷ (upper, u.index) ∷ []) → HasLoadableBranch rows a
loads_second rows a u body upper here there below top can [] leads = absurd (cc leads)
loads_second rows a u body upper here there below top can (p ∷ []) leads =
    let same : a ≡ p = cc leads.0 in
    let some = step_parent rows p leads.1.0 (Some u) leads.1.1.0 (subst (λ (q : Place). node_parent rows q.node ≡ Some (Some u)) same below) in
    let none : Some u ≡ None = sym some ∙ leads.1.1.1 in
    absurd (cc none)
loads_second rows a u body upper here there below top can (p ∷ q ∷ []) leads =
    let same : a ≡ p = cc leads.0 in
    let some = step_parent rows p leads.1.0 (Some u) leads.1.1.0 (subst (λ (q : Place). node_parent rows q.node ≡ Some (Some u)) same below) in
    let next : Some u ≡ Some q = sym some ∙ leads.1.1.1.0 in
    let above : u ≡ q = cc next in
    subst (λ (r : Place). CanBeLoaded ((body_at rows p, p.index) ∷ (body_at rows r, r.index) ∷ [])) above
    (subst (λ (r : Place). CanBeLoaded ((body_at rows r, r.index) ∷ (body_at rows u, u.index) ∷ [])) same
    (subst (λ b. CanBeLoaded ((b, a.index) ∷ (body_at rows u, u.index) ∷ [])) (sym (stored (row_of_node rows a.node) missing_body body here))
    (subst (λ b. CanBeLoaded ((body, a.index) ∷ (b, u.index) ∷ [])) (sym (stored (row_of_node rows u.node) missing_body upper there)) can)))
loads_second rows a u body upper here there below top can (p ∷ q ∷ r ∷ places) leads =
    let same : a ≡ p = cc leads.0 in
    let some = step_parent rows p leads.1.0 (Some u) leads.1.1.0 (subst (λ (q : Place). node_parent rows q.node ≡ Some (Some u)) same below) in
    let second = leads.1.1.1 in
    let next : Some u ≡ Some q = sym some ∙ second.0 in
    let above : u ≡ q = cc next in
    let none = step_parent rows q second.1.0 None second.1.1.0 (subst (λ (r : Place). node_parent rows r.node ≡ Some None) above top) in
    let more : None ≡ Some r = sym none ∙ second.1.1.1.0 in
    absurd (cc more)

-- what a test's answer tells, told further
pub told : {A B E : Type 0} (r : Result Bool E) → (A → B) → IfOk r (λ can. OnTrue can A) → IfOk r (λ can. OnTrue can B)
told (Ok true) f h = f h
told (Ok false) f h = tt
told (Err e) f h = tt
