-- An alternative that is out, in a tree for which nodes stand.
use Rattle.std.proofs.Common.{◌≡◌, ◌⊎◌, inl, inr, ℕ, zero, suc, ◌<◌, ◌≤◌, ◌==◌, nat_lt, Option, refl, Bool, true, false, cond, List, [], ◌∷◌, map, Some, None, sym, ap, ◌∙◌, subst, arith}
use Rattle.std.specs.Prelude.{IsSome}
use Rattle.au_model.specs.Terms.Each.{Each}
use Rattle.std.specs.List.{Contains}
use Rattle.std.proofs.lemmas.Bool.Decides.{nat_tests}
use Rattle.std.proofs.lemmas.List.Elements.{Contains-append_cases, Contains-push_cases}
use Rattle.au_term.specs.Term.{Term, VarTerm, var_bound}
use Rattle.au_term.specs.declared.segment.Segment.{Segment}
use Rattle.au_model.specs.Terms.MostGeneral.{SameValues}
use Rattle.au_model.specs.Terms.Named.{NamedVariable}
use Rattle.au_model.specs.Terms.Unifier.{Equations, equations_bound}
use Rattle.branch_bindings.specs.ExtensionLaws.{SettledAreUnified}
use Rattle.branch_shapes.specs.ExtendedWays.{SettledSegmentsBind}
use Rattle.au_model.specs.Terms.Substitutions.{Substitution, value_of}
use Rattle.run_model.specs.Machine.Items.{Continuation, resolve_item, resolve_named, resolve_continuation}
use Rattle.run_model.specs.Machine.Entries.{Entry, PlainEntry}
use Rattle.run_model.specs.Laws.Numbering.{IsEntryNumbered, IsNamedBelow}
use Rattle.run_model.specs.Programs.Jobs.{Job, Query, own_terms}
use Rattle.tree_model.specs.Floors.{with_heights}
use Rattle.tree_model.specs.LegalTrees.{IsLegalTree}
use Rattle.tree_model.specs.Legality.{run_of, taken_at}
use Rattle.tree_model.specs.Levels.{Level, Place, plug, place_at, Spot, levels_of, level_node, put_left}
use Rattle.tree_model.specs.Nodes.{Pending, Inner, Status, Alternatives, alternative}
use Rattle.tree_model.specs.NumberedTrees.{AreNumbered, IsNumberedStatus}
use Rattle.tree_model.specs.PendingLists.{Way, way_of}
use Rattle.tree_model.specs.PrivateRuns.{private_run}
use Rattle.tree_model.specs.TreeStates.{TreeState}
use Rattle.tree_model.specs.Ways.{AreScoped, IsOnWay, IsAwake}
use Rattle.tree_nodes.specs.Bodies.{BodyKind, ChoiceBody, ConditionBody, CatchBody, FindallBody, QueryBody, Branching}
use Rattle.tree_nodes.specs.Rows.{cell_at}
use Rattle.tree_nodes.specs.TreeTables.{NodesView, IsTableOf, IsWayTo}
use Rattle.branch_reading.specs.BranchSegments.{binding_equations, bindings_on, segments_on, bound_by, next_number}
use Rattle.branch_reading.specs.NumberedReadings.{IsEndOn, IsSettledReading, NumberedTreesAreSettled}
use Rattle.branch_reading.specs.Readings.{guard_meant, continuation_on, items_meant, named_of, or_nothing, query_on, reading}
use Rattle.branch_reading.specs.SettledWays.{are_segments_settled, is_way_settled, items_on}
use Rattle.task_region.proofs.BranchLoadLemmas.{reads_settled, settled_bindings}
use Rattle.branch_shapes.specs.FloorItems.{NamesLevels, ScopedItemsNameLevels}
use Rattle.branch_shapes.proofs.OutLemmas.{IsOutAt, out_at, IsAwakeOn, awake_at, end_read, names_back}
use Rattle.interleaving.proofs.LegalLemmas.{end_rests}
use Rattle.task_publishing.specs.OwnBodies.{CanBePublished}

-- who has a task has a plain entry
scoped_beside : (way : Way) (test : Bool) (kind : BodyKind) (s : Substitution) (f : Continuation ℕ) → IsOnWay way (cond test (guard_meant kind s f) (PlainEntry f))
    → IsAwake (cond test (guard_meant kind s f) (PlainEntry f)) → AreScoped way f.items
scoped_beside way false kind s f on awake = on.scoped
scoped_beside way true ChoiceBody s f on awake = on.scoped
scoped_beside way true ConditionBody s f on awake = on.scoped
scoped_beside way true (CatchBody catcher recovery) s f on awake = absurd awake
scoped_beside way true (FindallBody results list) s f on awake = absurd awake
scoped_beside way true QueryBody s f on awake = on.scoped

names_levels : (job : Job) (levels : List Level) (way : Branching) → ScopedItemsNameLevels → is_way_settled way ≡ true → IsOnWay (way_of levels) (reading job way)
    → IsAwake (reading job way) → Each (NamesLevels levels) (items_meant (items_on way))
names_levels job levels [] law settled on awake = tt
names_levels job levels ((b, i) ∷ way) law settled on awake =
    let here = (b, i) ∷ way in
    let s = or_nothing (bound_by (segments_on here)) in
    let read = reads_settled job here settled in
    names_back levels s (items_meant (items_on here))
    (law levels (map (resolve_item s) (items_meant (items_on here)))
    (scoped_beside (way_of levels) (i == 1) b.kind s (resolve_continuation s (continuation_on job here)) (subst (IsOnWay (way_of levels)) read on)
    (subst IsAwake read awake)))

-- a pending alternative of a tree whose entries are numbered
numbered_right : (left : List (ℕ × Status)) (others : Alternatives) → AreNumbered (put_left left others) → AreNumbered others
numbered_right [] others h = h
numbered_right (x ∷ left) others h = (numbered_right left (alternative x.0 x.1 others) h).1

numbered_inside : (levels : List Level) (status : Status) → IsNumberedStatus (plug levels status) → IsNumberedStatus status
numbered_inside [] status h = h
numbered_inside (v ∷ up) status h =
    (numbered_right v.left (alternative v.spent status v.right) (numbered_inside up (Inner (level_node v status)) h)).0

-- its named terms, where its bindings are applied
named_beside : (test : Bool) (kind : BodyKind) (s : Substitution) (f : Continuation ℕ) → IsEntryNumbered (cond test (guard_meant kind s f) (PlainEntry f))
    → Each (IsNamedBelow f.next) f.named
named_beside false kind s f h = h.named
named_beside true ChoiceBody s f h = h.named
named_beside true ConditionBody s f h = h.named
named_beside true (CatchBody catcher recovery) s f h = h.2.named
named_beside true (FindallBody results list) s f h = h.2.named
named_beside true QueryBody s f h = h.named

-- a variable from the next number on is not bound
pub below_all : (eqs : Equations) (v : ℕ) (value : Term) → Contains eqs (VarTerm v, value) → v < equations_bound eqs
below_all [] v value c = let lt = c.1 in absurd (omega (arith, lt))
below_all (e ∷ eqs) v value c = elim (Contains-append_cases (e ∷ []) eqs (VarTerm v, value) c) [
  | inl k ↦ elim (Contains-push_cases [] e (VarTerm v, value) k) [
    | inl j ↦ let lt = j.1 in absurd (omega (arith, lt))
    | inr is ↦
        let same : e.0 ≡ VarTerm v = ap (λ (q : Term × Term). q.0) is in
        let long : var_bound e.0 ≡ suc v = ap var_bound same in
        omega (arith, long)
  ]
  | inr k ↦ let lt = below_all eqs v value k in omega (arith, lt)
]

unbound_past : (segments : List Segment) → SettledSegmentsBind → SettledAreUnified → are_segments_settled segments ≡ true → (v : ℕ) → next_number segments ≤ v
    → value_of (or_nothing (bound_by segments)) v ≡ VarTerm v
unbound_past segments bind unified settled v le = by_bound (bound_by segments) refl
  where
    by_bound : (o : Option Substitution) → bound_by segments ≡ o → value_of (or_nothing o) v ≡ VarTerm v
    by_bound None e = refl
    by_bound (Some s) e =
        let k = bind segments s settled (subst (λ (x : Option Substitution). SameValues x (Some s)) (sym e) (λ n. refl)) in
        let eqs = binding_equations (bindings_on segments) in
        elim ((unified (next_number segments) eqs s k).free_or_bound v) [
          | inl f ↦ f
          | inr b ↦ let lt = below_all eqs v b.value b.is in let most = k.below in absurd (omega (arith, lt, most, le))
        ]

own_below : (next : ℕ) (s : Substitution) → ((v : ℕ) → next ≤ v → value_of s v ≡ VarTerm v) → (vs : List NamedVariable)
    → Each (IsNamedBelow next) (map (resolve_named s) (own_terms vs)) → Each (IsNamedBelow next) (own_terms vs)
own_below next s past [] h = tt
own_below next s past (v ∷ vs) h = (by_test (nat_lt v.number next) refl, own_below next s past vs h.1)
  where
    by_test : (b : Bool) → nat_lt v.number next ≡ b → var_bound (VarTerm v.number) ≤ next
    by_test true e = let lt : v.number < next = grind (arith, nat_tests) in omega (arith, lt)
    by_test false e =
        let le : next ≤ v.number = grind (arith, nat_tests) in subst (λ t. var_bound t ≤ next) (past v.number le) h.0

query_below : (next : ℕ) (s : Substitution) → ((v : ℕ) → next ≤ v → value_of s v ≡ VarTerm v) → (q : Option Query)
    → Each (IsNamedBelow next) (map (resolve_named s) (named_of q)) → Each (IsNamedBelow next) (named_of q)
query_below next s past None h = tt
query_below next s past (Some q) h = own_below next s past q.names h

names_below : (job : Job) (way : Branching) → SettledSegmentsBind → SettledAreUnified → is_way_settled way ≡ true → IsEntryNumbered (reading job way)
    → Each (IsNamedBelow (next_number (segments_on way))) (named_of (query_on job way))
names_below job [] bind unified settled known = tt
names_below job ((b, i) ∷ way) bind unified settled known =
    let here = (b, i) ∷ way in
    let s = or_nothing (bound_by (segments_on here)) in
    query_below (next_number (segments_on here)) s (unbound_past (segments_on here) bind unified (settled_bindings here settled)) (query_on job here)
    (named_beside (i == 1) b.kind s (resolve_continuation s (continuation_on job here)) (subst IsEntryNumbered (reads_settled job here settled) known))

module _ (job : Job) (nodes : NodesView) (t : TreeState) (w : ℕ) (a : Place) (placed : IsTableOf nodes (reading job) t.root) (s : Spot)
    (taken : taken_at w a t ≡ Some s) where
  out : IsOutAt job nodes t w a s
  out = out_at job nodes t w a s placed taken

  pub at : place_at s.level ≡ a
  at = out.at

  pub table : IsTableOf nodes (reading job) (plug (levels_of s) (Pending s.hold s.entry))
  table = out.table

  pub way : Branching
  way = out.way

  pub on : IsWayTo nodes.rows (levels_of s) way
  unfolding way
  on = out.on

  pub reads : s.entry ≡ reading job way
  unfolding way
  reads = out.reads

  pub cell_there : IsSome (cell_at nodes.rows a)
  cell_there = out.cell_there

  module _ (legal : IsLegalTree t) (settled : NumberedTreesAreSettled) (scoped : ScopedItemsNameLevels)
      (bind : SettledSegmentsBind) (unified : SettledAreUnified) where
    no_end_runs : (k : ℕ) (es : List Entry) → 1 ≤ k → IsEndOn way → run_of t s k ≡ Some es → ⊥
    unfolding run_of
    no_end_runs zero es some end run = absurd (omega (arith, some))
    no_end_runs (suc k) es some end run =
        let e = end_read job way end in
        let none : private_run t.job.clauses (levels_of s) (with_heights (levels_of s) s.entry) (suc k) ≡ None
        = ap (λ x. private_run t.job.clauses (levels_of s) (with_heights (levels_of s) x) (suc k)) (reads ∙ e.1) ∙ end_rests t s e.0 k in
        let wrong : Some es ≡ None = sym run ∙ none in
        cc

    pub can_be_published : (k : ℕ) (es : List Entry) → 1 ≤ k → run_of t s k ≡ Some es → CanBePublished job (levels_of s) way
    can_be_published k es some run =
        let number : IsSettledReading job way s.entry
        = settled job nodes t.root placed legal.numbered s.level s.above s.hold s.entry out.in_tree way on in
        by_case number.settled
      where
        known : IsEntryNumbered s.entry
        known = numbered_inside (levels_of s) (Pending s.hold s.entry) (subst IsNumberedStatus (sym out.in_tree) legal.numbered)

        held : IsAwakeOn s
        held = awake_at job nodes t w a s legal out

        by_case : (is_way_settled way ≡ true) ⊎ IsEndOn way → CanBePublished job (levels_of s) way
        by_case (inl h) = record {
          settled = h;
          named = names_below job way bind unified h (subst IsEntryNumbered reads known);
          scoped = names_levels job (levels_of s) way scoped h (subst (IsOnWay (way_of (levels_of s))) reads held.asked)
              (subst IsAwake reads held.awake);
        }
        by_case (inr end) = absurd (no_end_runs k es some end run)
