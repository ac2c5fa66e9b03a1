-- What takes an entry's place looks up its way.
use Rattle.std.proofs.Common.{◌≡◌, ℕ, suc, ◌+◌, ◌==◌, true, List, [], ◌∷◌, ◌++◌, map, length, Option, Some, None, refl, sym, ap, ◌∙◌}
use Rattle.std.proofs.Common.{subst}
use Rattle.au_term.specs.Term.{Term}
use Rattle.au_model.specs.Terms.Each.{Each}
use Rattle.au_model.specs.Terms.Substitutions.{Substitution}
use Rattle.au_model.specs.Terms.Unifier.{unifier}
use Rattle.run_model.specs.Goals.Outcomes.{Solution}
use Rattle.run_model.specs.Machine.Items.{Item, GoalItem, CatchMark, CollectMark, RemovalItem, Continuation, goals_at, resolve_item, before}
use Rattle.run_model.specs.Machine.Items.{with_next, removal_items, removing, without_marks}
use Rattle.run_model.specs.Machine.Entries.{Entry, unified, solution_entry, solution_entries}
use Rattle.tree_model.specs.Levels.{Level}
use Rattle.tree_model.specs.Floors.{node_of, with_nodes, floor_of}
use Rattle.tree_model.specs.PendingLists.{Way, way_of}
use Rattle.tree_model.specs.Ways.{in_reach, way_from, way_above, AreScoped, under_query}
use Rattle.interleaving.proofs.AppendLemmas.{each-append}
use Rattle.interleaving.proofs.WayLemmas.{cond-true}
use Rattle.interleaving.proofs.RoundtripLemmas.{by_nodes, IsPath, weaken_above}
use Rattle.interleaving.proofs.GrowingLemmas.{IsReadyOn}
use Rattle.au_term.proofs.LogicLemmas.{number_same}

-- catch marks in front are dropped
pub marks_scoped : (node : ℕ → ℕ) (way : Way) (items : List (Item ℕ)) → IsPath way → AreScoped way (by_nodes node items)
    → AreScoped way (by_nodes node (without_marks items))
marks_scoped node way [] p h = h
marks_scoped node way (CatchMark s ∷ items) p h = marks_scoped node way items p
    (weaken_above way (node (suc s)) (by_nodes node items) p h.0 h.1)
marks_scoped node way (GoalItem t s ∷ items) p h = h
marks_scoped node way (CollectMark t s ∷ items) p h = h
marks_scoped node way (RemovalItem number ∷ items) p h = h

-- bindings change no scope
pub resolved_scoped : (node : ℕ → ℕ) (s : Substitution) (way : Way) (items : List (Item ℕ)) → AreScoped way (by_nodes node items)
    → AreScoped way (by_nodes node (map (resolve_item s) items))
resolved_scoped node s way [] h = tt
resolved_scoped node s way (GoalItem t n ∷ items) h = (h.0, resolved_scoped node s (way_from way (node n)) items h.1)
resolved_scoped node s way (CatchMark n ∷ items) h = (h.0, resolved_scoped node s (way_above way (node (suc n))) items h.1)
resolved_scoped node s way (CollectMark t n ∷ items) h = (h.0, resolved_scoped node s (way_above way (node (suc n))) items h.1)
resolved_scoped node s way (RemovalItem number ∷ items) h = resolved_scoped node s way items h

-- the height of the whole floor is the alternative's own node
pub own_height : (v : Level) (up : List Level) → node_of (v ∷ up) (suc (length up)) ≡ v.number
own_height v up = cond-true (suc (length up) == suc (length up)) v.number _ (number_same (suc (length up)))

pub length-floor : (levels : List Level) → length (floor_of levels) ≡ length levels
length-floor [] = refl
length-floor (v ∷ up) = ap suc (length-floor up)

-- goals with a cut to the alternative's own node
pub own_goals_scoped : (v : Level) (up : List Level) (n : ℕ) → n ≡ suc (length up) → (gs : List Term) (items : List (Item ℕ))
    → AreScoped (way_of (v ∷ up)) (by_nodes (node_of (v ∷ up)) items) →
    AreScoped (way_of (v ∷ up)) (by_nodes (node_of (v ∷ up)) (goals_at n gs ++ items))
own_goals_scoped v up n e [] items h = h
own_goals_scoped v up n e (g ∷ gs) items h =
    let own : node_of (v ∷ up) n ≡ v.number = ap (node_of (v ∷ up)) e ∙ own_height v up in
    let here : (v.number == node_of (v ∷ up) n) ≡ true = ap (λ m. v.number == m) own ∙ number_same v.number in
    let reach : in_reach (way_of (v ∷ up)) (node_of (v ∷ up) n) ≡ true = cond-true (v.number == node_of (v ∷ up) n) true _ here in
    let from : way_from (way_of (v ∷ up)) (node_of (v ∷ up) n) ≡ way_of (v ∷ up) = cond-true (v.number == node_of (v ∷ up) n)
    (way_of (v ∷ up)) (way_from (way_of up) (node_of (v ∷ up) n)) here in
    let rest = own_goals_scoped v up n e gs items h in
    (reach, subst (λ way. AreScoped way (by_nodes (node_of (v ∷ up)) (goals_at n gs ++ items))) (sym from) rest)

-- an entry over the floor, by the nodes that it names
abbrev pub IsOverFloor : List Level → Entry → Type 0
IsOverFloor levels e = IsReadyOn (way_of levels) (with_nodes (node_of levels) e)

unified_over : (levels : List Level) (o : Option Substitution) (f : Continuation ℕ) → under_query (way_of levels) ≡ true
    → AreScoped (way_of levels) (by_nodes (node_of levels) f.items) → Each (IsOverFloor levels) (unified o f)
unified_over levels None f q h = tt
unified_over levels (Some s) f q h = (record { asked = q; scoped = resolved_scoped (node_of levels) s (way_of levels) f.items h }, tt)

removal_scoped : (node : ℕ → ℕ) (number : Option ℕ) (way : Way) (items : List (Item ℕ)) → AreScoped way (by_nodes node items)
    → AreScoped way (by_nodes node (removal_items number ++ items))
removal_scoped node None way items h = h
removal_scoped node (Some k) way items h = h

pub solutions_over : (v : Level) (up : List Level) (n : ℕ) → n ≡ suc (length up) → (f : Continuation ℕ) (ss : List Solution)
    → under_query (way_of (v ∷ up)) ≡ true → AreScoped (way_of (v ∷ up)) (by_nodes (node_of (v ∷ up)) f.items) →
    Each (IsOverFloor (v ∷ up)) (solution_entries n f ss)
solutions_over v up n e f [] q h = tt
solutions_over v up n e f (s ∷ ss) q h =
    each-append (IsOverFloor (v ∷ up)) (solution_entry n f s) (solution_entries n f ss)
    (unified_over (v ∷ up) (unifier s.equations) (with_next (f.next + s.variables) (before (goals_at n s.goals) (removing s.removes f))) q
    (own_goals_scoped v up n e s.goals (removing s.removes f).items (removal_scoped (node_of (v ∷ up)) s.removes (way_of (v ∷ up)) f.items h)))
    (solutions_over v up n e f ss q h)

pub each-map : (P : Entry → Type 0) (g : Entry → Entry) (es : List Entry) → Each (λ e. P (g e)) es → Each P (map g es)
each-map P g [] h = tt
each-map P g (e ∷ es) h = (h.0, each-map P g es h.1)

pub floor_length : (v : Level) (up : List Level) → length (floor_of (v ∷ up)) ≡ suc (length up)
floor_length v up = length-floor (v ∷ up)
