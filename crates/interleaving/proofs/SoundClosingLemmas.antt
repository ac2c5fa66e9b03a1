-- Each event keeps a tree sound, where balls and published nodes do.
use Rattle.std.proofs.Common.{◌≡◌, ℕ, suc, ◌+◌, ◌≤◌, ◌==◌, Bool, true, false, List, [], ◌∷◌, map, Option, Some, None, refl, sym, ap, ◌∙◌}
use Rattle.std.proofs.Common.{subst, arith}
use Rattle.au_term.specs.Term.{Term}
use Rattle.au_model.specs.Terms.Each.{Each}
use Rattle.run_model.specs.Machine.Items.{goals_at}
use Rattle.run_model.specs.Machine.Entries.{Entry}
use Rattle.run_model.specs.Programs.Jobs.{Query}
use Rattle.tree_model.specs.Credits.{Credit, credit_of}
use Rattle.tree_model.specs.Nodes.{Gate, QueryNode, Pending, Inner}
use Rattle.tree_model.specs.Levels.{Level, Place, Spot, levels_of}
use Rattle.tree_model.specs.Floors.{node_of, with_nodes}
use Rattle.tree_model.specs.Pruning.{pruned}
use Rattle.tree_model.specs.FrontGates.{Halts}
use Rattle.tree_model.specs.TreeStates.{TreeState, opened_node}
use Rattle.tree_model.specs.Legality.{taken_at, gate_of}
use Rattle.tree_model.specs.Effects.{with_status, spending, closed_with, left_at, cut_at, query_opens, front_taken, gate_or_frozen}
use Rattle.tree_model.specs.Effects.{where_some}
use Rattle.tree_model.specs.PendingLists.{Way, way_of}
use Rattle.tree_model.specs.Ways.{is_on, in_reach, way_from, AreScoped}
use Rattle.tree_model.specs.SoundTrees.{one_if, IsOpen, IsDormant, profile, is_live, IsSound, IsSoundTree}
use Rattle.tree_model.proofs.CountLemmas.{count_around}
use Rattle.interleaving.proofs.ContextLemmas.{IsAround}
use Rattle.interleaving.proofs.WayLemmas.{cond-true, off_way}
use Rattle.interleaving.proofs.ClosingSoundLemmas.{IsSoundGrown, IsFree, one_if-less, closes_sound}
use Rattle.interleaving.proofs.GrowingLemmas.{plug_sound, IsReadyOn, new_node_sound, spending_around, spending_free, pruned_way}
use Rattle.interleaving.proofs.GrowingLemmas.{pruned_around, pruned_free}
use Rattle.interleaving.proofs.EntryLemmas.{IsOverFloor, each-map}
use Rattle.interleaving.proofs.OpenSpotLemmas.{IsOpenSpot, IsPlaced, placed_at, count_at, hold_sound, taken_at_open, some_sound}
use Rattle.au_term.proofs.LogicLemmas.{number_same}

-- a tree with this root and next number
pub grown_tree : (t : TreeState) → IsSoundGrown (record { root = t.root; next = t.next }) → IsSoundTree t
grown_tree t g = record { distinct = g.distinct; fresh = g.fresh; sound = g.sound }

-- the numbers round an open place of a sound tree
pub free_at : (t : TreeState) (s : Spot) → IsSoundTree t → IsOpenSpot t.root s → IsFree t.next (levels_of s)
free_at t s h o = record {
  distinct = λ m. subst (λ c. c ≤ 1) (count_at t s o m) (h.distinct m);
  fresh = λ m l. sym (count_at t s o m)
      ∙ h.fresh m l;
}

-- a place closes
pub closed_sound : (t : TreeState) (s : Spot) (c : Credit) → IsPlaced s → IsFree t.next (levels_of s) → IsSoundTree (closed_with s c t)
closed_sound t s c p f = grown_tree (closed_with s c t) (closes_sound t.next (levels_of s) c p.around f)

-- entries over the floor become a node
pub left_sound : (t : TreeState) (s : Spot) (es : List Entry) → IsPlaced s → IsFree t.next (levels_of s)
    → Each (IsOverFloor (levels_of s)) es → IsSoundTree (left_at s es t)
left_sound t s [] p f k = closed_sound t s (credit_of 1) p f
left_sound t s (e ∷ es) p f k =
    let ready : Each (IsReadyOn (way_of (levels_of s))) (map (with_nodes (node_of (levels_of s))) (e ∷ es)) = each-map
    (IsReadyOn (way_of (levels_of s))) (with_nodes (node_of (levels_of s))) (e ∷ es) k in
    grown_tree (left_at s (e ∷ es) t)
    (new_node_sound t.next (spending 1 (levels_of s)) (with_nodes (node_of (levels_of s)) e)
    (map (with_nodes (node_of (levels_of s))) es) (spending_around 1 (levels_of s) p.around)
    (spending_free 1 t.next (levels_of s) f) ready)

-- a cut
pub cut_sound : (t : TreeState) (s : Spot) (scope : ℕ) (e : Entry) (es : List Entry) → IsPlaced s → IsFree t.next (levels_of s)
    → in_reach (way_of (levels_of s)) scope ≡ true → IsOverFloor (levels_of s) e → IsSoundTree (cut_at s scope (e ∷ es) t)
cut_sound t s scope e es p f r k =
    let levels = spending 1 (levels_of s) in
    let way : way_of (pruned scope levels) ≡ way_of (levels_of s) = pruned_way scope levels in
    grown_tree (cut_at s scope (e ∷ es) t)
    (new_node_sound t.next (pruned scope levels) (with_nodes (node_of (levels_of s)) e) []
    (pruned_around scope levels r (spending_around 1 (levels_of s) p.around))
    (pruned_free t.next scope levels (spending_free 1 t.next (levels_of s) f))
    (subst (λ w. IsReadyOn w (with_nodes (node_of (levels_of s)) e)) (sym way) k, tt))

-- the next query
live_first : (way : Way) → is_live way (IsOpen ∷ IsDormant QueryNode ∷ []) ≡ true
live_first [] = refl
live_first (a ∷ way) = refl

opened_goals : (n : ℕ) (way : Way) (gs : List Term) → AreScoped (record { node = n; index = 0; kind = QueryNode } ∷ way) (goals_at n gs)
opened_goals n way [] = tt
opened_goals n way (g ∷ gs) =
    let from : way_from (record { node = n; index = 0; kind = QueryNode } ∷ way) n ≡ record { node = n; index = 0; kind = QueryNode }
    ∷ way = cond-true (n == n) _ (way_from way n) (number_same n) in
    (cond-true (n == n) true _ (number_same n), subst (λ w. AreScoped w (goals_at n gs)) (sym from) (opened_goals n way gs))

pub opened_sound : (n : ℕ) (way : Way) (q : Query) → is_on way n ≡ false → IsSound way (Inner (opened_node n q))
opened_sound n way q o = (o, refl, live_first way, ((record { asked = refl; scoped = opened_goals n way q.goals }, tt), ((refl, tt), tt)))

pub opens_sound : (t : TreeState) (s : Spot) (qs : List Query) → IsPlaced s → IsFree t.next (levels_of s) → IsSoundTree (query_opens s qs t)
opens_sound t s [] p f = closed_sound t s (credit_of 1) p f
opens_sound t s (q ∷ qs) p f =
    let levels = spending 1 (levels_of s) in
    let g = spending_free 1 t.next (levels_of s) f in
    let off : is_on (way_of levels) t.next ≡ false = off_way t.next levels (g.fresh t.next (omega arith)) in
    grown_tree (query_opens s (q ∷ qs) t)
    (plug_sound (suc t.next) levels (Inner (opened_node t.next q)) refl (spending_around 1 (levels_of s) p.around)
    (opened_sound t.next (way_of levels) q off) (few levels g) (zero_at levels g))
  where
    few : (levels : List Level) → IsFree t.next levels → (m : ℕ) → count_around m levels + (one_if (t.next == m) + (0 + (0 + 0))) ≤ 1
    few levels g m = go (t.next == m) refl
      where
        go : (b : Bool) → (t.next == m) ≡ b → count_around m levels + (one_if (t.next == m) + (0 + (0 + 0))) ≤ 1
        go true e = let same : t.next ≡ m = grind arith in let one : one_if (t.next == m)
            ≡ 1 = ap one_if e in omega (arith, one, g.fresh m (omega (arith, same)))
        go false e = let none_new : one_if (t.next == m) ≡ 0 = ap one_if e in omega (arith, none_new, g.distinct m)

    zero_at : (levels : List Level) → IsFree t.next levels → (m : ℕ) → suc t.next ≤ m
        → count_around m levels + (one_if (t.next == m) + (0 + (0 + 0))) ≡ 0
    zero_at levels g m l = omega (arith, one_if-less t.next m l, g.fresh m (omega arith))

-- a halt
pub halted_sound : (t : TreeState) (s : Spot) (k : ℕ) → profile (Pending s.hold s.entry) ≡ IsOpen → IsPlaced s
    → IsFree t.next (levels_of s) → IsSoundTree (front_taken s (Halts k) t)
halted_sound t s k o p f =
    let levels = spending 1 (levels_of s) in
    let g = spending_free 1 t.next (levels_of s) f in
    grown_tree (front_taken s (Halts k) t)
    (plug_sound t.next levels (Pending s.hold s.entry) o
    (subst (IsAround levels) (sym o) (spending_around 1 (levels_of s) p.around)) p.entry (λ m. omega (arith, g.distinct m))
    (λ m l. omega (arith, g.fresh m l)))

pub suspend_sound : (t : TreeState) (w : ℕ) (a : Place) (frozen : Bool) → IsSoundTree t
    → IsSoundTree (where_some (taken_at w a t) t (λ s. with_status s (Pending (gate_or_frozen frozen (gate_of t s)) s.entry) t))
suspend_sound t w a frozen h = some_sound t (taken_at w a t) _ h
    (λ s e. hold_sound t s (gate_or_frozen frozen (gate_of t s)) (waits frozen (gate_of t s) s.entry) h (taken_at_open w a t s e))
  where
    waits : (b : Bool) (g : Option Gate) (e : Entry) → profile (Pending (gate_or_frozen b g) e) ≡ IsOpen
    waits true g e = refl
    waits false (Some g) e = refl
    waits false None e = refl

pub emptied_sound : (t : TreeState) (w : ℕ) (a : Place) (c : Spot → Credit) → IsSoundTree t
    → IsSoundTree (where_some (taken_at w a t) t (λ s. closed_with s (c s) t))
emptied_sound t w a c h = some_sound t (taken_at w a t) _ h
    (λ s e. closed_sound t s (c s) (placed_at t s h (taken_at_open w a t s e)) (free_at t s h (taken_at_open w a t s e)))
