-- Every legal tree is sound.
use Rattle.std.proofs.Common.{◌≡◌, ℕ, zero, suc, ◌+◌, ◌-◌, ◌≤◌, ◌==◌, Bool, true, false, List, [], ◌∷◌, length, Option, Some, None, refl}
use Rattle.std.proofs.Common.{sym, ap, ◌∙◌, subst, arith}
use Rattle.std.specs.Prelude.{◌&&◌, not, nat_le, is_none}
use Rattle.run_model.specs.Machine.Items.{Item, GoalItem, CatchMark, CollectMark, RemovalItem}
use Rattle.run_model.specs.Machine.Entries.{Entry, PlainEntry, CatchEntry, FindallEntry, EndEntry}
use Rattle.run_model.specs.Programs.Jobs.{Query, Job}
use Rattle.tree_model.specs.Nodes.{Hold, Ready, TakenBy, Waiting, Dormant, ChoiceNode, Numbered, Status, Pending, Inner, entry_alternatives}
use Rattle.tree_model.specs.Nodes.{nodes_below}
use Rattle.tree_model.specs.Levels.{Level, plug, Place, Spot, levels_of}
use Rattle.tree_model.specs.Floors.{node_of, with_nodes, with_heights}
use Rattle.tree_model.specs.PrivateRuns.{if_any, one_more, private_run}
use Rattle.tree_model.specs.Shapes.{same_sizes, fits_shape, cuts_of, holder, placed_scope, placed}
use Rattle.tree_model.specs.Events.{Event, Claim, Nodes, Empty, Collected, Lost, Suspend, Resume, Prune, Answer, Stop}
use Rattle.tree_model.specs.TreeStates.{TreeState, opening_root, opening_tree, ended}
use Rattle.tree_model.specs.Legality.{taken_at, run_of, is_nonempty, run_fits, at_spot, is_allowed, is_legal}
use Rattle.tree_model.specs.Effects.{spending, run_placed, where_some, after_allowed, after_event}
use Rattle.tree_model.specs.Histories.{after_events, are_legal, tree_after, IsLegalHistory}
use Rattle.tree_model.specs.PendingLists.{way_of}
use Rattle.tree_model.specs.Ways.{under_query, IsOnWay, IsAwake, IsHeldBy}
use Rattle.tree_model.specs.SoundTrees.{one_if, count_below, Profile, IsOpen, profile, IsSound, IsSoundTree}
use Rattle.tree_model.proofs.CountLemmas.{count_around}
use Rattle.au_term.specs.Term.{Term}
use Rattle.interleaving.proofs.ContextLemmas.{IsAround}
use Rattle.interleaving.proofs.WayLemmas.{cond-true, cond-false, off_way}
use Rattle.interleaving.proofs.ClosingSoundLemmas.{IsSoundGrown, IsFree}
use Rattle.interleaving.proofs.GrowingLemmas.{plug_sound, IsReadyOn, new_node_sound, spending_around, spending_free, around_path}
use Rattle.interleaving.proofs.BallLemmas.{NamesFloor}
use Rattle.interleaving.proofs.CollapseLemmas.{AreSeen}
use Rattle.interleaving.proofs.RunSoundLemmas.{height_way, length-heights, floor_way, heights_to_nodes, IsRun, run_sound}
use Rattle.interleaving.proofs.PlacedSoundLemmas.{named_in, IsSeen, all_seen, placed_ready}
use Rattle.interleaving.proofs.PlacedShapeLemmas.{IsPlacing, placed_in}
use Rattle.interleaving.proofs.OpenSpotLemmas.{claim_sound, resume_sound}
use Rattle.interleaving.proofs.SoundClosingLemmas.{grown_tree, emptied_sound, suspend_sound, opened_sound}
use Rattle.interleaving.proofs.PlacedEntryLemmas.{IsAt, at_spot as known_at, prune_sound, answer_sound}
use Rattle.au_term.proofs.LogicLemmas.{and-right, not_equal}

pub awake_entry : (h : Hold) (e : Entry) → profile (Pending h e) ≡ IsOpen → IsHeldBy h e → IsAwake e
awake_entry Ready e o i = i
awake_entry (TakenBy w) e o i = i
awake_entry (Waiting g) e o i = i
awake_entry Dormant e o i = let no_way : ⊥ = cc in absurd no_way

-- the names that placed entries get
pub placed_floor : (next : ℕ) (sizes : List ℕ) (levels : List Level) → NamesFloor (placed_scope next sizes levels) levels
placed_floor next sizes levels h l = cond-true (nat_le h (length levels)) (node_of levels h) _ low
  where
    low : nat_le h (length levels) ≡ true
    low = grind arith

pub placed_above : (next : ℕ) (sizes : List ℕ) (levels : List Level) (p : ℕ)
    → placed_scope next sizes levels (suc (length (height_way levels) + p)) ≡ holder next sizes p
placed_above next sizes levels p =
    ap (λ n. placed_scope next sizes levels (suc (n + p))) (length-heights levels)
    ∙ (cond-false (nat_le (suc (length levels + p)) (length levels)) (node_of levels (suc (length levels + p))) _ high
    ∙ ap (holder next sizes) (let z : suc (length levels + p) - suc (length levels) ≡ p = omega arith in z))
  where
    high : nat_le (suc (length levels + p)) (length levels) ≡ false
    high = go (nat_le (suc (length levels + p)) (length levels)) refl
      where
        go : (b : Bool) → nat_le (suc (length levels + p)) (length levels) ≡ b → b ≡ false
        go false e = refl
        go true e = let no_way : ⊥ = grind arith in absurd no_way

pub items_any : (items : List (Item ℕ)) → AreSeen (λ n. true) items
items_any [] = tt
items_any (GoalItem t s ∷ items) = (refl, items_any items)
items_any (CatchMark s ∷ items) = items_any items
items_any (CollectMark t s ∷ items) = items_any items
items_any (RemovalItem n ∷ items) = items_any items

pub any_seen : (e : Entry) → IsSeen (λ n. true) e
any_seen (PlainEntry f) = items_any f.items
any_seen (CatchEntry c r f) = items_any f.items
any_seen (FindallEntry results l f) = items_any f.items
any_seen (EndEntry b) = tt

pub one_size : (sizes : List ℕ) → same_sizes sizes (1 ∷ []) ≡ true → sizes ≡ 1 ∷ []
one_size [] h = let no_way : ⊥ = cc in absurd no_way
one_size (a ∷ []) h = go (a == 1) refl h
  where
    go : (b : Bool) → (a == 1) ≡ b → (b && true) ≡ true → a ∷ [] ≡ 1 ∷ []
    go true e k = let same : a ≡ 1 = grind arith in ap (λ n. n ∷ []) same
    go false e k = let no_way : ⊥ = cc in absurd no_way
one_size (a ∷ b ∷ sizes) h = go (a == 1) h
  where
    go : (c : Bool) → (c && false) ≡ true → a ∷ b ∷ sizes ≡ 1 ∷ []
    go true k = let no_way : ⊥ = cc in absurd no_way
    go false k = let no_way : ⊥ = cc in absurd no_way

-- entries of a run become nodes
single_placed : (t : TreeState) (s : Spot) (k : ℕ) (e : Entry) → IsAt t s → under_query (way_of (levels_of s)) ≡ true
    → IsRun (levels_of s) (e ∷ []) → IsSoundTree (run_placed s k (1 ∷ []) (Some (e ∷ [])) t)
single_placed t s k e h u r =
    let levels = levels_of s in
    let name = placed_scope t.next (1 ∷ []) levels in
    let path = around_path levels IsOpen h.placed.around in
    let ready : IsReadyOn (way_of levels) (with_nodes name e) = placed_ready name (λ n. true) (height_way levels) (way_of levels) e
    (heights_to_nodes name (λ n. true) levels (placed_floor t.next (1 ∷ []) levels)) path u (any_seen e) r.awake r.over.0 in
    let g : IsSoundGrown (record {
      root = plug (spending k levels)
          (Inner (Numbered t.next ChoiceNode (entry_alternatives Ready (with_nodes name e ∷ []))));
      next = suc t.next;
    }) =
    new_node_sound t.next (spending k levels) (with_nodes name e) [] (spending_around k levels h.placed.around)
    (spending_free k t.next levels h.free) (ready, tt) in
    let one : suc t.next ≡ t.next + 1 = omega arith in
    grown_tree (run_placed s k (1 ∷ []) (Some (e ∷ [])) t)
    (subst (λ n. IsSoundGrown (record
    { root = plug (spending k levels) (Inner (Numbered t.next ChoiceNode (entry_alternatives Ready (with_nodes name e ∷ [])))); next = n }))
    one g)

many_placed : (t : TreeState) (s : Spot) (k : ℕ) (sizes : List ℕ) (e d : Entry) (es : List Entry) → IsAt t s
    → under_query (way_of (levels_of s)) ≡ true → IsRun (levels_of s) (e ∷ d ∷ es)
    → fits_shape (length (levels_of s)) sizes (e ∷ d ∷ es) ≡ true → IsSoundTree (run_placed s k sizes (Some (e ∷ d ∷ es)) t)
many_placed t s k sizes e d es h u r fit =
    let levels = levels_of s in
    let all = e ∷ d ∷ es in
    let name = placed_scope t.next sizes levels in
    let place : IsPlacing name (cuts_of all) t.next sizes (height_way levels) (way_of levels) all = record {
      counted = (floor_way levels).counted;
      collapse = heights_to_nodes name (named_in (cuts_of all)) levels (placed_floor t.next sizes levels);
      path = around_path levels IsOpen h.placed.around;
      asked = u;
      new = λ m l. off_way m levels (h.free.fresh m l);
      over = r.over;
      awake = r.awake;
      seen = all_seen all;
      holds = placed_above t.next sizes levels;
      fit = subst (λ n. fits_shape n sizes all ≡ true) (sym (length-heights levels)) fit;
    } in
    let p = placed_in name (cuts_of all) t.next sizes (height_way levels) (way_of levels) all place in
    let f = spending_free k t.next levels h.free in
    grown_tree (run_placed s k sizes (Some all) t)
    (plug_sound (t.next + length sizes) (spending k levels) (placed t.next sizes levels all) p.opened
    (subst (IsAroundNow s k) (sym p.opened) (spending_around k levels h.placed.around)) p.sound
    (few t.next sizes (spending k levels) (placed t.next sizes levels all) f p.few p.low)
    (none_from t.next sizes (spending k levels) (placed t.next sizes levels all) f p.high))
  where
    IsAroundNow : Spot → ℕ → Profile → Type 0
    IsAroundNow s k p = IsAround (spending k (levels_of s)) p

    few : (next : ℕ) (sizes : List ℕ) (levels : List Level) (status : Status) → IsFree next levels
        → ((m : ℕ) → count_below m status ≤ 1) → ((m : ℕ) → suc m ≤ next → count_below m status ≡ 0) → (m : ℕ)
        → count_around m levels + count_below m status ≤ 1
    few next sizes levels status f a b m = go (nat_le next m) refl
      where
        go : (c : Bool) → nat_le next m ≡ c → count_around m levels + count_below m status ≤ 1
        go true e = let l : next ≤ m = grind arith in omega (arith, f.fresh m l, a m)
        go false e = let l : suc m ≤ next = grind arith in omega (arith, f.distinct m, b m l)

    none_from : (next : ℕ) (sizes : List ℕ) (levels : List Level) (status : Status) → IsFree next levels
        → ((m : ℕ) → next + length sizes ≤ m → count_below m status ≡ 0) → (m : ℕ) → next + length sizes ≤ m
        → count_around m levels + count_below m status ≡ 0
    none_from next sizes levels status f a m l = omega (arith, f.fresh m (omega arith), a m l)

shaped : (t : TreeState) (s : Spot) (k : ℕ) (sizes : List ℕ) (es : List Entry) → IsAt t s → under_query (way_of (levels_of s)) ≡ true
    → IsRun (levels_of s) es → (is_nonempty es && fits_shape (length (levels_of s)) sizes es) ≡ true
    → IsSoundTree (run_placed s k sizes (Some es) t)
shaped t s k sizes [] h u r fit = let no_way : ⊥ = cc in absurd no_way
shaped t s k sizes (e ∷ []) h u r fit = subst (λ sz. IsSoundTree (run_placed s k sz (Some (e ∷ [])) t)) (sym (one_size sizes fit))
    (single_placed t s k e h u r)
shaped t s k sizes (e ∷ d ∷ es) h u r fit = many_placed t s k sizes e d es h u r fit

-- an end takes no private step
pub end_rests : (t : TreeState) (s : Spot) (b : Option Term) (k : ℕ) → private_run t.job.clauses (levels_of s) (EndEntry b) (suc k) ≡ None
unfolding private_run
end_rests t s b zero = refl
end_rests t s b (suc k) = ap (λ o. if_any o (one_more t.job.clauses (levels_of s))) (end_rests t s b k)

published : (t : TreeState) (s : Spot) (k : ℕ) (sizes : List ℕ) (e : Entry) → IsAt t s → IsAwake e → IsOnWay (way_of (levels_of s)) e
    → (o : Option (List Entry)) → private_run t.job.clauses (levels_of s) (with_heights (levels_of s) e) k ≡ o
    → (nat_le 1 k && run_fits (length (levels_of s)) sizes o) ≡ true → IsSoundTree (run_placed s k sizes o t)
published t s k sizes e h a i None q fit = record { distinct = h.sound.distinct; fresh = h.sound.fresh; sound = h.sound.sound }
published t s k sizes (PlainEntry f) h a i (Some es) q fit = shaped t s k sizes es h i.asked
    (run_sound t.job.clauses (levels_of s) (PlainEntry f) k es (around_path (levels_of s) IsOpen h.placed.around) tt i q)
    (both_second (nat_le 1 k) _ fit)
  where
    both_second : (x y : Bool) → (x && y) ≡ true → y ≡ true
    both_second true y z = z
    both_second false y z = let no_way : ⊥ = cc in absurd no_way
published t s zero sizes (EndEntry b) h a i (Some es) q fit = let no_way : ⊥ = clash fit in absurd no_way
  where
    clash : false ≡ true → ⊥
    clash z = cc
published t s (suc k) sizes (EndEntry b) h a i (Some es) q fit = let n = end_rests t s b k in let no_way : ⊥ = clash (sym n ∙ q) in
    absurd no_way
  where
    clash : None ≡ Some es → ⊥
    clash z = cc
published t s k sizes (CatchEntry c r f) h a i (Some es) q fit = absurd a
published t s k sizes (FindallEntry results l f) h a i (Some es) q fit = absurd a

publish_sound : (t : TreeState) (w : ℕ) (a : Place) (k : ℕ) (sizes : List ℕ) → IsSoundTree t → is_allowed t (Nodes w a k sizes) ≡ true
    → IsSoundTree (after_allowed t (Nodes w a k sizes))
unfolding run_of
publish_sound t w a k sizes h l = go (taken_at w a t) refl l
  where
    go : (o : Option Spot) → taken_at w a t ≡ o → at_spot o (λ s. nat_le 1 k && run_fits (length (levels_of s)) sizes (run_of t s k))
        ≡ true → IsSoundTree (where_some o t (λ s. run_placed s k sizes (run_of t s k) t))
    go None e f = h
    go (Some s) e f =
        let at = known_at w a t s h e in
        published t s k sizes s.entry at (awake_entry s.hold s.entry at.opened at.placed.entry.1) at.placed.entry.0 (run_of t s k) refl f

-- each event keeps a tree sound
pub allowed_sound : (t : TreeState) (e : Event) → IsSoundTree t → is_allowed t e ≡ true → IsSoundTree (after_allowed t e)
allowed_sound t (Claim w a) h l = claim_sound t w h
allowed_sound t (Resume w a) h l = resume_sound t w h
allowed_sound t (Nodes w a k sizes) h l = publish_sound t w a k sizes h l
allowed_sound t (Empty w a k) h l = emptied_sound t w a _ h
allowed_sound t (Collected w a k) h l = emptied_sound t w a _ h
allowed_sound t (Lost w a) h l = record { distinct = h.distinct; fresh = h.fresh; sound = h.sound }
allowed_sound t (Suspend w a frozen) h l = suspend_sound t w a frozen h
allowed_sound t (Prune w a) h l = prune_sound t w a h
allowed_sound t (Answer w a frozen) h l = answer_sound t w a h
allowed_sound t (Stop w) h l = record { distinct = h.distinct; fresh = h.fresh; sound = h.sound }

pub event_sound : (t : TreeState) (e : Event) → IsSoundTree t → is_legal t e ≡ true → IsSoundTree (after_event t e)
unfolding is_legal after_event
event_sound t e h l =
    let k = allowed_sound t e h (and-right (is_none (ended t)) (is_allowed t e) (and-right (not t.stopped) _ l)) in
    record { distinct = k.distinct; fresh = k.fresh; sound = k.sound }

events_sound : (t : TreeState) (es : List Event) → IsSoundTree t → are_legal t es ≡ true → IsSoundTree (after_events t es)
events_sound t [] h l = h
events_sound t (e ∷ es) h l = go (is_legal t e) refl l (λ x y. events_sound (after_event t e) es x y)
  where
    go : (b : Bool) → is_legal t e ≡ b → (b && are_legal (after_event t e) es) ≡ true
        → (IsSoundTree (after_event t e) → are_legal (after_event t e) es ≡ true → IsSoundTree (after_events (after_event t e) es))
        → IsSoundTree (after_events (after_event t e) es)
    go true q k f = f (event_sound t e h q) k
    go false q k f = let no_way : ⊥ = cc in absurd no_way

root_sound : (qs : List Query) → IsSound [] (opening_root qs)
root_sound [] = tt
root_sound (q ∷ qs) = opened_sound 0 [] q refl

pub opening_sound : (job : Job) (budget window : ℕ) → IsSoundTree (opening_tree job budget window)
opening_sound job budget window = go job.queries
  where
    few : (m : ℕ) → one_if (0 == m) + (0 + (0 + 0)) ≤ 1
    few m = at_most (0 == m)
      where
        at_most : (b : Bool) → one_if b + (0 + (0 + 0)) ≤ 1
        at_most true = omega arith
        at_most false = omega arith

    later : (m : ℕ) → 1 ≤ m → one_if (0 == m) + (0 + (0 + 0)) ≡ 0
    later m l = let z : one_if (0 == m) ≡ 0 = ap one_if (not_equal 0 m l) in omega (arith, z)

    go : (qs : List Query) → IsSoundTree
        (record (opening_tree job budget window) { root = opening_root qs; next = nodes_below (opening_root qs) })
    go [] = record { distinct = λ m. omega arith; fresh = λ m l. refl; sound = tt }
    go (q ∷ qs) = record { distinct = few; fresh = λ m l. later m l; sound = root_sound (q ∷ qs) }

pub legal_sound : (job : Job) (budget window : ℕ) (es : List Event) → IsLegalHistory job budget window es
    → IsSoundTree (tree_after job budget window es)
legal_sound job budget window es l = events_sound (opening_tree job budget window) es (opening_sound job budget window) l
