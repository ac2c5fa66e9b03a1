-- New nodes below a place, and pruning round it.
use Rattle.std.proofs.Common.{◌≡◌, ℕ, suc, ◌+◌, ◌≤◌, ◌==◌, Bool, true, false, cond, List, [], ◌∷◌, length, refl, sym, ap, ◌∙◌, subst}
use Rattle.std.proofs.Common.{arith}
use Rattle.std.specs.Prelude.{◌&&◌}
use Rattle.au_model.specs.Terms.Each.{Each}
use Rattle.run_model.specs.Machine.Entries.{Entry, PlainEntry, CatchEntry, FindallEntry, EndEntry}
use Rattle.tree_model.specs.Nodes.{Kind, ChoiceNode, CatchNode, FindallNode, QueryNode, Ready, Numbered, Alternatives, none, alternative}
use Rattle.tree_model.specs.Nodes.{Status, Inner, entry_alternatives}
use Rattle.tree_model.specs.Levels.{Level, plug}
use Rattle.tree_model.specs.Pruning.{emptied, pruned}
use Rattle.tree_model.specs.Effects.{spending}
use Rattle.tree_model.specs.PendingLists.{Way, way_of, step_of}
use Rattle.tree_model.specs.Ways.{is_on, same_kind, stops_cuts, is_barrier, in_reach, IsAsked, IsOnWay, IsAwake}
use Rattle.tree_model.specs.SoundTrees.{one_if, count_among, count_below, Profile, IsOpen, IsDormant, IsShut, profile, profiles, is_live}
use Rattle.tree_model.specs.SoundTrees.{none_dormant, are_pair, is_shape, AreSound, IsSound}
use Rattle.tree_model.proofs.CountLemmas.{count_left, count_around, count_plug}
use Rattle.interleaving.proofs.ContextLemmas.{LeftSound, put_profiles, IsAround, live_at, live_open, put_in}
use Rattle.interleaving.proofs.WayLemmas.{off_way, below_new}
use Rattle.interleaving.proofs.ShapeLemmas.{none_dormant-put}
use Rattle.interleaving.proofs.RoundtripLemmas.{IsPath}
use Rattle.interleaving.proofs.ClosingSoundLemmas.{IsSoundGrown, IsFree, one_if-less}
use Rattle.au_term.proofs.LogicLemmas.{and-false}

-- a status put into a place
pub plug_sound : (next : ℕ) (levels : List Level) (status : Status) → profile status ≡ IsOpen → IsAround levels (profile status)
    → IsSound (way_of levels) status →
    ((m : ℕ) → count_around m levels + count_below m status ≤ 1)
    → ((m : ℕ) → next ≤ m → count_around m levels + count_below m status ≡ 0)
    → IsSoundGrown (record { root = plug levels status; next = next })
plug_sound next levels status o h k d f = record {
  distinct = λ m. subst (λ c. c ≤ 1) (sym (count_plug m levels status)) (d m);
  fresh = λ m l. count_plug m levels status ∙ f m l;
  sound = put_in levels status (ap (live_at levels) o ∙ live_open levels) h k;
}

-- entries that wait for nothing
abbrev pub IsReadyOn : Way → Entry → Type 0
IsReadyOn way (PlainEntry f) = IsAsked way f.items
IsReadyOn way (EndEntry b) = Unit {0}
IsReadyOn way (CatchEntry c r f) = ⊥
IsReadyOn way (FindallEntry results l f) = ⊥

pub ready_below : (way : Way) (n i : ℕ) (e : Entry) → is_on way n ≡ false → IsReadyOn way e
    → IsOnWay (record { node = n; index = i; kind = ChoiceNode } ∷ way) e
ready_below way n i (PlainEntry f) o h = record {
  asked = h.asked;
  scoped = below_new (record { node = n; index = i; kind = ChoiceNode }) way f.items o (and-false (i == 0))
      h.scoped;
}
ready_below way n i (EndEntry b) o h = refl
ready_below way n i (CatchEntry c r f) o h = absurd h
ready_below way n i (FindallEntry results l f) o h = absurd h

pub ready_awake : (way : Way) (e : Entry) → IsReadyOn way e → IsAwake e
ready_awake way (PlainEntry f) h = tt
ready_awake way (EndEntry b) h = tt
ready_awake way (CatchEntry c r f) h = h
ready_awake way (FindallEntry results l f) h = h

pub alternatives_sound : (way : Way) (n i : ℕ) (es : List Entry) → is_on way n ≡ false → Each (IsReadyOn way) es
    → AreSound way n ChoiceNode i (entry_alternatives Ready es)
alternatives_sound way n i [] o h = tt
alternatives_sound way n i (e ∷ es) o h = ((ready_below way n i e o h.0, ready_awake way e h.0), alternatives_sound way n (suc i) es o h.1)

pub alternatives_shape : (es : List Entry) → none_dormant (profiles (entry_alternatives Ready es)) ≡ true
alternatives_shape [] = refl
alternatives_shape (e ∷ es) = alternatives_shape es

alternatives_count : (m : ℕ) (es : List Entry) → count_among m (entry_alternatives Ready es) ≡ 0
alternatives_count m [] = refl
alternatives_count m (e ∷ es) = let h = alternatives_count m es in omega (arith, h)

-- a node of ready entries below a place
pub new_node_sound : (next : ℕ) (levels : List Level) (e : Entry) (ds : List Entry) → let es : List Entry = e ∷ ds in IsAround levels
    IsOpen → IsFree next levels → Each (IsReadyOn (way_of levels)) es →
    IsSoundGrown (record { root = plug levels (Inner (Numbered next ChoiceNode (entry_alternatives Ready es))); next = suc next })
new_node_sound next levels e ds h f k =
    let es : List Entry = e ∷ ds in
    let off : is_on (way_of levels) next ≡ false = off_way next levels (f.fresh next (omega arith)) in
    plug_sound (suc next) levels (Inner (Numbered next ChoiceNode (entry_alternatives Ready es))) refl h
    (off, alternatives_shape es, live_first (way_of levels), alternatives_sound (way_of levels) next 0 es off k)
    (λ m. few m (next == m) refl) (λ m l. zero_at m l)
  where
    es : List Entry
    es = e ∷ ds

    live_first : (way : Way) → is_live way (IsOpen ∷ profiles (entry_alternatives Ready ds)) ≡ true
    live_first [] = refl
    live_first (a ∷ way) = refl

    few : (m : ℕ) (b : Bool) → (next == m) ≡ b → count_around m levels +
        (one_if (next == m) + count_among m (entry_alternatives Ready es)) ≤ 1
    few m true q =
        let same : next ≡ m = grind arith in
        let one : one_if (next == m) ≡ 1 = ap one_if q in
        omega (arith, one, alternatives_count m es, f.fresh m (omega (arith, same)))
    few m false q = let zero_new : one_if (next == m) ≡ 0 = ap one_if q in omega (arith, zero_new, alternatives_count m es, f.distinct m)

    zero_at : (m : ℕ) → suc next ≤ m → count_around m levels + (one_if (next == m) + count_among m (entry_alternatives Ready es)) ≡ 0
    zero_at m l = omega (arith, one_if-less next m l, alternatives_count m es, f.fresh m (omega arith))

-- what was spent is none of it
pub spending_around : (k : ℕ) (levels : List Level) → IsAround levels IsOpen → IsAround (spending k levels) IsOpen
spending_around k [] h = h
spending_around k (v ∷ up) h = (record { new = h.0.new; shape = h.0.shape; left = h.0.left; right = h.0.right }, h.1)

pub spending_free : (k next : ℕ) (levels : List Level) → IsFree next levels → IsFree next (spending k levels)
spending_free k next [] f = f
spending_free k next (v ∷ up) f = record { distinct = f.distinct; fresh = f.fresh }

pub spending_way : (k : ℕ) (levels : List Level) → way_of (spending k levels) ≡ way_of levels
spending_way k [] = refl
spending_way k (v ∷ up) = refl

-- all numbers round a place differ
pub around_path : (levels : List Level) (p : Profile) → IsAround levels p → IsPath (way_of levels)
around_path [] p h = tt
around_path (v ∷ up) p h = (h.0.new, around_path up IsOpen h.1)

-- pruning
emptied_sound : (way : Way) (n : ℕ) (kind : Kind) (i : ℕ) (others : Alternatives) → AreSound way n kind i (emptied others)
emptied_sound way n kind i none = tt
emptied_sound way n kind i (alternative spent status others) = (tt, emptied_sound way n kind (suc i) others)

emptied_count : (m : ℕ) (others : Alternatives) → count_among m (emptied others) ≡ 0
emptied_count m none = refl
emptied_count m (alternative spent status others) = let h = emptied_count m others in omega (arith, h)

emptied_dormant : (others : Alternatives) → none_dormant (profiles (emptied others)) ≡ true
emptied_dormant none = refl
emptied_dormant (alternative spent status others) = emptied_dormant others

pub none_dormant-of : (left : List (ℕ × Status)) (ps : List Profile) → none_dormant (put_profiles left ps) ≡ true → none_dormant ps ≡ true
none_dormant-of [] ps h = h
none_dormant-of (a ∷ left) ps h = go (profile a.1) (none_dormant-of left (profile a.1 ∷ ps) h)
  where
    go : (p : Profile) → none_dormant (p ∷ ps) ≡ true → none_dormant ps ≡ true
    go IsOpen k = k
    go IsShut k = k
    go (IsDormant j) k = let no_way : ⊥ = cc in absurd no_way

pub no_three : (k : Kind) (left : List (ℕ × Status)) (x y z : Profile) (ps : List Profile)
    → are_pair k (put_profiles left (x ∷ y ∷ z ∷ ps)) ≡ true → ⊥
no_three k [] x y z ps h = cc
no_three k (a ∷ left) x y z ps h = no_three k left (profile a.1) x y (z ∷ ps) h

abbrev not_catch : Kind → Bool
not_catch CatchNode = false
not_catch ChoiceNode = true
not_catch FindallNode = true
not_catch QueryNode = true

pair_emptied : (k : Kind) (left : List (ℕ × Status)) (right : Alternatives) → ((length left == 0) && not_catch k) ≡ false
    → are_pair k (put_profiles left (IsOpen ∷ profiles right)) ≡ true
    → are_pair k (put_profiles left (IsOpen ∷ profiles (emptied right))) ≡ true
pair_emptied k [] none b h = h
pair_emptied k [] (alternative spent status none) b h = is_catch k b
  where
    is_catch : (k : Kind) → not_catch k ≡ false → same_kind k CatchNode ≡ true
    is_catch CatchNode e = refl
    is_catch ChoiceNode e = let no_way : ⊥ = cc in absurd no_way
    is_catch FindallNode e = let no_way : ⊥ = cc in absurd no_way
    is_catch QueryNode e = let no_way : ⊥ = cc in absurd no_way
pair_emptied k [] (alternative spent status (alternative more_spent other others)) b h = let no_way : ⊥ = cc in absurd no_way
pair_emptied k (a ∷ []) none b h = h
pair_emptied k (a ∷ []) (alternative spent status others) b h = absurd
    (no_three k [] (profile a.1) IsOpen (profile status) (profiles others) h)
pair_emptied k (a ∷ c ∷ left) right b h = absurd (no_three k left (profile c.1) (profile a.1) IsOpen (profiles right) h)

shape_emptied : (kind : Kind) (left : List (ℕ × Status)) (right : Alternatives) → ((length left == 0) && stops_cuts kind) ≡ false
    → is_shape kind (put_profiles left (IsOpen ∷ profiles right)) ≡ true
    → is_shape kind (put_profiles left (IsOpen ∷ profiles (emptied right))) ≡ true
shape_emptied ChoiceNode left right b h =
    none_dormant-put left (IsOpen ∷ profiles (emptied right)) (IsOpen ∷ profiles right)
    (emptied_dormant right ∙ sym (none_dormant-of left (IsOpen ∷ profiles right) h)) ∙ h
shape_emptied CatchNode left right b h = pair_emptied CatchNode left right (and-false (length left == 0)) h
shape_emptied FindallNode left right b h = pair_emptied FindallNode left right b h
shape_emptied QueryNode left right b h = pair_emptied QueryNode left right b h

pub pruned_way : (scope : ℕ) (levels : List Level) → way_of (pruned scope levels) ≡ way_of levels
pruned_way scope [] = refl
pruned_way scope (v ∷ up) = go (v.number == scope) (pruned_way scope up)
  where
    go : (b : Bool) → way_of (pruned scope up) ≡ way_of up
        → way_of (cond b (v ∷ up) (record v { right = emptied v.right } ∷ pruned scope up)) ≡ way_of (v ∷ up)
    go true h = refl
    go false h = ap (λ way. step_of v ∷ way) h

pub pruned_around : (scope : ℕ) (levels : List Level) → in_reach (way_of levels) scope ≡ true → IsAround levels IsOpen
    → IsAround (pruned scope levels) IsOpen
pruned_around scope [] r h = h
pruned_around scope (v ∷ up) r h = go (v.number == scope) (is_barrier (step_of v)) refl (pruned_around scope up) (pruned_way scope up) r
  where
    go : (b c : Bool) → is_barrier (step_of v) ≡ c
        → (in_reach (way_of up) scope ≡ true → IsAround up IsOpen → IsAround (pruned scope up) IsOpen) → way_of (pruned scope up)
        ≡ way_of up → cond b true (cond c false (in_reach (way_of up) scope)) ≡ true →
        IsAround (cond b (v ∷ up) (record v { right = emptied v.right } ∷ pruned scope up)) IsOpen
    go true c e f w k = h
    go false true e f w k = let no_way : ⊥ = cc in absurd no_way
    go false false e f w k = (
      record {
        new = subst (λ way. is_on way v.number ≡ false) (sym w) h.0.new;
        shape = shape_emptied v.kind v.left v.right e h.0.shape;
        left = subst (λ way. LeftSound way v.number v.kind v.left) (sym w) h.0.left;
        right = emptied_sound (way_of (pruned scope up)) v.number v.kind (suc (length v.left)) v.right;
      },
      f k h.1,
    )

pruned_count : (m scope : ℕ) (levels : List Level) → count_around m (pruned scope levels) ≤ count_around m levels
pruned_count m scope [] = omega arith
pruned_count m scope (v ∷ up) = go (v.number == scope) (pruned_count m scope up)
  where
    go : (b : Bool) → count_around m (pruned scope up) ≤ count_around m up
        → count_around m (cond b (v ∷ up) (record v { right = emptied v.right } ∷ pruned scope up)) ≤ count_around m up +
        (one_if (v.number == m) + (count_left m v.left + count_among m v.right))
    go true h = omega arith
    go false h = omega (arith, h, emptied_count m v.right)

pub pruned_free : (next scope : ℕ) (levels : List Level) → IsFree next levels → IsFree next (pruned scope levels)
pruned_free next scope levels f = record {
  distinct = λ m. omega (arith, pruned_count m scope levels, f.distinct m);
  fresh = λ m l.
      omega (arith, pruned_count m scope levels, f.fresh m l);
}
