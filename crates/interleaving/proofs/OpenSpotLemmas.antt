-- Events that only change who holds an entry keep a tree sound.
use Rattle.std.proofs.Common.{◌≡◌, ℕ, ◌+◌, ◌≤◌, Bool, true, false, cond, [], Option, Some, None, refl, sym, ap, ◌∙◌, subst, arith}
use Rattle.std.specs.Prelude.{find, ◌&&◌, ◌||◌, nat_lt}
use Rattle.run_model.specs.Machine.Entries.{Entry}
use Rattle.tree_model.specs.Nodes.{Hold, Ready, TakenBy, Waiting, Dormant, Status, Pending}
use Rattle.tree_model.specs.Levels.{plug, Place, same_place, Spot, levels_of, place_of_spot}
use Rattle.tree_model.specs.PendingLists.{way_of}
use Rattle.tree_model.specs.TreeStates.{TreeState, pending_spots, leftmost, live}
use Rattle.tree_model.specs.Legality.{is_ready, is_taken_by, is_spot_at, if_room, claimable, may_resume, resumable, taken_at}
use Rattle.tree_model.specs.Effects.{with_status, where_some}
use Rattle.tree_model.specs.Ways.{IsHeldBy}
use Rattle.tree_model.specs.SoundTrees.{count_below, IsOpen, profile, IsSound, IsSoundTree}
use Rattle.tree_model.proofs.CountLemmas.{count_around, count_plug}
use Rattle.interleaving.proofs.AppendLemmas.{found}
use Rattle.interleaving.proofs.PluggedLemmas.{IsIn, all_in}
use Rattle.interleaving.proofs.ContextLemmas.{IsAround, taken_out, live_at, live_open, put_in}
use Rattle.au_term.proofs.LogicLemmas.{and-left}

-- an alternative of the tree that is open
pub record IsOpenSpot (root : Status) (s : Spot) : Type 0 where
  pub inside : IsIn root s
  pub opened : profile (Pending s.hold s.entry) ≡ IsOpen

ready_open : (h : Hold) (e : Entry) → is_ready h ≡ true → profile (Pending h e) ≡ IsOpen
ready_open Ready e k = refl
ready_open (TakenBy w) e k = let no_way : ⊥ = cc in absurd no_way
ready_open (Waiting g) e k = let no_way : ⊥ = cc in absurd no_way
ready_open Dormant e k = let no_way : ⊥ = cc in absurd no_way

pub taken_open : (w : ℕ) (h : Hold) (e : Entry) → is_taken_by w h ≡ true → profile (Pending h e) ≡ IsOpen
taken_open w (TakenBy v) e k = refl
taken_open w Ready e k = let no_way : ⊥ = cc in absurd no_way
taken_open w (Waiting g) e k = let no_way : ⊥ = cc in absurd no_way
taken_open w Dormant e k = let no_way : ⊥ = cc in absurd no_way

waiting_open : (s : Spot) (h : Hold) (e : Entry) → may_resume s h ≡ true → profile (Pending h e) ≡ IsOpen
waiting_open s (Waiting g) e k = refl
waiting_open s Ready e k = let no_way : ⊥ = cc in absurd no_way
waiting_open s (TakenBy w) e k = let no_way : ⊥ = cc in absurd no_way
waiting_open s Dormant e k = let no_way : ⊥ = cc in absurd no_way

-- what may be handed out, and what is out
pub if_room-some : (t : TreeState) (o : Option Spot) (s : Spot) → if_room t o ≡ Some s → o ≡ Some s
if_room-some t None s h = h
if_room-some t (Some r) s h = go (is_spot_at (place_of_spot r) (leftmost t) || nat_lt (live t) t.window) h
  where
    go : (b : Bool) → cond b (Some r) None ≡ Some s → Some r ≡ Some s
    go true k = k
    go false k = let no_way : ⊥ = cc in absurd no_way

pub claimable_open : (t : TreeState) (s : Spot) → claimable t ≡ Some s → IsOpenSpot t.root s
claimable_open t s h =
    let f = found (IsIn t.root) (λ r. is_ready r.hold) (pending_spots t) s (all_in t.root)
    (if_room-some t (find (λ r. is_ready r.hold) (pending_spots t)) s h) in
    record { inside = f.holds; opened = ready_open s.hold s.entry f.passes }

pub resumable_open : (t : TreeState) (s : Spot) → resumable t ≡ Some s → IsOpenSpot t.root s
resumable_open t s h =
    let f = found (IsIn t.root) (λ r. may_resume r r.hold) (pending_spots t) s (all_in t.root) h in
    record { inside = f.holds; opened = waiting_open s s.hold s.entry f.passes }

pub taken_at_open : (w : ℕ) (a : Place) (t : TreeState) (s : Spot) → taken_at w a t ≡ Some s → IsOpenSpot t.root s
taken_at_open w a t s h =
    let f = found (IsIn t.root) (λ r. is_taken_by w r.hold && same_place a (place_of_spot r)) (pending_spots t) s (all_in t.root) h in
    record { inside = f.holds; opened = taken_open w s.hold s.entry (and-left (is_taken_by w s.hold) _ f.passes) }

-- round an open place, and the entry there
pub record IsPlaced (s : Spot) : Type 0 where
  pub around : IsAround (levels_of s) IsOpen
  pub entry : IsSound (way_of (levels_of s)) (Pending s.hold s.entry)

pub placed_at : (t : TreeState) (s : Spot) → IsSoundTree t → IsOpenSpot t.root s → IsPlaced s
placed_at t s h o =
    let k = taken_out (levels_of s) (Pending s.hold s.entry) (subst (IsSound []) (sym o.inside) h.sound) in
    record { around = subst (IsAround (levels_of s)) o.opened k.0; entry = k.1 }

pub count_at : (t : TreeState) (s : Spot) → IsOpenSpot t.root s → (n : ℕ) → count_below n t.root ≡ count_around n (levels_of s)
count_at t s o n =
    let h : count_below n (plug (levels_of s) (Pending s.hold s.entry)) ≡ count_around n (levels_of s) + 0 = count_plug n (levels_of s)
    (Pending s.hold s.entry) in
    let k : count_below n (plug (levels_of s) (Pending s.hold s.entry)) ≡ count_below n t.root = ap (count_below n) o.inside in
    omega (arith, h, k)

awake_by : (h k : Hold) (e : Entry) → profile (Pending h e) ≡ IsOpen → profile (Pending k e) ≡ IsOpen → IsHeldBy h e → IsHeldBy k e
awake_by h Dormant e o q i = tt
awake_by Ready Ready e o q i = i
awake_by Ready (TakenBy w) e o q i = i
awake_by Ready (Waiting g) e o q i = i
awake_by (TakenBy v) Ready e o q i = i
awake_by (TakenBy v) (TakenBy w) e o q i = i
awake_by (TakenBy v) (Waiting g) e o q i = i
awake_by (Waiting x) Ready e o q i = i
awake_by (Waiting x) (TakenBy w) e o q i = i
awake_by (Waiting x) (Waiting g) e o q i = i
awake_by Dormant Ready e o q i = let no_way : ⊥ = cc in absurd no_way
awake_by Dormant (TakenBy w) e o q i = let no_way : ⊥ = cc in absurd no_way
awake_by Dormant (Waiting g) e o q i = let no_way : ⊥ = cc in absurd no_way

-- another worker or none has the entry
pub hold_sound : (t : TreeState) (s : Spot) (h : Hold) → profile (Pending h s.entry) ≡ IsOpen → IsSoundTree t → IsOpenSpot t.root s
    → IsSoundTree (with_status s (Pending h s.entry) t)
hold_sound t s h open_new k o =
    let p = placed_at t s k o in
    let same : (n : ℕ) → count_below n (plug (levels_of s) (Pending h s.entry)) ≡ count_below n t.root = λ n. count_plug n (levels_of s)
    (Pending h s.entry) ∙ (let z : count_around n (levels_of s) + 0 ≡ count_around n (levels_of s) = omega arith in z)
    ∙ sym (count_at t s o n) in
    record {
      distinct = λ n. subst (λ m. m ≤ 1) (sym (same n)) (k.distinct n);
      fresh = λ n l. same n ∙ k.fresh n l;
      sound = put_in (levels_of s) (Pending h s.entry) (ap (live_at (levels_of s)) open_new ∙ live_open (levels_of s))
          (subst (IsAround (levels_of s)) (sym open_new) p.around) (p.entry.0, awake_by s.hold h s.entry o.opened open_new p.entry.1);
    }

-- handed out, or given back
pub some_sound : (t : TreeState) (o : Option Spot) (new : Spot → TreeState) → IsSoundTree t
    → ((s : Spot) → o ≡ Some s → IsSoundTree (new s)) → IsSoundTree (where_some o t new)
some_sound t None new k f = k
some_sound t (Some s) new k f = f s refl

pub claim_sound : (t : TreeState) (w : ℕ) → IsSoundTree t
    → IsSoundTree (where_some (claimable t) t (λ s. with_status s (Pending (TakenBy w) s.entry) t))
claim_sound t w k = some_sound t (claimable t) _ k (λ s e. hold_sound t s (TakenBy w) refl k (claimable_open t s e))

pub resume_sound : (t : TreeState) (w : ℕ) → IsSoundTree t
    → IsSoundTree (where_some (resumable t) t (λ s. with_status s (Pending (TakenBy w) s.entry) t))
resume_sound t w k = some_sound t (resumable t) _ k (λ s e. hold_sound t s (TakenBy w) refl k (resumable_open t s e))
