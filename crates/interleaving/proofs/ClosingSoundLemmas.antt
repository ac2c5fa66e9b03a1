-- Where an alternative closes, the tree stays sound.
use Rattle.std.proofs.Common.{◌≡◌, ℕ, suc, ◌+◌, ◌≤◌, ◌==◌, Bool, true, false, List, [], ◌∷◌, Option, Some, None, refl, sym, ap, ◌∙◌}
use Rattle.std.proofs.Common.{subst, arith}
use Rattle.au_term.specs.Term.{Term}
use Rattle.run_model.specs.Machine.Items.{Continuation}
use Rattle.run_model.specs.Machine.Entries.{Entry, PlainEntry, CatchEntry, FindallEntry, EndEntry}
use Rattle.tree_model.specs.Credits.{Credit, no_credit}
use Rattle.tree_model.specs.Nodes.{Kind, ChoiceNode, Ready, TakenBy, Waiting, Dormant, Alternatives, none, alternative, Status, Pending}
use Rattle.tree_model.specs.Nodes.{Inner, Closed, single}
use Rattle.tree_model.specs.Levels.{Level, plug}
use Rattle.tree_model.specs.Closing.{Grown, guarded, with_right, with_results, findall_goes_on, and_then, closed_credit, all_right}
use Rattle.tree_model.specs.Closing.{all_left, all_closed, folds, wakes, goal_side_closes, closes}
use Rattle.tree_model.specs.PendingLists.{Step, Way, way_of}
use Rattle.tree_model.specs.Ways.{is_on, in_reach, way_from, AreScoped, is_query, under_query, IsAsked, IsOnWay, IsAwake}
use Rattle.tree_model.specs.SoundTrees.{one_if, count_among, count_below, Profile, IsOpen, IsDormant, IsShut, profile, profiles, some_open}
use Rattle.tree_model.specs.SoundTrees.{IsSound}
use Rattle.tree_model.proofs.CountLemmas.{count_around, count_plug}
use Rattle.interleaving.proofs.ContextLemmas.{put_profiles, level_profiles, IsLevel, IsAround, live_at, put_open, put_in}
use Rattle.interleaving.proofs.WayLemmas.{cond-true, cond-false, cond-same, one_if-zero, off_way, below_new}
use Rattle.interleaving.proofs.ShapeLemmas.{sleeping, shape_shut, shape_woken, shape_gone, plain_awake, findall_kind}
use Rattle.au_term.proofs.LogicLemmas.{numbers_turned, number_same}

-- a root with the next number
pub record IsSoundGrown (g : Grown) : Type 0 where
  pub distinct : (m : ℕ) → count_below m g.root ≤ 1
  pub fresh : (m : ℕ) → g.next ≤ m → count_below m g.root ≡ 0
  pub sound : IsSound [] g.root

-- the numbers round a place
pub record IsFree (next : ℕ) (levels : List Level) : Type 0 where
  pub distinct : (m : ℕ) → count_around m levels ≤ 1
  pub fresh : (m : ℕ) → next ≤ m → count_around m levels ≡ 0

pub free-above : (next : ℕ) (v : Level) (up : List Level) → IsFree next (v ∷ up) → IsFree next up
free-above next v up f = record { distinct = λ m. omega (arith, f.distinct m); fresh = λ m l. omega (arith, f.fresh m l) }

-- a place closes, and nothing folds
shut_sound : (next : ℕ) (v : Level) (up : List Level) (c : Credit) → live_at (v ∷ up) IsShut ≡ true → IsLevel up v IsShut
    → IsAround up IsOpen → IsFree next (v ∷ up) → IsSoundGrown (record { root = plug (v ∷ up) (Closed c); next = next })
shut_sound next v up c l h k f =
    let counts : (m : ℕ) → count_below m (plug (v ∷ up) (Closed c)) ≡ count_around m (v ∷ up) + 0 = λ m. count_plug m (v ∷ up) (Closed c) in
    record {
      distinct = λ m. omega (arith, counts m, f.distinct m);
      fresh = λ m l. omega (arith, counts m, f.fresh m l);
      sound = put_in
          (v ∷ up) (Closed c) l (h, k) tt;
    }

live_up : (up : List Level) (v : Level) → some_open (level_profiles v IsShut) ≡ true → live_at (v ∷ up) IsShut ≡ true
live_up [] v h = refl
live_up (u ∷ up) v h = h

folds_sound : (next : ℕ) (v : Level) (up : List Level) (c : Credit) (o : Option Credit) (go : Credit → Grown)
    → (o ≡ None → some_open (level_profiles v IsShut) ≡ true) → IsLevel up v IsShut → IsAround up IsOpen → IsFree next (v ∷ up)
    → ((k : Credit) → IsSoundGrown (go k)) → IsSoundGrown (folds next v up c o go)
folds_sound next v up c None go l h k f g = shut_sound next v up c (live_up up v (l refl)) h k f
folds_sound next v [] c (Some total) go l h k f g = shut_sound next v [] c refl h k f
folds_sound next v (u ∷ up) c (Some total) go l h k f g = g _

-- where not all are closed, one is open
open_status : (status : Status) → closed_credit status ≡ None → (ps : List Profile) → some_open (profile status ∷ ps) ≡ true
open_status (Closed c) h ps = let no_way : ⊥ = cc in absurd no_way
open_status (Inner node) h ps = refl
open_status (Pending Ready e) h ps = refl
open_status (Pending (TakenBy w) e) h ps = refl
open_status (Pending (Waiting g) e) h ps = refl
open_status (Pending Dormant e) h ps = refl

open_after : (p : Profile) (ps : List Profile) → some_open ps ≡ true → some_open (p ∷ ps) ≡ true
open_after IsOpen ps h = refl
open_after IsShut ps h = h
open_after (IsDormant k) ps h = refl

open_right : (others : Alternatives) → all_right others ≡ None → some_open (profiles others) ≡ true
open_right none h = let no_way : ⊥ = cc in absurd no_way
open_right (alternative spent status others) h = go (closed_credit status) refl (all_right others) refl (open_right others) h
  where
    go : (a : Option Credit) → closed_credit status ≡ a → (b : Option Credit) → all_right others ≡ b
        → (all_right others ≡ None → some_open (profiles others) ≡ true) → and_then a b ≡ None
        → some_open (profile status ∷ profiles others) ≡ true
    go None e b q f k = open_status status e (profiles others)
    go (Some a) e None q f k = open_after (profile status) (profiles others) (f q)
    go (Some a) e (Some b) q f k = let no_way : ⊥ = cc in absurd no_way

open_left : (left : List (ℕ × Status)) (ps : List Profile) → all_left left ≡ None → some_open (put_profiles left ps) ≡ true
open_left [] ps h = let no_way : ⊥ = cc in absurd no_way
open_left (a ∷ left) ps h = go (all_left left) refl (closed_credit a.1) refl (open_left left (profile a.1 ∷ ps)) h
  where
    go : (x : Option Credit) → all_left left ≡ x → (y : Option Credit) → closed_credit a.1 ≡ y
        → (all_left left ≡ None → some_open (put_profiles left (profile a.1 ∷ ps)) ≡ true) → and_then x y ≡ None
        → some_open (put_profiles left (profile a.1 ∷ ps)) ≡ true
    go None e y q f k = f e
    go (Some x) e None q f k = put_open left (profile a.1 ∷ ps) (open_status a.1 q ps)
    go (Some x) e (Some y) q f k = let no_way : ⊥ = cc in absurd no_way

still_open : (v : Level) (c : Credit) → all_closed v c ≡ None → some_open (level_profiles v IsShut) ≡ true
still_open v c h = go (all_left v.left) refl (all_right v.right) refl h
  where
    go : (x : Option Credit) → all_left v.left ≡ x → (y : Option Credit) → all_right v.right ≡ y → and_then (and_then x (Some c)) y
        ≡ None → some_open (put_profiles v.left (IsShut ∷ profiles v.right)) ≡ true
    go None e y q k = open_left v.left (IsShut ∷ profiles v.right) e
    go (Some x) e None q k = put_open v.left (IsShut ∷ profiles v.right) (open_right v.right q)
    go (Some x) e (Some y) q k = let no_way : ⊥ = cc in absurd no_way

-- a new number is not that of a node
pub other : (m n : ℕ) → one_if (n == m) ≡ 0 → (n == m) ≡ false
other m n h = one_if-zero (n == m) h

one_at-most : (b : Bool) → one_if b ≤ 1
one_at-most true = omega arith
one_at-most false = omega arith

pub one_if-less : (n m : ℕ) → (suc n ≤ m) → one_if (n == m) ≡ 0
one_if-less n m h = go (n == m) refl
  where
    go : (b : Bool) → (n == m) ≡ b → one_if b ≡ 0
    go false e = refl
    go true e = let same : n ≡ m = grind arith in let no_way : ⊥ = omega arith in absurd no_way

-- after a first alternative that has closed, a node of one alternative is new
pub woken_sound : (next n : ℕ) (kind : Kind) (spent : ℕ) (right : Alternatives) (up : List Level) (c : Credit) (e : Entry) →
    let v : Level = record { number = n; kind = kind; left = []; spent = spent; right = right } in
    IsLevel up v IsOpen → IsAround up IsOpen → IsFree next (v ∷ up)
    → IsOnWay (record { node = next; index = 0; kind = ChoiceNode } ∷ record { node = n; index = 1; kind = kind } ∷ way_of up) e
    → IsAwake e → IsSoundGrown (wakes next v up c e)
woken_sound next n kind spent right up c e h k f o wake =
    let v : Level = record { number = n; kind = kind; left = []; spent = spent; right = right } in
    let new : Level = with_right (Inner (single next e)) v in
    let zero_here : count_around next (v ∷ up) ≡ 0 = f.fresh next (omega arith) in
    let parts : count_around next up + (one_if (n == next) + (0 + count_among next right)) ≡ 0 = zero_here in
    let not_here : one_if (n == next) ≡ 0 = omega (arith, parts) in
    let not_above : count_around next up ≡ 0 = omega (arith, parts) in
    let off : is_on (record { node = n; index = 1; kind = kind } ∷ way_of up) next
    ≡ false = cond-false (n == next) true (is_on (way_of up) next) (other next n not_here) ∙ off_way next up not_above in
    let level : IsLevel up new IsShut = record
    { new = h.new; shape = shape_woken kind; left = tt; right = ((off, refl, refl, ((o, wake), tt)), tt) } in
    let counts : (m : ℕ) → count_below m (plug (new ∷ up) (Closed c))
    ≡ (count_around m up + (one_if (n == m) + (0 + (((one_if (next == m) + (0 + 0)) + 0))))) + 0 = λ m. count_plug m (new ∷ up)
    (Closed c) in
    record {
      distinct = λ m. distinct_at m (counts m) (next == m) refl;
      fresh = λ m l. fresh_at m l (counts m);
      sound = put_in (new ∷ up) (Closed c) (live_up up new refl) (level, k) tt;
    }
  where
    whole : (m : ℕ) → count_around m up + (one_if (n == m) + (0 + count_among m right)) ≤ 1
    whole m = f.distinct m

    none_from : (m : ℕ) → next ≤ m → count_around m up + (one_if (n == m) + (0 + count_among m right)) ≡ 0
    none_from m l = f.fresh m l

    fresh_at : (m : ℕ) → suc next ≤ m
        → count_below m (plug (with_right (Inner (single next e))
        (record { number = n; kind = kind; left = []; spent = spent; right = right }) ∷ up) (Closed c))
        ≡ (count_around m up + (one_if (n == m) + (0 + (((one_if (next == m) + (0 + 0)) + 0))))) + 0
        → count_below m (plug (with_right (Inner (single next e))
        (record { number = n; kind = kind; left = []; spent = spent; right = right }) ∷ up) (Closed c)) ≡ 0
    fresh_at m l e = omega (arith, e, none_from m (omega arith), one_if-less next m l)

    distinct_at : (m : ℕ) → count_below m
        (plug (with_right (Inner (single next e)) (record { number = n; kind = kind; left = []; spent = spent; right = right }) ∷ up)
        (Closed c)) ≡ (count_around m up + (one_if (n == m) + (0 + (((one_if (next == m) + (0 + 0)) + 0))))) + 0 → (b : Bool)
        → (next == m) ≡ b → count_below m
        (plug (with_right (Inner (single next e)) (record { number = n; kind = kind; left = []; spent = spent; right = right }) ∷ up)
        (Closed c)) ≤ 1
    distinct_at m e true q = let same : next
        ≡ m = grind arith in omega (arith, e, none_from m (omega (arith, same)), one_at-most (next == m))
    distinct_at m e false q = let zero_new : one_if (next == m) ≡ 0 = ap one_if q in omega (arith, e, whole m, zero_new)

-- what follows a findall goes on after its goal side
goes_on : (next n : ℕ) (kind : Kind) (way : Way) (ts results : List Term) (l : Term) (f : Continuation ℕ) → (n == next) ≡ false
    → is_on way n ≡ false → IsAsked way f.items → is_query kind ≡ false →
    IsOnWay (record { node = next; index = 0; kind = ChoiceNode } ∷ record { node = n; index = 1; kind = kind } ∷ way)
    (findall_goes_on n (with_results ts (FindallEntry results l f)))
goes_on next n kind way [] results l f d o h q =
    let low : Step = record { node = n; index = 1; kind = kind } in
    let self : (n == n) ≡ true = number_same n in
    let reach : in_reach (low ∷ way) n ≡ true = cond-true (n == n) true _ self in
    let from : way_from (low ∷ way) n ≡ low ∷ way = cond-true (n == n) (low ∷ way) (way_from way n) self in
    let skip : way_from (record { node = next; index = 0; kind = ChoiceNode } ∷ low ∷ way) n
    ≡ low ∷ way = cond-false (next == n) _ (way_from (low ∷ way) n) (numbers_turned n next d) ∙ from in
    record {
      asked = cond-false (is_query kind) (1 == 0) (under_query way) q ∙ h.asked;
      scoped = (
        cond-same (next == n) true (in_reach (low ∷ way) n) reach,
        subst (λ w. AreScoped w f.items) (sym skip)
            (below_new low way f.items o refl h.scoped),
      );
    }
goes_on next n kind way (t ∷ ts) results l f d o h q = goes_on next n kind way ts _ l _ d o
    (record { asked = h.asked; scoped = h.scoped }) q

goes_awake : (n : ℕ) (ts results : List Term) (l : Term) (f : Continuation ℕ)
    → IsAwake (findall_goes_on n (with_results ts (FindallEntry results l f)))
goes_awake n [] results l f = tt
goes_awake n (t ∷ ts) results l f = goes_awake n ts _ l _

-- where nothing sleeps after it
awake_sound : (next n : ℕ) (kind : Kind) (left : List (ℕ × Status)) (spent : ℕ) (right : Alternatives) (up : List Level) (c : Credit)
    (go : Credit → Grown) → sleeping left right ≡ None →
    let v : Level = record { number = n; kind = kind; left = left; spent = spent; right = right } in
    IsLevel up v IsOpen → IsAround up IsOpen → IsFree next (v ∷ up) → ((k : Credit) → IsSoundGrown (go k))
    → IsSoundGrown (folds next v up c (all_closed v c) go)
awake_sound next n kind left spent right up c go d h k f g =
    let v : Level = record { number = n; kind = kind; left = left; spent = spent; right = right } in
    folds_sound next v up c (all_closed v c) go (still_open v c)
    (record { new = h.new; shape = shape_shut kind left right d h.shape; left = h.left; right = h.right }) k f g

-- the alternative at the innermost level closes
level_sound : (next n : ℕ) (kind : Kind) (left : List (ℕ × Status)) (spent : ℕ) (right : Alternatives) (up : List Level) (c : Credit)
    (go : Credit → Grown) →
    let v : Level = record { number = n; kind = kind; left = left; spent = spent; right = right } in
    IsLevel up v IsOpen → IsAround up IsOpen → IsFree next (v ∷ up) → ((k : Credit) → IsSoundGrown (go k))
    → IsSoundGrown (goal_side_closes next v up c (guarded v) go)
level_sound next n kind (a ∷ left) spent right up c go h k f g =
    awake_sound next n kind (a ∷ left) spent right up c go refl h k f g
level_sound next n kind [] spent none up c go h k f g =
    awake_sound next n kind [] spent none up c go refl h k f g
level_sound next n kind [] spent (alternative s (Inner node) others) up c go h k f g =
    awake_sound next n kind [] spent (alternative s (Inner node) others) up c go refl h k f g
level_sound next n kind [] spent (alternative s (Closed credit) others) up c go h k f g =
    awake_sound next n kind [] spent (alternative s (Closed credit) others) up c go refl h k f g
level_sound next n kind [] spent (alternative s (Pending Ready e) others) up c go h k f g =
    awake_sound next n kind [] spent (alternative s (Pending Ready e) others) up c go refl h k f g
level_sound next n kind [] spent (alternative s (Pending (TakenBy w) e) others) up c go h k f g =
    awake_sound next n kind [] spent (alternative s (Pending (TakenBy w) e) others) up c go refl h k f g
level_sound next n kind [] spent (alternative s (Pending (Waiting q) e) others) up c go h k f g =
    awake_sound next n kind [] spent (alternative s (Pending (Waiting q) e) others) up c go refl h k f g
level_sound next n kind [] spent (alternative s (Pending Dormant (PlainEntry p)) others) up c go h k f g = absurd
    (plain_awake kind (profiles others) h.shape)
level_sound next n kind [] spent (alternative s (Pending Dormant (EndEntry b)) others) up c go h k f g =
    woken_sound next n kind spent (alternative s (Pending Dormant (EndEntry b)) others) up c (EndEntry b) h k f refl tt
level_sound next n kind [] spent (alternative s (Pending Dormant (FindallEntry results l p)) others) up c go h k f g =
    let zero_here : count_around next up + (one_if (n == next) + (0 + (0 + count_among next others))) ≡ 0 = f.fresh next (omega arith) in
    let not_here : one_if (n == next) ≡ 0 = omega (arith, zero_here) in
    woken_sound next n kind spent (alternative s (Pending Dormant (FindallEntry results l p)) others) up _ _ h k f
    (goes_on next n kind (way_of up) c.records results l p (one_if-zero (n == next) not_here) h.new h.right.0.0
    (findall_kind kind (profiles others) h.shape)) (goes_awake n c.records results l p)
level_sound next n kind [] spent (alternative s (Pending Dormant (CatchEntry x r p)) others) up c go h k f g =
    let less : (m : ℕ) → count_around m up + (one_if (n == m) + (0 + (0 + count_among m others))) ≤ 1 = f.distinct in
    let zero_from : (m : ℕ) → next ≤ m → count_around m up + (one_if (n == m) + (0 + (0 + count_among m others))) ≡ 0 = f.fresh in
    let gone : Level = record { number = n; kind = kind; left = []; spent = spent; right = alternative 0 (Closed no_credit) none } in
    let level : IsLevel up gone IsShut = record { new = h.new; shape = shape_gone kind; left = tt; right = (tt, tt) } in
    folds_sound next gone up c (all_closed gone c) go (still_open gone c) level k
    (record { distinct = λ m. omega (arith, less m); fresh = λ m l. omega (arith, zero_from m l) }) g

pub closes_sound : (next : ℕ) (levels : List Level) (c : Credit) → IsAround levels IsOpen → IsFree next levels
    → IsSoundGrown (closes next levels c)
closes_sound next [] c h f = record { distinct = λ m. omega arith; fresh = λ m l. refl; sound = tt }
closes_sound next (v ∷ up) c h f = level_sound next v.number v.kind v.left v.spent v.right up c (closes next up) h.0 h.1 f
    (λ k. closes_sound next up k h.1 (free-above next v up f))
