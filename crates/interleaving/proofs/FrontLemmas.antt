-- The leftmost pending alternative is open, and all to its left is closed.
use Rattle.std.proofs.Common.{◌≡◌, ℕ, suc, Bool, true, false, cond, List, [], ◌∷◌, ◌++◌, length, Option, Some, None, refl, sym, ap, ◌∙◌}
use Rattle.std.proofs.Common.{subst}
use Rattle.run_model.specs.Machine.Entries.{Entry}
use Rattle.tree_model.specs.Nodes.{Kind, ChoiceNode, CatchNode, FindallNode, QueryNode, Hold, Ready, TakenBy, Waiting, Dormant, Node}
use Rattle.tree_model.specs.Nodes.{Numbered, Alternatives, none, alternative, Status, Pending, Inner, Closed}
use Rattle.tree_model.specs.Levels.{Level, put_left, level_node, plug, Place, Spot, levels_of, pending_in, pending_among, pending_of}
use Rattle.tree_model.specs.Orders.{is_node, levels_below, is_closed, first_open_left, first_open}
use Rattle.tree_model.specs.Pruning.{Task, tasks_among, tasks_below}
use Rattle.tree_model.specs.PendingLists.{Step, Way}
use Rattle.tree_model.specs.SoundTrees.{Profile, IsOpen, IsDormant, IsShut, guards, profile, profiles, is_pair, are_pair, is_shape}
use Rattle.tree_model.specs.SoundTrees.{some_open, IsSoundNode, AreSound, IsSound}
use Rattle.interleaving.proofs.ContextLemmas.{put_profiles}
use Rattle.interleaving.proofs.GrowingLemmas.{none_dormant-of, no_three}

-- a list of pending alternatives and its first
pub record IsFront (up : List Level) (spots : List Spot) : Type 0 where
  pub first : Spot
  pub others : List Spot
  pub joined : spots ≡ first ∷ others
  pub clear : first_open (levels_of first) ≡ first_open up
  pub opened : profile (Pending first.hold first.entry) ≡ IsOpen

-- alternatives to the left that are all closed
abbrev AreShut : List (ℕ × Status) → Type 0
AreShut [] = Unit {0}
AreShut (a ∷ left) = (is_closed a.1 ≡ true) × AreShut left

shut_left : (n : ℕ) (left : List (ℕ × Status)) → AreShut left → first_open_left n left ≡ None
shut_left n [] h = refl
shut_left n (a ∷ left) h = go (first_open_left n left) (shut_left n left h.1) (is_closed a.1) h.0
  where
    go : (o : Option Place) → o ≡ None → (b : Bool) → b ≡ true
        → elim o as (λ q. Option Place) [ Some p ↦ Some p | None ↦ cond b None (Some (record { node = n; index = length left })) ]
        ≡ None
    go None e true c = refl
    go None e false c = let no_way : ⊥ = cc in absurd no_way
    go (Some p) e b c = let no_way : ⊥ = cc in absurd no_way

clear_level : (v : Level) (up : List Level) → first_open_left v.number v.left ≡ None → first_open (v ∷ up) ≡ first_open up
clear_level v up h = go (first_open up)
  where
    go : (o : Option Place) → elim o as (λ q. Option Place) [ Some p ↦ Some p | None ↦ first_open_left v.number v.left ] ≡ o
    go None = h
    go (Some p) = refl

closed_shut : (status : Status) → is_closed status ≡ true → profile status ≡ IsShut
closed_shut (Closed c) h = refl
closed_shut (Inner node) h = let no_way : ⊥ = cc in absurd no_way
closed_shut (Pending hold e) h = let no_way : ⊥ = cc in absurd no_way

-- nothing sleeps after what has closed
asleep : (kind : Kind) (left : List (ℕ × Status)) (k : Kind) (ps : List Profile) → AreShut left
    → is_shape kind (put_profiles left (IsDormant k ∷ ps)) ≡ true → ⊥
asleep kind left k ps a h = pick kind h
  where
    clash : false ≡ true → ⊥
    clash z = cc

    pair : (j : Kind) (left : List (ℕ × Status)) (ps : List Profile) → AreShut left → are_pair j (put_profiles left (IsDormant k ∷ ps))
        ≡ true → ⊥
    pair j [] [] a h = clash h
    pair j [] (p ∷ []) a h = clash h
    pair j [] (p ∷ q ∷ ps) a h = clash h
    pair j (x ∷ []) [] a h = clash (subst (λ p. is_pair j p (IsDormant k) ≡ true) (closed_shut x.1 a.0) h)
    pair j (x ∷ []) (p ∷ ps) a h = no_three j [] (profile x.1) (IsDormant k) p ps h
    pair j (x ∷ y ∷ left) ps a h = no_three j left (profile y.1) (profile x.1) (IsDormant k) ps h

    pick : (j : Kind) → is_shape j (put_profiles left (IsDormant k ∷ ps)) ≡ true → ⊥
    pick ChoiceNode h = clash (none_dormant-of left (IsDormant k ∷ ps) h)
    pick CatchNode h = pair CatchNode left ps a h
    pick FindallNode h = pair FindallNode left ps a h
    pick QueryNode h = pair QueryNode left ps a h

awake_hold : (kind : Kind) (left : List (ℕ × Status)) (hold : Hold) (e : Entry) (ps : List Profile) → AreShut left
    → is_shape kind (put_profiles left (profile (Pending hold e) ∷ ps)) ≡ true → profile (Pending hold e) ≡ IsOpen
awake_hold kind left Ready e ps a h = refl
awake_hold kind left (TakenBy w) e ps a h = refl
awake_hold kind left (Waiting g) e ps a h = refl
awake_hold kind left Dormant e ps a h = absurd (asleep kind left (guards e) ps a h)

mutual
  front_node : (step : Step) (way : Way) (up : List Level) (node : Node) → IsSoundNode (step ∷ way) node → IsFront up (pending_in up node)
  front_node step way up (Numbered n kind alternatives) h = front_alternatives (step ∷ way) up n kind 0 [] alternatives h.3 h.1 tt h.2

  front_alternatives : (way : Way) (up : List Level) (n : ℕ) (kind : Kind) (i : ℕ) (left : List (ℕ × Status)) (others : Alternatives)
      → AreSound way n kind i others → is_shape kind (put_profiles left (profiles others)) ≡ true → AreShut left
      → some_open (profiles others) ≡ true → IsFront up (pending_among up n kind left others)
  front_alternatives way up n kind i left none h s a o = let no_way : ⊥ = cc in absurd no_way
  front_alternatives way up n kind i left (alternative spent (Closed c) others) h s a o = front_alternatives way up n kind (suc i)
      ((spent, Closed c) ∷ left) others h.1 s (refl, a) o
  front_alternatives way up n kind i left (alternative spent (Pending hold e) others) h s a o =
      let v : Level = record { number = n; kind = kind; left = left; spent = spent; right = others } in
      record {
        first = record { level = v; above = up; hold = hold; entry = e };
        others = _;
        joined = refl;
        clear = clear_level v up
            (shut_left n left a);
        opened = awake_hold kind left hold e (profiles others) a s;
      }
  front_alternatives way up n kind i left (alternative spent (Inner node) others) h s a o =
      let v : Level = record { number = n; kind = kind; left = left; spent = spent; right = others } in
      let f = front_node (record { node = n; index = i; kind = kind }) way (v ∷ up) node h.0 in
      let rest = pending_among up n kind ((spent, Inner node) ∷ left) others in
      record {
        first = f.first;
        others = f.others ++ rest;
        joined = ap (λ spots. spots ++ rest) f.joined;
        clear = f.clear
            ∙ clear_level v up (shut_left n left a);
        opened = f.opened;
      }

-- where no alternative is open nothing is pending
none_pending : (up : List Level) (n : ℕ) (kind : Kind) (left : List (ℕ × Status)) (others : Alternatives) → some_open (profiles others)
    ≡ false → pending_among up n kind left others ≡ []
none_pending up n kind left none h = refl
none_pending up n kind left (alternative spent (Closed c) others) h = none_pending up n kind ((spent, Closed c) ∷ left) others h
none_pending up n kind left (alternative spent (Inner node) others) h = let no_way : ⊥ = cc in absurd no_way
none_pending up n kind left (alternative spent (Pending Ready e) others) h = let no_way : ⊥ = cc in absurd no_way
none_pending up n kind left (alternative spent (Pending (TakenBy w) e) others) h = let no_way : ⊥ = cc in absurd no_way
none_pending up n kind left (alternative spent (Pending (Waiting g) e) others) h = let no_way : ⊥ = cc in absurd no_way
none_pending up n kind left (alternative spent (Pending Dormant e) others) h = let no_way : ⊥ = cc in absurd no_way

root_front : (n : ℕ) (kind : Kind) (alternatives : Alternatives) → IsSoundNode [] (Numbered n kind alternatives)
    → (s : Spot) (ss : List Spot) → pending_among [] n kind [] alternatives ≡ s ∷ ss
    → IsFront [] (pending_among [] n kind [] alternatives)
root_front n kind alternatives h s ss e = go (some_open (profiles alternatives)) refl
  where
    go : (b : Bool) → some_open (profiles alternatives) ≡ b → IsFront [] (pending_among [] n kind [] alternatives)
    go true o = front_alternatives [] [] n kind 0 [] alternatives h.3 h.1 tt o
    go false o = let no_way : ⊥ = clash (sym (none_pending [] n kind [] alternatives o) ∙ e) in absurd no_way
      where
        clash : [] ≡ s ∷ ss → ⊥
        clash z = cc

-- the first pending alternative of a sound tree
pub leftmost_front : (root : Status) → IsSound [] root → (s : Spot) (ss : List Spot) → pending_of root ≡ s ∷ ss
    → IsFront [] (pending_of root)
leftmost_front (Closed c) h s ss e = let no_way : ⊥ = cc in absurd no_way
leftmost_front (Pending hold x) h s ss e = let no_way : ⊥ = cc in absurd no_way
leftmost_front (Inner (Numbered n kind alternatives)) h s ss e = root_front n kind alternatives h s ss e

-- a task that is out is found
tasks_put : (n : ℕ) (left : List (ℕ × Status)) (others : Alternatives) → tasks_among n 0 (put_left left others) ≡ []
    → tasks_among n (length left) others ≡ []
tasks_put n [] others h = h
tasks_put n (a ∷ left) others h = back (tasks_below n (length left) a.1) _ (tasks_put n left (alternative a.0 a.1 others) h)
  where
    back : (xs ys : List Task) → xs ++ ys ≡ [] → ys ≡ []
    back [] ys e = e
    back (x ∷ xs) ys e = let no_way : ⊥ = cc in absurd no_way

pub tasks_plug : (levels : List Level) (status : Status) → ((n i : ℕ) → tasks_below n i status ≡ [] → ⊥) → (n i : ℕ)
    → tasks_below n i (plug levels status) ≡ [] → ⊥
tasks_plug [] status f n i h = f n i h
tasks_plug (v ∷ up) status f n i h = tasks_plug up (Inner (level_node v status))
    (λ m j k. f v.number (length v.left)
    (front (tasks_below v.number (length v.left) status) _ (tasks_put v.number v.left (alternative v.spent status v.right) k))) n i h
  where
    front : (xs ys : List Task) → xs ++ ys ≡ [] → xs ≡ []
    front [] ys e = refl
    front (x ∷ xs) ys e = let no_way : ⊥ = cc in absurd no_way
