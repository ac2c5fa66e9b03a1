-- What is kept where something takes another's place in a tree: marks, records, queries last, nothing spent.
use Rattle.std.proofs.Common.{◌≡◌, inl, inr, ℕ, Bool, true, false, List, [], ◌∷◌, length, refl, subst}
use Rattle.tree_model.specs.Nodes.{Kind, Alternatives, none, alternative, Numbered, Status, Pending, Inner, Closed}
use Rattle.tree_model.specs.Levels.{Level, put_left, level_node, plug}
use Rattle.tree_model.specs.Orders.{is_closed}
use Rattle.tree_model.specs.CaughtTrees.{catch_right, with_catch, is_side, IsCaught, AreCaught, HasNoQuery, HaveNoQuery, HasNoQueryNode}
use Rattle.tree_model.specs.CaughtTrees.{AreNoQueryNodes, IsDoneBefore, IsLastQuery, AreLast, IsUnspent, AreUnspent}
use Rattle.interleaving.proofs.ListScopeLemmas.{dormant_on}
use Rattle.interleaving.proofs.ListsSoundLemmas.{under_of}
use Rattle.interleaving.proofs.FoldLemmas.{CaughtAt}

-- some alternative
abbrev pub IsSome : Alternatives → Type 0
IsSome none = ⊥
IsSome (alternative spent status others) = Unit {0}

-- the first recovery that sleeps is told by the first alternative alone
same_first : (sp : ℕ) (st : Status) (old new : Alternatives) → catch_right (alternative sp st old) ≡ catch_right (alternative sp st new)
same_first sp (Pending hold e) old new = refl
same_first sp (Inner node) old new = refl
same_first sp (Closed c) old new = refl

-- marks and records
pub caught_put : (sleeps : ℕ → Bool) (under : Bool) (n : ℕ) (kind : Kind) (left : List (ℕ × Status)) (old new : Alternatives)
    → catch_right old ≡ catch_right new
    → (AreCaught sleeps under n kind (length left) old → AreCaught sleeps under n kind (length left) new)
    → AreCaught sleeps under n kind 0 (put_left left old) → AreCaught sleeps under n kind 0 (put_left left new)
caught_put sleeps under n kind [] old new e f = f
caught_put sleeps under n kind (x ∷ left) old new e f =
    caught_put sleeps under n kind left (alternative x.0 x.1 old) (alternative x.0 x.1 new) (same_first x.0 x.1 old new)
    (λ c. (subst (λ r. IsCaught (with_catch n r sleeps) (is_side kind (length left)) under x.1) e c.0, f c.1))

abbrev pub SameRight : Status → Status → Type 0
SameRight old new = (spent : ℕ) (others : Alternatives) → catch_right (alternative spent old others)
    ≡ catch_right (alternative spent new others)

abbrev pub RootCaught : Status → Type 0
RootCaught root = IsCaught (λ m. false) false false root

pub caught_plug : (levels : List Level) (old new : Status) → SameRight old new → (CaughtAt levels old → CaughtAt levels new)
    → RootCaught (plug levels old) → RootCaught (plug levels new)
caught_plug [] old new e f = f
caught_plug (v ∷ []) old new e f = caught_put (λ m. false) false v.number v.kind v.left (alternative v.spent old v.right)
    (alternative v.spent new v.right) (e v.spent v.right) (λ c. (f c.0, c.1))
caught_plug (v ∷ u ∷ up) old new e f =
    caught_plug (u ∷ up) (Inner (level_node v old)) (Inner (level_node v new)) (λ spent others. refl)
    (caught_put (dormant_on (u ∷ up)) (under_of (u ∷ up)) v.number v.kind v.left (alternative v.spent old v.right)
    (alternative v.spent new v.right) (e v.spent v.right) (λ c. (f c.0, c.1)))

-- the same for a level whose alternative and all to its right change
abbrev pub LevelCaught : List Level → Level → Alternatives → Type 0
LevelCaught up v others = AreCaught (dormant_on up) (under_of up) v.number v.kind (length v.left) others

abbrev pub with_others : Level → ℕ → Alternatives → Level
with_others v spent right = record v { spent = spent; right = right }

pub caught_level : (up : List Level) (v : Level) (old new : Status) (spent : ℕ) (right : Alternatives)
    → catch_right (alternative v.spent old v.right) ≡ catch_right (alternative spent new right)
    → (LevelCaught up v (alternative v.spent old v.right) → LevelCaught up v (alternative spent new right))
    → RootCaught (plug (v ∷ up) old) → RootCaught (plug (with_others v spent right ∷ up) new)
caught_level [] v old new spent right e f = caught_put (λ m. false) false v.number v.kind v.left (alternative v.spent old v.right)
    (alternative spent new right) e f
caught_level (u ∷ up) v old new spent right e f =
    caught_plug (u ∷ up) (Inner (level_node v old)) (Inner (level_node (with_others v spent right) new)) (λ s others. refl)
    (caught_put (dormant_on (u ∷ up)) (under_of (u ∷ up)) v.number v.kind v.left (alternative v.spent old v.right)
    (alternative spent new right) e f)

-- what is caught at the alternatives from a place on
pub caught_after : (sleeps : ℕ → Bool) (under : Bool) (n : ℕ) (kind : Kind) (left : List (ℕ × Status)) (others : Alternatives)
    → AreCaught sleeps under n kind 0 (put_left left others) → AreCaught sleeps under n kind (length left) others
caught_after sleeps under n kind [] others h = h
caught_after sleeps under n kind (x ∷ left) others h = (caught_after sleeps under n kind left (alternative x.0 x.1 others) h).1

pub caught_down : (levels : List Level) (status : Status) → RootCaught (plug levels status) → CaughtAt levels status
caught_down [] status h = h
caught_down (v ∷ []) status h = (caught_after (λ m. false) false v.number v.kind v.left (alternative v.spent status v.right) h).0
caught_down (v ∷ u ∷ up) status h =
    (caught_after (dormant_on (u ∷ up)) (under_of (u ∷ up)) v.number v.kind v.left (alternative v.spent status v.right)
    (caught_down (u ∷ up) (Inner (level_node v status)) h)).0

pub level_caught : (up : List Level) (v : Level) (status : Status) → RootCaught (plug (v ∷ up) status)
    → LevelCaught up v (alternative v.spent status v.right)
level_caught [] v status h = caught_after (λ m. false) false v.number v.kind v.left (alternative v.spent status v.right) h
level_caught (u ∷ up) v status h = caught_after (dormant_on (u ∷ up)) (under_of (u ∷ up)) v.number v.kind v.left
    (alternative v.spent status v.right) (caught_down (u ∷ up) (Inner (level_node v status)) h)

pub node_caught : (up : List Level) (v : Level) (status : Status) → RootCaught (plug (v ∷ up) status)
    → AreCaught (dormant_on up) (under_of up) v.number v.kind 0 (put_left v.left (alternative v.spent status v.right))
node_caught [] v status h = h
node_caught (u ∷ up) v status h = caught_down (u ∷ up) (Inner (level_node v status)) h

-- queries last
pub record Rests (old new : Status) : Type 0 where
  pub no_query : HasNoQuery old → HasNoQuery new
  pub no_node : HasNoQueryNode old → HasNoQueryNode new
  pub closed : is_closed old ≡ true → is_closed new ≡ true
  pub last : IsLastQuery old → IsLastQuery new

pub record AllRest (old new : Alternatives) : Type 0 where
  pub no_query : HaveNoQuery old → HaveNoQuery new
  pub no_node : AreNoQueryNodes old → AreNoQueryNodes new
  pub last : AreLast old → AreLast new

pub before_rests : (old new : Status) (others more : Alternatives) → (is_closed old ≡ true → is_closed new ≡ true)
    → (AreNoQueryNodes others → AreNoQueryNodes more) → IsDoneBefore old others → IsDoneBefore new more
before_rests old new others more f g (inl e) = inl (f e)
before_rests old new others more f g (inr h) = inr (g h)

pub first_rests : (sp sq : ℕ) (old new : Status) (others : Alternatives) → Rests old new
    → AllRest (alternative sp old others) (alternative sq new others)
first_rests sp sq old new others h = record
    { no_query = λ c. (h.no_query c.0, c.1); no_node = λ c. (h.no_node c.0, c.1); last = last_at others }
  where
    last_at : (others : Alternatives) → AreLast (alternative sp old others) → AreLast (alternative sq new others)
    last_at none c = h.last c
    last_at (alternative sr st more) c =
        (h.no_query c.0, before_rests old new (alternative sr st more) (alternative sr st more) h.closed (λ z. z) c.1, c.2)

after_rests : (sp : ℕ) (st : Status) (old new : Alternatives) → IsSome old → IsSome new → AllRest old new
    → AllRest (alternative sp st old) (alternative sp st new)
after_rests sp st none new p q h = absurd p
after_rests sp st (alternative x y z) none p q h = absurd q
after_rests sp st (alternative x y z) (alternative u v w) p q h = record {
  no_query = λ c. (c.0, h.no_query c.1);
  no_node = λ c. (c.0, h.no_node c.1);
  last = λ c. (c.0, before_rests st st (alternative x y z) (alternative u v w) (λ k. k) h.no_node c.1, h.last c.2);
}

pub put_rests : (left : List (ℕ × Status)) (old new : Alternatives) → IsSome old → IsSome new → AllRest old new
    → AllRest (put_left left old) (put_left left new)
put_rests [] old new p q h = h
put_rests (x ∷ left) old new p q h = put_rests left (alternative x.0 x.1 old) (alternative x.0 x.1 new) tt tt
    (after_rests x.0 x.1 old new p q h)

-- of nodes
pub node_rests : (n : ℕ) (kind : Kind) (old new : Alternatives) → AllRest old new
    → Rests (Inner (Numbered n kind old)) (Inner (Numbered n kind new))
node_rests n kind old new k = record
    { no_query = λ c. (c.0, k.no_query c.1); no_node = λ c. (c.0, k.no_node c.1); closed = λ c. c; last = λ c. k.last c }

pub rests_plug : (levels : List Level) (old new : Status) → Rests old new → Rests (plug levels old) (plug levels new)
rests_plug [] old new h = h
rests_plug (v ∷ up) old new h =
    rests_plug up (Inner (level_node v old)) (Inner (level_node v new))
    (node_rests v.number v.kind _ _
    (put_rests v.left (alternative v.spent old v.right) (alternative v.spent new v.right) tt tt
    (first_rests v.spent v.spent old new v.right h)))

pub rests_level : (up : List Level) (v : Level) (old new : Status) (spent : ℕ) (right : Alternatives)
    → AllRest (alternative v.spent old v.right) (alternative spent new right)
    → Rests (plug (v ∷ up) old) (plug (with_others v spent right ∷ up) new)
rests_level up v old new spent right h =
    rests_plug up (Inner (level_node v old)) (Inner (level_node (with_others v spent right) new))
    (node_rests v.number v.kind _ _ (put_rests v.left (alternative v.spent old v.right) (alternative spent new right) tt tt h))

-- nothing spent
pub unspent_put : (left : List (ℕ × Status)) (old new : Alternatives) → (AreUnspent old → AreUnspent new)
    → AreUnspent (put_left left old) → AreUnspent (put_left left new)
unspent_put [] old new f = f
unspent_put (x ∷ left) old new f = unspent_put left (alternative x.0 x.1 old) (alternative x.0 x.1 new) (λ c. (c.0, f c.1))

pub unspent_nodes : (up : List Level) (old new : Status) → ((sp : ℕ) → IsUnspent sp old → IsUnspent sp new) → IsUnspent 0 (plug up old)
    → IsUnspent 0 (plug up new)
unspent_nodes [] old new f = f 0
unspent_nodes (v ∷ up) old new f = unspent_nodes up (Inner (level_node v old)) (Inner (level_node v new))
    (λ sp c. unspent_put v.left (alternative v.spent old v.right) (alternative v.spent new v.right) (λ d. (f v.spent d.0, d.1)) c)

pub unspent_level : (up : List Level) (v : Level) (old new : Status) (spent : ℕ) (right : Alternatives)
    → (AreUnspent (alternative v.spent old v.right) → AreUnspent (alternative spent new right)) → IsUnspent 0 (plug (v ∷ up) old)
    → IsUnspent 0 (plug (with_others v spent right ∷ up) new)
unspent_level up v old new spent right f = unspent_nodes up (Inner (level_node v old))
    (Inner (level_node (with_others v spent right) new))
    (λ sp c. unspent_put v.left (alternative v.spent old v.right) (alternative spent new right) f c)

-- a root with all three
pub record IsCaughtRoot (root : Status) : Type 0 where
  pub caught : RootCaught root
  pub last : IsLastQuery root
  pub unspent : IsUnspent 0 root

-- queries of a part of a tree
pub last_put : (left : List (ℕ × Status)) (others : Alternatives) → IsSome others → AreLast (put_left left others) → AreLast others
last_put [] others p h = h
last_put (x ∷ left) others p h = behind others p (last_put left (alternative x.0 x.1 others) tt h)
  where
    behind : (others : Alternatives) → IsSome others → AreLast (alternative x.0 x.1 others) → AreLast others
    behind none p h = absurd p
    behind (alternative sp st more) p h = h.2

first_last : (sp : ℕ) (status : Status) (right : Alternatives) → (HasNoQuery status → IsLastQuery status)
    → AreLast (alternative sp status right) → IsLastQuery status
first_last sp status none f h = h
first_last sp status (alternative sq st more) f h = f h.0

mutual
  pub none_last : (status : Status) → HasNoQuery status → IsLastQuery status
  none_last (Pending hold e) h = tt
  none_last (Closed c) h = tt
  none_last (Inner (Numbered n kind alternatives)) h = none_last_among alternatives h.1

  none_last_among : (others : Alternatives) → HaveNoQuery others → AreLast others
  none_last_among none h = tt
  none_last_among (alternative sp status none) h = none_last status h.0
  none_last_among (alternative sp status (alternative sq other others)) h =
      (h.0, inr (no_nodes_among (alternative sq other others) h.1), none_last_among (alternative sq other others) h.1)

  pub no_nodes : (status : Status) → HasNoQuery status → HasNoQueryNode status
  no_nodes (Pending hold e) h = tt
  no_nodes (Closed c) h = tt
  no_nodes (Inner (Numbered n kind alternatives)) h = (h.0, no_nodes_among alternatives h.1)

  no_nodes_among : (others : Alternatives) → HaveNoQuery others → AreNoQueryNodes others
  no_nodes_among none h = tt
  no_nodes_among (alternative sp status others) h = (no_nodes status h.0, no_nodes_among others h.1)

pub last_down : (levels : List Level) (status : Status) → IsLastQuery (plug levels status) → IsLastQuery status
last_down [] status h = h
last_down (v ∷ up) status h = first_last v.spent status v.right (none_last status)
    (last_put v.left (alternative v.spent status v.right) tt (last_down up (Inner (level_node v status)) h))

pub last_at : (up : List Level) (v : Level) (status : Status) → IsLastQuery (plug (v ∷ up) status)
    → AreLast (put_left v.left (alternative v.spent status v.right))
last_at up v status h = last_down up (Inner (level_node v status)) h
