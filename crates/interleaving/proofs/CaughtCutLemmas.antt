-- A cut keeps the marks, records and queries of a tree.
use Rattle.std.proofs.Common.{◌≡◌, inl, inr, ℕ, suc, ◌==◌, Bool, true, false, cond, List, [], ◌∷◌, length, Some, refl, sym, ◌∙◌, subst}
use Rattle.run_model.specs.Machine.Items.{Item, GoalItem, CatchMark, CollectMark, RemovalItem}
use Rattle.tree_model.specs.Nodes.{Kind, CatchNode, Alternatives, none, alternative, Status, Pending, Inner, Closed}
use Rattle.tree_model.specs.Levels.{Level, put_left, level_node, plug}
use Rattle.tree_model.specs.Orders.{levels_below}
use Rattle.tree_model.specs.Pruning.{emptied, pruned}
use Rattle.tree_model.specs.PendingLists.{Way, way_of}
use Rattle.tree_model.specs.Ways.{is_on, way_from, way_above, AreScoped}
use Rattle.tree_model.specs.SoundTrees.{IsOpen}
use Rattle.tree_model.specs.CaughtTrees.{catch_right, with_catch, MarksCaught, is_side, IsCaught, AreCaught, HaveNoQuery, AreNoQueryNodes}
use Rattle.tree_model.specs.CaughtTrees.{AreLast, IsUnspent, AreUnspent}
use Rattle.interleaving.proofs.ContextLemmas.{IsAround}
use Rattle.interleaving.proofs.WayLemmas.{cond-false, through-on, other_number}
use Rattle.interleaving.proofs.RoundtripLemmas.{part_from, part_above}
use Rattle.interleaving.proofs.ClockLemmas.{AreShut, AreClear}
use Rattle.interleaving.proofs.ListEndLemmas.{levels_down}
use Rattle.interleaving.proofs.ListScopeLemmas.{dormant_on, on-down}
use Rattle.interleaving.proofs.ListsSoundLemmas.{under_of}
use Rattle.interleaving.proofs.FoldLemmas.{CaughtAt}
use Rattle.interleaving.proofs.CaughtContextLemmas.{SameRight, Rests, AllRest, put_rests, unspent_put, IsCaughtRoot}
use Rattle.interleaving.proofs.CaughtClosingLemmas.{root_put}
use Rattle.interleaving.proofs.BallLevelLemmas.{clear_step}
use Rattle.au_term.proofs.LogicLemmas.{false_true}

-- marks of a way along which the same recoveries sleep
pub marks_agree : (old new : ℕ → Bool) (way : Way) (items : List (Item ℕ)) → ((r : ℕ) → is_on way r ≡ true → new r ≡ old r)
    → AreScoped way items → MarksCaught old items → MarksCaught new items
marks_agree old new way [] f h k = tt
marks_agree old new way (GoalItem t s ∷ items) f h k = marks_agree old new (way_from way s) items (λ r z. f r (part_from way s r z)) h.1 k
marks_agree old new way (CatchMark s ∷ items) f h k = (
  f s (through-on CatchNode way s h.0) ∙ k.0,
  marks_agree old new (way_above way s) items (λ r z. f r (part_above way s r z)) h.1
      k.1,
)
marks_agree old new way (CollectMark t s ∷ items) f h k = marks_agree old new (way_above way s) items
    (λ r z. f r (part_above way s r z)) h.1 k
marks_agree old new way (RemovalItem n ∷ items) f h k = marks_agree old new way items f h k

-- closed alternatives hold no marks
shut_put : (old new : ℕ → Bool) (under : Bool) (n : ℕ) (kind : Kind) (left : List (ℕ × Status)) (others more : Alternatives)
    → AreShut left → (AreCaught old under n kind (length left) others → AreCaught new under n kind (length left) more)
    → AreCaught old under n kind 0 (put_left left others) → AreCaught new under n kind 0 (put_left left more)
shut_put old new under n kind [] others more k f = f
shut_put old new under n kind ((sp, Pending hold e) ∷ left) others more k f = false_true k.0
shut_put old new under n kind ((sp, Inner node) ∷ left) others more k f = false_true k.0
shut_put old new under n kind ((sp, Closed c) ∷ left) others more k f = shut_put old new under n kind left
    (alternative sp (Closed c) others) (alternative sp (Closed c) more) k.1 (λ h. (h.0, f h.1))

emptied_caught : (sleeps : ℕ → Bool) (under : Bool) (n : ℕ) (kind : Kind) (i : ℕ) (others : Alternatives)
    → AreCaught sleeps under n kind i (emptied others)
emptied_caught sleeps under n kind i none = tt
emptied_caught sleeps under n kind i (alternative sp st others) = (inl refl, emptied_caught sleeps under n kind (suc i) others)

emptied_no_query : (others : Alternatives) → HaveNoQuery (emptied others)
emptied_no_query none = tt
emptied_no_query (alternative sp st others) = (tt, emptied_no_query others)

emptied_last : (sp : ℕ) (st : Status) (others : Alternatives) → AreLast (emptied (alternative sp st others))
emptied_last sp st none = tt
emptied_last sp st (alternative sq other others) = (tt, inl refl, emptied_last sq other others)

emptied_no_node : (others : Alternatives) → AreNoQueryNodes (emptied others)
emptied_no_node none = tt
emptied_no_node (alternative sp st others) = (tt, emptied_no_node others)

emptied_unspent : (others : Alternatives) → AreUnspent (emptied others)
emptied_unspent none = tt
emptied_unspent (alternative sp st others) = (tt, emptied_unspent others)

emptied_rests : (sp : ℕ) (old new : Status) (others : Alternatives) → Rests old new
    → AllRest (alternative sp old others) (alternative sp new (emptied others))
emptied_rests sp old new others r = record {
  no_query = λ h. (r.no_query h.0, emptied_no_query others);
  no_node = λ h. (r.no_node h.0, emptied_no_node others);
  last = last_at
      others;
}
  where
    last_at : (others : Alternatives) → AreLast (alternative sp old others) → AreLast (alternative sp new (emptied others))
    last_at none h = r.last h
    last_at (alternative sq st more) h = (r.no_query h.0, inr (emptied_no_node (alternative sq st more)), emptied_last sq st more)

-- a place whose marks look no lower than the scope
abbrev CutsAt : (ℕ → Type 0) → Level → List Level → Status → Status → Type 0
CutsAt kept v up old new = (sleeps : ℕ → Bool) → ((r : ℕ) → kept r → sleeps r ≡ dormant_on (v ∷ up) r) → CaughtAt (v ∷ up) old
    → IsCaught sleeps (is_side v.kind (length v.left)) (under_of up) new

abbrev IsOnWay : ℕ → List Level → ℕ → Type 0
IsOnWay s levels r = is_on (way_of (levels_down levels s)) r ≡ true

abbrev below : Level → Status → Status
below v new = Inner (level_node (record v { right = emptied v.right }) new)

one_up : (s : ℕ) (v u : Level) (up : List Level) (old new : Status) → (v.number == s) ≡ false → is_on (way_of (u ∷ up)) v.number ≡ false
    → AreShut v.left → CutsAt (IsOnWay s (v ∷ u ∷ up)) v (u ∷ up) old new → CutsAt (IsOnWay s (u ∷ up)) u up (Inner (level_node v old))
    (below v new)
one_up s v u up old new e off k c sleeps agree = shut_put (dormant_on (u ∷ up)) sleeps (under_of (u ∷ up)) v.number v.kind v.left
    (alternative v.spent old v.right) (alternative v.spent new (emptied v.right)) k
    (λ h. (
      c (with_catch v.number (catch_right (emptied v.right)) sleeps) agrees h.0,
      emptied_caught sleeps (under_of (u ∷ up)) v.number
          v.kind (suc (length v.left)) v.right,
    ))
  where
    agrees : (r : ℕ) → IsOnWay s (v ∷ u ∷ up) r → with_catch v.number (catch_right (emptied v.right)) sleeps r ≡ dormant_on (v ∷ u ∷ up) r
    agrees r h =
        let kept : is_on (way_of (levels_down (u ∷ up) s)) r
        ≡ true = subst (λ b. is_on (way_of (cond b (v ∷ u ∷ up) (levels_down (u ∷ up) s))) r ≡ true) e h in
        let on = on-down (u ∷ up) s r kept in
        let apart = other_number (way_of (u ∷ up)) v.number r off on (v.number == r) refl in
        cond-false (v.number == r) (catch_right (emptied v.right)) (sleeps r) apart
        ∙ (agree r kept ∙ sym (cond-false (v.number == r) (catch_right v.right) (dormant_on (u ∷ up) r) apart))

pub cut_root : (s : ℕ) (v : Level) (up : List Level) (old new : Status) → is_on (way_of (v ∷ up)) s ≡ true → IsAround (v ∷ up) IsOpen
    → AreClear (levels_below (Some s) (v ∷ up)) → CutsAt (IsOnWay s (v ∷ up)) v up old new → SameRight old new → Rests old new
    → ((sp : ℕ) → IsUnspent sp old → IsUnspent sp new) → IsCaughtRoot (plug (v ∷ up) old) → IsCaughtRoot (plug (pruned s (v ∷ up)) new)
cut_root s v [] old new on a k c e r u h = go (v.number == s) refl on
  where
    go : (b : Bool) → (v.number == s) ≡ b → cond b true false ≡ true
        → IsCaughtRoot (plug (cond b (v ∷ []) (record v { right = emptied v.right } ∷ [])) new)
    go true q o = root_put (v ∷ []) old new e (c (dormant_on (v ∷ [])) (λ m z. refl)) r u h
    go false q o = false_true o
cut_root s v (w ∷ up) old new on a k c e r u h = go (v.number == s) refl on
    (λ o l d. cut_root s w up (Inner (level_node v old)) (below v new) o a.1 l d (λ sp others. refl) rests
    (λ sp. unspent_put v.left (alternative v.spent old v.right) (alternative v.spent new (emptied v.right))
    (λ z. (u v.spent z.0, emptied_unspent v.right))) h)
  where
    rests : Rests (Inner (level_node v old)) (below v new)
    rests = let q = put_rests v.left (alternative v.spent old v.right) (alternative v.spent new (emptied v.right)) tt tt
        (emptied_rests v.spent old new v.right r) in record
        { no_query = λ z. (z.0, q.no_query z.1); no_node = λ z. (z.0, q.no_node z.1); closed = λ z. z; last = λ z. q.last z }

    go : (b : Bool) → (v.number == s) ≡ b → cond b true (is_on (way_of (w ∷ up)) s) ≡ true
        → (is_on (way_of (w ∷ up)) s ≡ true → AreClear (levels_below (Some s) (w ∷ up))
        → CutsAt (IsOnWay s (w ∷ up)) w up (Inner (level_node v old)) (below v new)
        → IsCaughtRoot (plug (pruned s (w ∷ up)) (below v new)))
        → IsCaughtRoot (plug (cond b (v ∷ w ∷ up) (record v { right = emptied v.right } ∷ pruned s (w ∷ up))) new)
    go true q o more = root_put (v ∷ w ∷ up) old new e (c (dormant_on (v ∷ w ∷ up)) (λ m z. refl)) r u h
    go false q o more =
        let shut = clear_step s v (w ∷ up) q k in
        more o shut.1 (one_up s v w up old new q a.0.new shut.0 c)
