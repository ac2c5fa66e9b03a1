-- Where an alternative closes, the tree keeps its marks, records and queries.
use Rattle.std.proofs.Common.{◌≡◌, ◌⊎◌, inl, inr, ℕ, suc, ◌==◌, Bool, true, false, List, [], ◌∷◌, ◌++◌, length, Option, Some, None, refl}
use Rattle.std.proofs.Common.{sym, ap, ◌∙◌, subst, arith}
use Rattle.std.specs.Prelude.{◌||◌}
use Rattle.au_term.specs.Term.{Term}
use Rattle.run_model.specs.Machine.Items.{Item, GoalItem, CatchMark, CollectMark, RemovalItem, Continuation}
use Rattle.run_model.specs.Machine.Entries.{Entry, PlainEntry, CatchEntry, FindallEntry, EndEntry}
use Rattle.tree_model.specs.Credits.{Credit, no_credit, added, credit_of, without_records}
use Rattle.tree_model.specs.Nodes.{Kind, CatchNode, Dormant, Alternatives, none, alternative, Status, Pending, Inner, Closed, single}
use Rattle.tree_model.specs.Levels.{Level, put_left, level_node, plug}
use Rattle.tree_model.specs.Closing.{with_right, with_results, findall_goes_on, guarded, and_then, all_right, all_left, all_closed, folds}
use Rattle.tree_model.specs.Closing.{wakes, goal_side_closes, closes}
use Rattle.tree_model.specs.PendingLists.{Way, way_of}
use Rattle.tree_model.specs.Ways.{is_on, way_from, way_above, AreScoped, IsOnWay}
use Rattle.tree_model.specs.SoundTrees.{Profile, IsOpen, AreSound}
use Rattle.tree_model.specs.CaughtTrees.{catch_right, with_catch, MarksCaught, EntryCaught, is_side, AreCaught, IsNoEnd, IsUnspent}
use Rattle.tree_model.proofs.CountLemmas.{count_around}
use Rattle.interleaving.proofs.ContextLemmas.{IsLevel, IsAround}
use Rattle.interleaving.proofs.WayLemmas.{cond-false, through-on, other_number, off_way}
use Rattle.interleaving.proofs.RoundtripLemmas.{part_from, part_above}
use Rattle.interleaving.proofs.ClosingSoundLemmas.{IsFree, free-above}
use Rattle.interleaving.proofs.ClosingListLemmas.{guards_of, no_side}
use Rattle.interleaving.proofs.ListScopeLemmas.{dormant_on}
use Rattle.interleaving.proofs.FoldLemmas.{CaughtAt}
use Rattle.interleaving.proofs.ListsSoundLemmas.{under_of}
use Rattle.interleaving.proofs.CaughtContextLemmas.{caught_plug, caught_level, caught_after, caught_down, Rests, AllRest, rests_plug}
use Rattle.interleaving.proofs.CaughtContextLemmas.{rests_level, unspent_nodes, unspent_level, IsCaughtRoot}
use Rattle.au_term.proofs.LogicLemmas.{false_true}

-- records are below the goal side of a findall alone
abbrev pub RecordsUnder : List Level → Credit → Type 0
RecordsUnder levels c = (c.records ≡ []) ⊎ (under_of levels ≡ true)

abbrev pub RecordsAt : List Level → Level → Credit → Type 0
RecordsAt up v c = (c.records ≡ []) ⊎ ((is_side v.kind (length v.left) ≡ false) × (under_of up ≡ true))

-- a status takes another's place
pub root_put : (levels : List Level) (old new : Status)
    → ((spent : ℕ) (others : Alternatives) → catch_right (alternative spent old others) ≡ catch_right (alternative spent new others))
    → (CaughtAt levels old → CaughtAt levels new) → Rests old new → ((sp : ℕ) → IsUnspent sp old → IsUnspent sp new)
    → IsCaughtRoot (plug levels old) → IsCaughtRoot (plug levels new)
root_put levels old new e f r u h = record {
  caught = caught_plug levels old new e f h.caught;
  last = (rests_plug levels old new r).last h.last;
  unspent = unspent_nodes levels
      old new u h.unspent;
}

pub closed_rests : (old : Status) (c : Credit) → Rests old (Closed c)
closed_rests old c = record { no_query = λ h. tt; no_node = λ h. tt; closed = λ h. refl; last = λ h. tt }

-- a place that closes, no goal side of a findall
shut : (v : Level) (up : List Level) (c : Credit) → is_side v.kind (length v.left) ≡ false
    → IsCaughtRoot (plug (v ∷ up) (Closed no_credit)) → RecordsUnder (v ∷ up) c → IsCaughtRoot (plug (v ∷ up) (Closed c))
shut v up c off h r = root_put (v ∷ up) (Closed no_credit) (Closed c) (λ s o. refl) (λ k. at r) (closed_rests (Closed no_credit) c)
    (λ sp k. tt) h
  where
    at : RecordsUnder (v ∷ up) c → RecordsAt up v c
    at (inl e) = inl e
    at (inr u) = inr (off, sym (ap (λ b. b || under_of up) off) ∙ u)

-- outside all goal sides there are no records
none_of : (side : Bool) (c : Credit) → ((c.records ≡ []) ⊎ ((side ≡ false) × (false ≡ true))) → c.records ≡ []
none_of side c (inl e) = e
none_of side c (inr e) = false_true e.1

both_none : (a b : Credit) → a.records ≡ [] → b.records ≡ [] → (added a b).records ≡ []
both_none a b x y = ap (λ l. l ++ b.records) x ∙ y

right_none : (sleeps : ℕ → Bool) (n : ℕ) (kind : Kind) (i : ℕ) (others : Alternatives) (total : Credit)
    → AreCaught sleeps false n kind i others → all_right others ≡ Some total → total.records ≡ []
right_none sleeps n kind i none total h e = ap (λ c. c.records) (sym (some_of no_credit total e))
  where
    some_of : (a b : Credit) → Some a ≡ Some b → a ≡ b
    some_of a b e = cc
right_none sleeps n kind i (alternative sp (Pending hold x) others) total h e = let no_way : ⊥ = cc in absurd no_way
right_none sleeps n kind i (alternative sp (Inner node) others) total h e = let no_way : ⊥ = cc in absurd no_way
right_none sleeps n kind i (alternative sp (Closed c) others) total h e = go (all_right others) refl e
    (λ b q. right_none sleeps n kind (suc i) others b h.1 q)
  where
    some_of : (a b : Credit) → Some a ≡ Some b → a ≡ b
    some_of a b e = cc

    go : (o : Option Credit) → all_right others ≡ o → and_then (Some c) o ≡ Some total
        → ((b : Credit) → all_right others ≡ Some b → b.records ≡ []) → total.records ≡ []
    go None q e f = let no_way : ⊥ = cc in absurd no_way
    go (Some b) q e f = ap (λ d. d.records) (sym (some_of (added c b) total e)) ∙ both_none c b (none_of (is_side kind i) c h.0) (f b q)

left_none : (sleeps : ℕ → Bool) (n : ℕ) (kind : Kind) (left : List (ℕ × Status)) (others : Alternatives) (total : Credit)
    → AreCaught sleeps false n kind 0 (put_left left others) → all_left left ≡ Some total → total.records ≡ []
left_none sleeps n kind [] others total h e = ap (λ c. c.records) (sym (some_of no_credit total e))
  where
    some_of : (a b : Credit) → Some a ≡ Some b → a ≡ b
    some_of a b e = cc
left_none sleeps n kind ((sp, Pending hold x) ∷ left) others total h e = absurd (nothing (all_left left) e)
  where
    nothing : (o : Option Credit) → and_then o None ≡ Some total → ⊥
    nothing None e = cc
    nothing (Some b) e = cc
left_none sleeps n kind ((sp, Inner node) ∷ left) others total h e = absurd (nothing (all_left left) e)
  where
    nothing : (o : Option Credit) → and_then o None ≡ Some total → ⊥
    nothing None e = cc
    nothing (Some b) e = cc
left_none sleeps n kind ((sp, Closed c) ∷ left) others total h e =
    go (all_left left) refl e (λ b q. left_none sleeps n kind left (alternative sp (Closed c) others) b h q)
    (none_of (is_side kind (length left)) c (caught_after sleeps false n kind left (alternative sp (Closed c) others) h).0)
  where
    some_of : (a b : Credit) → Some a ≡ Some b → a ≡ b
    some_of a b e = cc

    go : (o : Option Credit) → all_left left ≡ o → and_then o (Some c) ≡ Some total
        → ((b : Credit) → all_left left ≡ Some b → b.records ≡ []) → c.records ≡ [] → total.records ≡ []
    go None q e f r = let no_way : ⊥ = cc in absurd no_way
    go (Some b) q e f r = ap (λ d. d.records) (sym (some_of (added b c) total e)) ∙ both_none b c (f b q) r

total_none : (sleeps : ℕ → Bool) (v : Level) (c total : Credit)
    → AreCaught sleeps false v.number v.kind 0 (put_left v.left (alternative v.spent (Closed no_credit) v.right)) → c.records ≡ []
    → all_closed v c ≡ Some total → total.records ≡ []
total_none sleeps v c total h r e = go (all_left v.left) refl (all_right v.right) refl e
  where
    some_of : (a b : Credit) → Some a ≡ Some b → a ≡ b
    some_of a b e = cc

    go : (x : Option Credit) → all_left v.left ≡ x → (y : Option Credit) → all_right v.right ≡ y → and_then (and_then x (Some c)) y
        ≡ Some total → total.records ≡ []
    go None p y q e = let no_way : ⊥ = cc in absurd no_way
    go (Some a) p None q e = let no_way : ⊥ = cc in absurd no_way
    go (Some a) p (Some b) q e =
        ap (λ d. d.records) (sym (some_of (added (added a c) b) total e))
        ∙ both_none (added a c) b (both_none a c (left_none sleeps v.number v.kind v.left _ a h p) r)
        (right_none sleeps v.number v.kind (suc (length v.left)) v.right b
        (caught_after sleeps false v.number v.kind v.left (alternative v.spent (Closed no_credit) v.right) h).1 q)

-- a node that folds
folds_caught : (next : ℕ) (v : Level) (up : List Level) (c : Credit) (o : Option Credit) → all_closed v c ≡ o
    → is_side v.kind (length v.left) ≡ false
    → ((d : Credit) → IsCaughtRoot (plug up (Closed no_credit)) → RecordsUnder up d → IsCaughtRoot (closes next up d).root)
    → IsCaughtRoot (plug (v ∷ up) (Closed no_credit)) → RecordsUnder (v ∷ up) c → IsCaughtRoot (folds next v up c o (closes next up)).root
folds_caught next v up c None q off f h r = shut v up c off h r
folds_caught next v [] c (Some total) q off f h r = shut v [] c off h r
folds_caught next v (u ∷ up) c (Some total) q off f h r =
    f (added (credit_of u.spent) total)
    (root_put (u ∷ up) (Inner (level_node v (Closed no_credit))) (Closed no_credit) (λ s o. refl) (λ k. inl refl)
    (closed_rests (Inner (level_node v (Closed no_credit))) no_credit) (λ sp k. tt) h)
    (records (under_of (u ∷ up)) refl (caught_down (u ∷ up) (Inner (level_node v (Closed no_credit))) h.caught) r)
  where
    records : (b : Bool) → under_of (u ∷ up) ≡ b → AreCaught (dormant_on (u ∷ up)) (under_of (u ∷ up)) v.number v.kind 0
        (put_left v.left (alternative v.spent (Closed no_credit) v.right)) → RecordsUnder (v ∷ u ∷ up) c
        → RecordsUnder (u ∷ up) (added (credit_of u.spent) total)
    records true e k r = inr e
    records false e k (inl z) = inl
        (total_none (dormant_on (u ∷ up)) v c total
        (subst (λ b. AreCaught (dormant_on (u ∷ up)) b v.number v.kind 0
        (put_left v.left (alternative v.spent (Closed no_credit) v.right))) e k) z q)
    records false e k (inr z) = false_true (sym (ap (λ b. b || under_of (u ∷ up)) off ∙ e) ∙ z)

-- something sleeps after a first alternative, and wakes
pub wake_caught : (next : ℕ) (v : Level) (up : List Level) (old : Status) (c : Credit) (s : ℕ) (e woken : Entry) → v.right
    ≡ alternative s (Pending Dormant e) none → catch_right (alternative v.spent old v.right) ≡ false → RecordsAt up v c
    → (IsNoEnd e → IsNoEnd woken)
    → (EntryCaught (with_catch v.number false (dormant_on up)) e
    → EntryCaught (with_catch next false (with_catch v.number false (dormant_on up))) woken)
    → IsCaughtRoot (plug (v ∷ up) old) → IsCaughtRoot (wakes next v up c woken).root
wake_caught next v up old c s e woken q first r no_end marks h = record {
  caught = caught_level up v old (Closed c) v.spent new first
      (λ k. (
        r,
        (
          (marks (subst (λ a. AreCaught (dormant_on up) (under_of up) v.number v.kind (suc (length v.left)) a) q k.1).0, tt),
          tt,
        ),
      )) h.caught;
  last = (rests_level up v old (Closed c) v.spent new rests).last h.last;
  unspent = unspent_level up v old (Closed c) v.spent new (λ k. (tt, ((refl, tt), tt))) h.unspent;
}
  where
    new : Alternatives
    new = alternative 0 (Inner (single next woken)) none

    rests : AllRest (alternative v.spent old v.right) (alternative v.spent (Closed c) new)
    rests = subst (λ a. AllRest (alternative v.spent old a) (alternative v.spent (Closed c) new)) (sym q)
        (record {
          no_query = λ k. (tt, ((refl, (no_end k.1.0, tt)), tt));
          no_node = λ k. (tt, ((refl, (tt, tt)), tt));
          last = λ k.
              (tt, inl refl, tt);
        })

-- marks of items that name no such node
pub marks_other : (sleeps : ℕ → Bool) (m : ℕ) (b : Bool) (way : Way) (items : List (Item ℕ))
    → ((r : ℕ) → is_on way r ≡ true → (m == r) ≡ false) → AreScoped way items → MarksCaught sleeps items
    → MarksCaught (with_catch m b sleeps) items
marks_other sleeps m b way [] o h k = tt
marks_other sleeps m b way (GoalItem t s ∷ items) o h k = marks_other sleeps m b (way_from way s) items
    (λ r z. o r (part_from way s r z)) h.1 k
marks_other sleeps m b way (CatchMark s ∷ items) o h k = (
  cond-false (m == s) b (sleeps s) (o s (through-on CatchNode way s h.0)) ∙ k.0,
  marks_other sleeps m b (way_above way s) items
      (λ r z. o r (part_above way s r z)) h.1 k.1,
)
marks_other sleeps m b way (CollectMark t s ∷ items) o h k = marks_other sleeps m b (way_above way s) items
    (λ r z. o r (part_above way s r z)) h.1 k
marks_other sleeps m b way (RemovalItem number ∷ items) o h k = marks_other sleeps m b way items o h k

pub off_numbers : (way : Way) (m : ℕ) → is_on way m ≡ false → (r : ℕ) → is_on way r ≡ true → (m == r) ≡ false
off_numbers way m o r h = other_number way m r o h (m == r) refl

-- what follows a findall
goes_marks : (sleeps : ℕ → Bool) (n : ℕ) (ts results : List Term) (l : Term) (f : Continuation ℕ) → MarksCaught sleeps f.items
    → EntryCaught sleeps (findall_goes_on n (with_results ts (FindallEntry results l f)))
goes_marks sleeps n [] results l f h = h
goes_marks sleeps n (t ∷ ts) results l f h = goes_marks sleeps n ts _ l _ h

goes_no_end : (n : ℕ) (ts results : List Term) (l : Term) (f : Continuation ℕ)
    → IsNoEnd (findall_goes_on n (with_results ts (FindallEntry results l f)))
goes_no_end n [] results l f = tt
goes_no_end n (t ∷ ts) results l f = goes_no_end n ts _ l _

pub next_above : (next : ℕ) (v : Level) (up : List Level) → IsFree next (v ∷ up) → is_on (way_of up) next ≡ false
next_above next v up f = off_way next up (let z = f.fresh next (omega arith) in let above : count_around next up
    ≡ 0 = omega (arith, z) in above)

-- what sleeps looks up its way
pub dormant_there : (v : Level) (up : List Level) (p : Profile) (s : ℕ) (e : Entry) → IsLevel up v p → v.right
    ≡ alternative s (Pending Dormant e) none
    → IsOnWay (record { node = v.number; index = suc (length v.left); kind = v.kind } ∷ way_of up) e
dormant_there v up p s e h q = (subst (AreSound (way_of up) v.number v.kind (suc (length v.left))) q h.right).0.0

-- an alternative closes
pub closes_caught : (next : ℕ) (levels : List Level) (c : Credit) → IsAround levels IsOpen → IsFree next levels
    → IsCaughtRoot (plug levels (Closed no_credit)) → RecordsUnder levels c → IsCaughtRoot (closes next levels c).root
closes_caught next [] c a free h (inl e) = record { caught = inl e; last = tt; unspent = tt }
closes_caught next [] c a free h (inr e) = false_true e
closes_caught next (v ∷ up) c a free h r = pick (guarded v) refl (λ d k z. closes_caught next up d a.1 (free-above next v up free) k z)
  where
    pick : (o : Option Entry) → guarded v ≡ o
        → ((d : Credit) → IsCaughtRoot (plug up (Closed no_credit)) → RecordsUnder up d → IsCaughtRoot (closes next up d).root)
        → IsCaughtRoot (goal_side_closes next v up c o (closes next up)).root
    pick None g f = folds_caught next v up c (all_closed v c) refl (no_side v up a.0 None g tt) f h r
    pick (Some (PlainEntry x)) g f = folds_caught next v up c (all_closed v c) refl (no_side v up a.0 (Some (PlainEntry x)) g tt) f h r
    pick (Some (EndEntry b)) g f =
        let w = guards_of v up (EndEntry b) a.0 g in
        let off = no_side v up a.0 (Some (EndEntry b)) g tt in
        wake_caught next v up (Closed no_credit) c w.spent (EndEntry b) (EndEntry b) w.right refl (at off r) (λ k. k) (λ k. tt) h
      where
        at : is_side v.kind (length v.left) ≡ false → RecordsUnder (v ∷ up) c → RecordsAt up v c
        at off (inl e) = inl e
        at off (inr u) = inr (off, sym (ap (λ b. b || under_of up) off) ∙ u)
    pick (Some (FindallEntry results l x)) g f =
        let w = guards_of v up (FindallEntry results l x) a.0 g in
        wake_caught next v up (Closed no_credit) (without_records c) w.spent (FindallEntry results l x) _ w.right refl (inl refl)
        (λ k. goes_no_end v.number c.records results l x)
        (λ k. goes_marks _ v.number c.records results l x
        (marks_other _ next false (way_of up) x.items (off_numbers (way_of up) next (next_above next v up free))
        (dormant_there v up IsOpen w.spent (FindallEntry results l x) a.0 w.right).scoped k)) h
    pick (Some (CatchEntry k y x)) g f =
        let off = no_side v up a.0 (Some (CatchEntry k y x)) g tt in
        folds_caught next (with_right (Closed no_credit) v) up c (all_closed (with_right (Closed no_credit) v) c) refl off f
        (record {
          caught = caught_level up v (Closed no_credit) (Closed no_credit) v.spent (alternative 0 (Closed no_credit) none) refl
              (λ z. (inl refl, (inl refl, tt))) h.caught;
          last = (rests_level up v (Closed no_credit) (Closed no_credit) v.spent (alternative 0 (Closed no_credit) none)
              (record { no_query = λ z. (tt, (tt, tt)); no_node = λ z. (tt, (tt, tt)); last = λ z. (tt, inl refl, tt) })).last h.last;
          unspent = unspent_level up v (Closed no_credit) (Closed no_credit) v.spent (alternative 0 (Closed no_credit) none)
              (λ z. (tt, (tt, tt))) h.unspent;
        }) r
