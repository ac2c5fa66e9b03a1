-- The list of a tree that keeps its invariants has sound names: entry by entry.
use Rattle.std.proofs.Common.{◌≡◌, ℕ, suc, ◌==◌, ◌⊎◌, inl, Bool, true, false, cond, List, [], ◌∷◌, ◌++◌, length, refl, sym, ap, ◌∙◌}
use Rattle.std.proofs.Common.{subst, arith}
use Rattle.au_model.specs.Terms.Each.{Each}
use Rattle.run_model.specs.Machine.Items.{Item, Continuation}
use Rattle.run_model.specs.Machine.Entries.{Entry, PlainEntry, CatchEntry, FindallEntry, EndEntry}
use Rattle.tree_model.specs.Nodes.{Kind, ChoiceNode, CatchNode, FindallNode, QueryNode, Hold, Ready, TakenBy, Waiting, Dormant}
use Rattle.tree_model.specs.Nodes.{Alternatives, none, alternative, Status, Pending}
use Rattle.tree_model.specs.Levels.{Level}
use Rattle.tree_model.specs.Elements.{Name, EndOf}
use Rattle.tree_model.specs.PendingLists.{way_of, element_on, list_among, back_of}
use Rattle.tree_model.specs.Ways.{is_on, AreScoped, IsOnWay, IsHeldBy}
use Rattle.tree_model.specs.SoundTrees.{one_if, IsOpen, IsDormant, IsShut, Profile, profile, profiles, is_shape, are_pair, is_pair}
use Rattle.tree_model.specs.CaughtTrees.{MarksCaught, EntryCaught}
use Rattle.tree_model.proofs.CountLemmas.{count_around}
use Rattle.interleaving.specs.Erased.{from, element_count, height}
use Rattle.interleaving.specs.Sound.{names, IsMadeElsewhere, IsPresent, EachFindall, IsEntrySound, IsSound}
use Rattle.interleaving.proofs.ContextLemmas.{IsLevel, IsAround, put_profiles, level_profiles}
use Rattle.interleaving.proofs.WayLemmas.{cond-false}
use Rattle.interleaving.proofs.NamingLemmas.{from_own}
use Rattle.interleaving.proofs.GrowingLemmas.{none_dormant-of, no_three}
use Rattle.interleaving.proofs.ListEndLemmas.{from_back}
use Rattle.interleaving.proofs.ListScopeLemmas.{IsDistinct, dormant_on, distinct-up, apart_above, Reads, reads_itself, named, IsOf}
use Rattle.interleaving.proofs.ListScopeLemmas.{chained}
use Rattle.interleaving.proofs.ListMarkLemmas.{at_level, marks_sound}
use Rattle.interleaving.proofs.ListSoundLemmas.{scoped_by, older_scope, short_back, other_back}
use Rattle.au_term.proofs.LogicLemmas.{false_true, number_same}

-- names of the branch
of_older : (base levels : List Level) (i n : ℕ) → IsAround levels IsOpen
    → ((r : ℕ) → is_on (way_of levels) r ≡ true → Reads base levels r) → (hs : List Name) → Each (IsOf base levels) hs
    → Each (IsMadeElsewhere (0 ∷ i ∷ n ∷ [])) hs
of_older base levels i n a f [] h = tt
of_older base levels i n a f (x ∷ hs) h =
    let at = at_level levels h.0.0 a h.0.2 in (
      subst (IsMadeElsewhere (0 ∷ i ∷ n ∷ [])) (sym (h.0.1 ∙ ((f h.0.0 h.0.2).scope ∙ at.scope)))
          (older_scope i n (length at.level.left) at.level.number),
      of_older base levels i n a f hs h.1,
    )

of_present : (base levels : List Level) → IsDistinct base → IsAround levels IsOpen
    → ((r : ℕ) → is_on (way_of levels) r ≡ true → Reads base levels r)
    → ((r : ℕ) → is_on (way_of levels) r ≡ true → is_on (way_of base) r ≡ true) → (hs : List Name) → Each (IsOf base levels) hs
    → Each (IsPresent (back_of base)) hs
of_present base levels once a f g [] h = tt
of_present base levels once a f g (x ∷ hs) h =
    let r = h.0.0 in
    let at = at_level levels r a h.0.2 in
    let reads = f r h.0.2 in
    let scope : x ≡ length at.level.left ∷ at.level.number ∷ [] = h.0.1 ∙ (reads.scope ∙ at.scope) in
    let found : from (back_of base) x ≡ back_of (at.level ∷ at.above) = ap (from (back_of base)) h.0.1
    ∙ (from_back base r once (g r h.0.2) ∙ (ap back_of reads.down ∙ ap back_of at.down)) in
    let rest = list_among (way_of at.above) at.level.number at.level.kind (suc (length at.level.left)) at.level.right ++ back_of at.above in
    ((rest, found ∙ ap (λ e. EndOf e ∷ rest) (sym scope)), of_present base levels once a f g hs h.1)

-- an entry over the list after its place, its items scoped by a part of the branch
entry_sound : (base levels : List Level) (i n : ℕ) (items : List (Item ℕ)) → IsDistinct base → IsDistinct levels
    → IsAround levels IsOpen → ((r : ℕ) → is_on (way_of levels) r ≡ true → Reads base levels r)
    → ((r : ℕ) → is_on (way_of levels) r ≡ true → is_on (way_of base) r ≡ true) → AreScoped (way_of levels) items
    → MarksCaught (dormant_on base) items → IsEntrySound (0 ∷ i ∷ n ∷ []) (back_of base) (names (named base items)) (named base items)
entry_sound base levels i n items once d a f g h m =
    let s = scoped_by levels items d h in
    let c = chained base once levels items d f g s in
    record {
      carried = record {
        older = of_older base levels i n a f (names (named base items)) c.all;
        present = of_present base levels once a
            f g (names (named base items)) c.all;
        chain = c.chain;
      };
      marks = marks_sound base once levels items d a f g s m;
      findalls = short_back (IsMadeElsewhere (0 ∷ i ∷ n ∷ [])) (λ x y. older_scope i n x y) base;
    }

-- what the branch above a level reads
reads_above : (v : Level) (up : List Level) → IsDistinct (v ∷ up) → (r : ℕ) → is_on (way_of up) r ≡ true → Reads (v ∷ up) up r
reads_above v up d r h =
    let off = apart_above v up r d h in
    record {
      down = cond-false (v.number == r) _ _ off;
      scope = cond-false (v.number == r) _ _ off;
      sleeps = cond-false (v.number == r)
          _ _ off;
    }

on_above : (v : Level) (up : List Level) (r : ℕ) → is_on (way_of up) r ≡ true → is_on (way_of (v ∷ up)) r ≡ true
on_above v up r h = go (v.number == r)
  where
    go : (b : Bool) → cond b true (is_on (way_of up) r) ≡ true
    go true = refl
    go false = h

-- an entry that carries the scope of its own alternative too
with_own : (v : Level) (up : List Level) (items : List (Item ℕ)) → IsEntrySound (0 ∷ length v.left ∷ v.number ∷ []) (back_of (v ∷ up))
    (names (named (v ∷ up) items)) (named (v ∷ up) items)
    → IsEntrySound (0 ∷ length v.left ∷ v.number ∷ []) (back_of (v ∷ up))
    ((length v.left ∷ v.number ∷ []) ∷ names (named (v ∷ up) items)) (named (v ∷ up) items)
with_own v up items h =
    let u : Name = length v.left ∷ v.number ∷ [] in
    let rest = list_among (way_of up) v.number v.kind (suc (length v.left)) v.right ++ back_of up in
    let whole : from (back_of (v ∷ up)) u ≡ back_of (v ∷ up) = from_own u rest in
    record {
      carried = record {
        older = (older_scope (length v.left) v.number (length v.left) v.number, h.carried.older);
        present =
            ((rest, whole), h.carried.present);
        chain = (all whole (names (named (v ∷ up) items)), h.carried.chain);
      };
      marks = h.marks;
      findalls = h.findalls;
    }
  where
    all : from (back_of (v ∷ up)) (length v.left ∷ v.number ∷ []) ≡ back_of (v ∷ up) → (hs : List Name)
        → Each (λ s. from (from (back_of (v ∷ up)) (length v.left ∷ v.number ∷ [])) s ≡ from (back_of (v ∷ up)) s) hs
    all e [] = tt
    all e (x ∷ hs) = (ap (λ l. from l x) e, all e hs)

-- a dormant findall entry is its node's last alternative
last_dormant : (v : Level) (up : List Level) (k : Kind) → IsLevel up v (IsDormant k) → v.right ≡ none
last_dormant v up k h = pick v.kind h.shape
  where
    right_none : (left : List (ℕ × Status)) (r : Alternatives) (j : Kind) → are_pair j (put_profiles left (IsDormant k ∷ profiles r))
        ≡ true → r ≡ none
    right_none left none j z = refl
    right_none [] (alternative sp st none) j z = false_true z
    right_none [] (alternative sp st (alternative sq other others)) j z = false_true z
    right_none (a ∷ left) (alternative sp st others) j z = absurd
        (no_three j left (profile a.1) (IsDormant k) (profile st) (profiles others) z)

    pick : (j : Kind) → is_shape j (level_profiles v (IsDormant k)) ≡ true → v.right ≡ none
    pick ChoiceNode z = false_true (none_dormant-of v.left (IsDormant k ∷ profiles v.right) z)
    pick CatchNode z = right_none v.left v.right CatchNode z
    pick FindallNode z = right_none v.left v.right FindallNode z
    pick QueryNode z = right_none v.left v.right QueryNode z

-- the element of a place
module _ (v : Level) (up : List Level) where
  abbrev base : List Level
  base = v ∷ up

  plain_sound : (hold : Hold) (f : Continuation ℕ) → IsDistinct base → profile (Pending hold (PlainEntry f)) ≡ IsOpen ⊎ (⊥)
      → IsAround base IsOpen → IsOnWay (way_of base) (PlainEntry f) → EntryCaught (dormant_on base) (PlainEntry f)
      → IsSound (back_of base) → IsSound (element_on (way_of base) (PlainEntry f) ∷ back_of base)
  plain_sound hold f d o a i m z =
      (entry_sound base base (length v.left) v.number f.items d d a (reads_itself base) (λ r k. k) i.scoped m, z)

  -- dormant
  own_height : height (back_of base) (length v.left ∷ v.number ∷ []) ≡ element_count (back_of base)
  own_height = ap element_count (from_own (length v.left ∷ v.number ∷ [])
      (list_among (way_of up) v.number v.kind (suc (length v.left)) v.right ++ back_of up))

  above_sound : (items : List (Item ℕ)) → IsDistinct base → IsAround up IsOpen → AreScoped (way_of up) items
      → MarksCaught (dormant_on base) items → IsEntrySound (0 ∷ length v.left ∷ v.number ∷ []) (back_of base)
      ((length v.left ∷ v.number ∷ []) ∷ names (named base items)) (named base items)
  above_sound items d a h m = with_own v up items
      (entry_sound base up (length v.left) v.number items d (distinct-up v up d) a (reads_above v up d) (on_above v up) h m)

  pub element_sound : (hold : Hold) (e : Entry) → IsDistinct base → IsAround base (profile (Pending hold e)) → IsOnWay (way_of base) e
      → IsHeldBy hold e → EntryCaught (dormant_on base) e → IsSound (back_of base) → IsSound (element_on (way_of base) e ∷ back_of base)
  element_sound hold (EndEntry b) d a i o m z = z
  element_sound hold (CatchEntry c r f) d a i o m z = (above_sound f.items d a.1 i.scoped m, own_height, z)
  element_sound Dormant (FindallEntry results l f) d a i o m z =
      let last : v.right ≡ none = last_dormant v up FindallNode a.0 in
      let once = d v.number in
      let here : one_if (v.number == v.number) ≡ 1 = ap one_if (number_same v.number) in
      let above : count_around v.number up ≡ 0 = omega (arith, once, here) in
      let shown : EachFindall (λ e. e ≡ 0 ∷ v.number ∷ [] → ⊥) (back_of base) = subst
      (λ r. EachFindall (λ e. e ≡ 0 ∷ v.number ∷ [] → ⊥)
      (list_among (way_of up) v.number v.kind (suc (length v.left)) r ++ back_of up)) (sym last) (other_back v.number up above) in
      (above_sound f.items d a.1 i.scoped m, own_height, shown, z)
  element_sound Ready (FindallEntry results l f) d a i o m z = absurd o
  element_sound (TakenBy w) (FindallEntry results l f) d a i o m z = absurd o
  element_sound (Waiting g) (FindallEntry results l f) d a i o m z = absurd o
  element_sound Ready (PlainEntry f) d a i o m z = plain_sound Ready f d (inl refl) a i m z
  element_sound (TakenBy w) (PlainEntry f) d a i o m z = plain_sound (TakenBy w) f d (inl refl) a i m z
  element_sound (Waiting g) (PlainEntry f) d a i o m z = plain_sound (Waiting g) f d (inl refl) a i m z
  element_sound Dormant (PlainEntry f) d a i o m z = absurd (no_plain v.kind a.0.shape)
    where
      left_pair : (left : List (ℕ × Status)) (j : Kind) (ps : List Profile) → (same : Bool)
          → are_pair j (put_profiles left (IsDormant ChoiceNode ∷ ps)) ≡ true → (j ≡ ChoiceNode → ⊥) → ⊥
      left_pair [] j [] same h n = false_true h
      left_pair [] j (p ∷ []) same h n = false_true h
      left_pair [] j (p ∷ q ∷ ps) same h n = false_true h
      left_pair (x ∷ []) j (p ∷ ps) same h n = no_three j [] (profile x.1) (IsDormant ChoiceNode) p ps h
      left_pair (x ∷ y ∷ left) j ps same h n = no_three j left (profile y.1) (profile x.1) (IsDormant ChoiceNode) ps h
      left_pair (x ∷ []) j [] same h n = first (profile x.1) j h n
        where
          first : (p : Profile) (j : Kind) → is_pair j p (IsDormant ChoiceNode) ≡ true → (j ≡ ChoiceNode → ⊥) → ⊥
          first IsOpen ChoiceNode z n = n refl
          first IsOpen CatchNode z n = false_true z
          first IsOpen FindallNode z n = false_true z
          first IsOpen QueryNode z n = false_true z
          first IsShut j z n = false_true z
          first (IsDormant k) j z n = false_true z

      no_plain : (j : Kind) → is_shape j (level_profiles v (IsDormant ChoiceNode)) ≡ true → ⊥
      no_plain ChoiceNode h = false_true (none_dormant-of v.left (IsDormant ChoiceNode ∷ profiles v.right) h)
      no_plain CatchNode h = left_pair v.left CatchNode (profiles v.right) true h (λ e. let no_way : ⊥ = cc in no_way)
      no_plain FindallNode h = left_pair v.left FindallNode (profiles v.right) true h (λ e. let no_way : ⊥ = cc in no_way)
      no_plain QueryNode h = left_pair v.left QueryNode (profiles v.right) true h (λ e. let no_way : ⊥ = cc in no_way)
