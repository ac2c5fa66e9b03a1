-- An entry whose goals in front name the end right below it: they may name another end in front of that one.
use Rattle.std.proofs.Common.{◌≡◌, ℕ, Bool, true, false, cond, List, [], ◌∷◌, map, refl, sym, ap, ◌∙◌}
use Rattle.au_model.specs.Terms.Each.{Each}
use Rattle.run_model.specs.Machine.Items.{Item, GoalItem, CatchMark, CollectMark, RemovalItem, Continuation, with_items}
use Rattle.run_model.specs.Machine.Entries.{PlainEntry}
use Rattle.tree_model.specs.Elements.{Name, same, Element, Plain, EndOf}
use Rattle.interleaving.specs.HeightMachine.{HeightEntry}
use Rattle.interleaving.specs.Erased.{from, element_count, height, with_height, erased}
use Rattle.interleaving.specs.Sound.{names, IsMadeElsewhere, IsPresent, IsChain, AreCarried, IsMarkSound, EachFindall, IsEntrySound}
use Rattle.interleaving.proofs.NamingLemmas.{from_end, from_own, heights-same}
use Rattle.interleaving.proofs.CarriedLemmas.{marks-moved, from_first}
use Rattle.interleaving.proofs.ApartLemmas.{same-true}

-- goals in front that name the first end name the second
abbrev pub lead_items : Name → Name → List (Item Name) → List (Item Name)
lead_items own new [] = []
lead_items own new (GoalItem t h ∷ items) = cond (same h own) (GoalItem t new ∷ lead_items own new items) (GoalItem t h ∷ items)
lead_items own new (RemovalItem n ∷ items) = RemovalItem n ∷ lead_items own new items
lead_items own new (CatchMark s ∷ items) = CatchMark s ∷ items
lead_items own new (CollectMark t s ∷ items) = CollectMark t s ∷ items

abbrev pub Other : Name → Name → Type 0
Other new s = s ≡ new → ⊥

module _ (own new p q : Name) (rest : List Element) (older_new : IsMadeElsewhere q new) where
  abbrev Z : List Element
  Z = EndOf own ∷ rest

  abbrev X : List Element
  X = EndOf new ∷ EndOf own ∷ rest

  same_from : (s : Name) → Other new s → from (EndOf new ∷ EndOf own ∷ rest) s ≡ from (EndOf own ∷ rest) s
  same_from s h = from_end new s (EndOf own ∷ rest) h

  all_from : (hs : List Name) → Each (Other new) hs → Each (λ s. from (EndOf new ∷ EndOf own ∷ rest) s ≡ from (EndOf own ∷ rest) s) hs
  all_from [] h = tt
  all_from (s ∷ hs) h = (same_from s h.0, all_from hs h.1)

  presents : (hs : List Name) → Each (Other new) hs → Each (IsPresent (EndOf own ∷ rest)) hs
      → Each (IsPresent (EndOf new ∷ EndOf own ∷ rest)) hs
  presents [] h k = tt
  presents (s ∷ hs) h k = ((k.0.0, same_from s h.0 ∙ k.0.1), presents hs h.1 k.1)

  laters : (g : Name) (hs : List Name) → Other new g → Each (Other new) hs
      → Each (λ s. from (from (EndOf own ∷ rest) g) s ≡ from (EndOf own ∷ rest) s) hs
      → Each (λ s. from (from (EndOf new ∷ EndOf own ∷ rest) g) s ≡ from (EndOf new ∷ EndOf own ∷ rest) s) hs
  laters g [] n h k = tt
  laters g (s ∷ hs) n h k = (ap (λ l. from l s) (same_from g n) ∙ (k.0 ∙ sym (same_from s h.0)), laters g hs n h.1 k.1)

  chains : (hs : List Name) → Each (Other new) hs → IsChain (EndOf own ∷ rest) hs → IsChain (EndOf new ∷ EndOf own ∷ rest) hs
  chains [] h k = tt
  chains (g ∷ hs) h k = (laters g hs h.0 h.1 k.0, chains hs h.1 k.1)

  kept : (hs : List Name) → Each (Other new) hs → Each (IsMadeElsewhere q) hs → Each (IsPresent (EndOf own ∷ rest)) hs
      → IsChain (EndOf own ∷ rest) hs → AreCarried q (EndOf new ∷ EndOf own ∷ rest) hs
  kept hs h o k c = record { older = o; present = presents hs h k; chain = chains hs h c }

  lead_carried : (items : List (Item Name)) → Each (Other new) (names items) → Each (IsMadeElsewhere q) (names items)
      → Each (IsPresent (EndOf own ∷ rest)) (names items) → IsChain (EndOf own ∷ rest) (names items)
      → AreCarried q (EndOf new ∷ EndOf own ∷ rest) (names (lead_items own new items))
  lead_carried [] h o k c = record { older = tt; present = tt; chain = tt }
  lead_carried (RemovalItem n ∷ items) h o k c = lead_carried items h o k c
  lead_carried (CatchMark s ∷ items) h o k c = kept (s ∷ names items) h o k c
  lead_carried (CollectMark t s ∷ items) h o k c = kept (s ∷ names items) h o k c
  lead_carried (GoalItem t g ∷ items) h o k c = go (same g own) (lead_carried items h.1 o.1 k.1 c.1)
    where
      go : (b : Bool) → AreCarried q (EndOf new ∷ EndOf own ∷ rest) (names (lead_items own new items))
          → AreCarried q (EndOf new ∷ EndOf own ∷ rest)
          (names (cond b (GoalItem t new ∷ lead_items own new items) (GoalItem t g ∷ items)))
      go true r = record {
        older = (older_new, r.older);
        present = ((EndOf own ∷ rest, from_own new (EndOf own ∷ rest)), r.present);
        chain = (from_first new (EndOf own ∷ rest) (names (lead_items own new items)), r.chain);
      }
      go false r = kept (g ∷ names items) h o k c

  lead_marks : (items : List (Item Name)) → Each (Other new) (names items) → Each (IsMarkSound (EndOf own ∷ rest)) items
      → Each (IsMarkSound (EndOf new ∷ EndOf own ∷ rest)) (lead_items own new items)
  lead_marks [] h m = tt
  lead_marks (RemovalItem n ∷ items) h m = (tt, lead_marks items h m.1)
  lead_marks (CatchMark s ∷ items) h m = marks-moved (EndOf own ∷ rest) (EndOf new ∷ EndOf own ∷ rest) (CatchMark s ∷ items)
      (all_from (s ∷ names items) h) m
  lead_marks (CollectMark t s ∷ items) h m = marks-moved (EndOf own ∷ rest) (EndOf new ∷ EndOf own ∷ rest) (CollectMark t s ∷ items)
      (all_from (s ∷ names items) h) m
  lead_marks (GoalItem t g ∷ items) h m = go (same g own) (lead_marks items h.1 m.1)
    where
      go : (b : Bool) → Each (IsMarkSound (EndOf new ∷ EndOf own ∷ rest)) (lead_items own new items)
          → Each (IsMarkSound (EndOf new ∷ EndOf own ∷ rest))
          (cond b (GoalItem t new ∷ lead_items own new items) (GoalItem t g ∷ items))
      go true r = (tt, r)
      go false r = marks-moved (EndOf own ∷ rest) (EndOf new ∷ EndOf own ∷ rest) (GoalItem t g ∷ items) (all_from (g ∷ names items) h) m

  pub lead_sound : (items : List (Item Name)) → Each (Other new) (names items) → Each (IsMadeElsewhere q) (names items)
      → EachFindall (IsMadeElsewhere q) rest → IsEntrySound p (EndOf own ∷ rest) (names items) items →
      IsEntrySound q (EndOf new ∷ EndOf own ∷ rest) (names (lead_items own new items)) (lead_items own new items)
  lead_sound items h o f s = record
      { carried = lead_carried items h o s.carried.present s.carried.chain; marks = lead_marks items h s.marks; findalls = f }

  -- the same entry with heights
  all_heights : (hs : List Name) → Each (Other new) hs
      → Each (λ s. height (EndOf new ∷ EndOf own ∷ rest) s ≡ height (EndOf own ∷ rest) s) hs
  all_heights [] h = tt
  all_heights (s ∷ hs) h = (ap element_count (same_from s h.0), all_heights hs h.1)

  lead_heights : (items : List (Item Name)) → Each (Other new) (names items) → map (with_height (height (EndOf new ∷ EndOf own ∷ rest)))
      (lead_items own new items) ≡ map (with_height (height (EndOf own ∷ rest))) items
  lead_heights [] h = refl
  lead_heights (RemovalItem n ∷ items) h = ap (λ l. RemovalItem n ∷ l) (lead_heights items h)
  lead_heights (CatchMark s ∷ items) h = heights-same (height (EndOf new ∷ EndOf own ∷ rest)) (height (EndOf own ∷ rest))
      (CatchMark s ∷ items) (all_heights (s ∷ names items) h)
  lead_heights (CollectMark t s ∷ items) h = heights-same (height (EndOf new ∷ EndOf own ∷ rest)) (height (EndOf own ∷ rest))
      (CollectMark t s ∷ items) (all_heights (s ∷ names items) h)
  lead_heights (GoalItem t g ∷ items) h = go (same g own) refl (lead_heights items h.1)
    where
      go : (b : Bool) → same g own ≡ b → map (with_height (height (EndOf new ∷ EndOf own ∷ rest))) (lead_items own new items)
          ≡ map (with_height (height (EndOf own ∷ rest))) items →
          map (with_height (height (EndOf new ∷ EndOf own ∷ rest)))
          (cond b (GoalItem t new ∷ lead_items own new items) (GoalItem t g ∷ items))
          ≡ map (with_height (height (EndOf own ∷ rest))) (GoalItem t g ∷ items)
      go true e r =
          let one : height (EndOf new ∷ EndOf own ∷ rest) new
          ≡ height (EndOf own ∷ rest) g = ap element_count (from_own new (EndOf own ∷ rest))
          ∙ sym (ap (height (EndOf own ∷ rest)) (same-true g own e) ∙ ap element_count (from_own own rest)) in
          ap (λ n. GoalItem t n ∷ map (with_height (height (EndOf new ∷ EndOf own ∷ rest))) (lead_items own new items)) one
          ∙ ap (λ l. GoalItem t (height (EndOf own ∷ rest) g) ∷ l) r
      go false e r = heights-same (height (EndOf new ∷ EndOf own ∷ rest)) (height (EndOf own ∷ rest)) (GoalItem t g ∷ items)
          (all_heights (g ∷ names items) h)

  abbrev cont : Continuation Name → List (Item ℕ) → Continuation ℕ
  cont f items = record { items = items; named = f.named; next = f.next }

  pub lead_erased : (f : Continuation Name) → Each (Other new) (names f.items)
      → erased (Plain q (with_items (lead_items own new f.items) f) ∷ EndOf new ∷ EndOf own ∷ rest)
      ≡ erased (Plain p f ∷ EndOf own ∷ rest)
  lead_erased f h = ap (λ l. HeightEntry (PlainEntry (cont f l)) ∷ erased rest) (lead_heights f.items h)
