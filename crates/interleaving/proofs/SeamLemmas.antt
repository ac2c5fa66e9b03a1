-- What is in front of a segment keeps sound names where the segment changes.
use Rattle.std.proofs.Common.{◌≡◌, ◌⊎◌, inl, inr, suc, ◌+◌, ◌≤◌, ◌<◌, Bool, true, false, cond, List, [], ◌∷◌, ◌++◌, length, length-append}
use Rattle.std.proofs.Common.{refl, sym, ap, ◌∙◌, arith}
use Rattle.std.proofs.lemmas.List.{append_cancel_right}
use Rattle.std.proofs.lemmas.Bool.{false≢true}
use Rattle.au_term.specs.Term.{Term}
use Rattle.au_model.specs.Terms.Each.{Each}
use Rattle.run_model.specs.Machine.Items.{Item, GoalItem, CatchMark, CollectMark, RemovalItem, Continuation}
use Rattle.tree_model.specs.Elements.{Name, same, Record, Element, Credit, Plain, EndOf, Catch, Findall, End}
use Rattle.interleaving.specs.Erased.{from, element_count, height}
use Rattle.interleaving.specs.Views.{IsApart, IsBeside, IsItemApart, IsRecordApart, IsBlind}
use Rattle.interleaving.specs.Sound.{names, IsMadeElsewhere, IsPresent, IsChain, IsGuarded, IsGathered, IsMarkSound, EachFindall}
use Rattle.interleaving.specs.Sound.{IsEntrySound}
use Rattle.interleaving.specs.Sound.{IsRightUnder, IsSound}
use Rattle.interleaving.proofs.NamingLemmas.{height-le}
use Rattle.interleaving.proofs.ApartLemmas.{same-true}

-- a scope ends among the first elements, or is looked for after them
abbrev pub EndsIn : List Element → Name → Type 0
EndsIn xs s = (t : List Element) × (from xs s ≡ EndOf s ∷ t) × ((ys : List Element) → from (xs ++ ys) s ≡ EndOf s ∷ (t ++ ys))

abbrev pub Seam : List Element → Name → Type 0
Seam xs s = EndsIn xs s ⊎ ((ys : List Element) → from (xs ++ ys) s ≡ from ys s)

pub seam : (xs : List Element) (s : Name) → Seam xs s
seam [] s = inr (λ ys. refl)
seam (EndOf e ∷ xs) s = go (same s e) refl (seam xs s)
  where
    go : (b : Bool) → same s e ≡ b → Seam xs s → Seam (EndOf e ∷ xs) s
    go true h k =
        let equal : s ≡ e = same-true s e h in
        inl (
          xs,
          ap (λ t. cond t (EndOf e ∷ xs) (from xs s)) h ∙ ap (λ o. EndOf o ∷ xs) (sym equal),
          λ ys.
              ap (λ t. cond t (EndOf e ∷ (xs ++ ys)) (from (xs ++ ys) s)) h ∙ ap (λ o. EndOf o ∷ (xs ++ ys)) (sym equal),
        )
    go false h (inl k) = inl (
      k.0,
      ap (λ t. cond t (EndOf e ∷ xs) (from xs s)) h
          ∙ k.1,
      λ ys. ap (λ t. cond t (EndOf e ∷ (xs ++ ys)) (from (xs ++ ys) s)) h ∙ k.2 ys,
    )
    go false h (inr k) = inr (λ ys. ap (λ t. cond t (EndOf e ∷ (xs ++ ys)) (from (xs ++ ys) s)) h ∙ k ys)
seam (Credit k rs ∷ xs) s = seam-of (seam xs s)
  where
    seam-of : Seam xs s → Seam (Credit k rs ∷ xs) s
    seam-of h = h
seam (Plain p f ∷ xs) s = seam xs s
seam (Catch e u c r p f ∷ xs) s = seam xs s
seam (Findall e u results list p f ∷ xs) s = seam xs s
seam (End p b ∷ xs) s = seam xs s

pub from-short : (xs : List Element) (s : Name) → length (from xs s) ≤ length xs
from-short [] s = omega arith
from-short (EndOf e ∷ xs) s = go (same s e) (from-short xs s)
  where
    go : (b : Bool) → length (from xs s) ≤ length xs → length (cond b (EndOf e ∷ xs) (from xs s)) ≤ suc (length xs)
    go true h = omega arith
    go false h = omega arith
from-short (Credit k rs ∷ xs) s = omega (arith, from-short xs s)
from-short (Plain p f ∷ xs) s = omega (arith, from-short xs s)
from-short (Catch e u c r p f ∷ xs) s = omega (arith, from-short xs s)
from-short (Findall e u results list p f ∷ xs) s = omega (arith, from-short xs s)
from-short (End p b ∷ xs) s = omega (arith, from-short xs s)

-- two lists between which a scope that is not inside can't tell
pub record AreAlike (inside : Name → Bool) (ys ws zs : List Element) : Type 1 where
  pub old : (s : Name) → IsApart inside s → from ys s ≡ from zs s
  pub new : (s : Name) → IsApart inside s → from ws s ≡ from zs s
  pub short : length zs ≤ length ys
  pub fewer : element_count zs < element_count ys
  pub no_catch : (s u : Name) (c r : Term) (p : Name) (f : Continuation Name) (t : List Element) → IsApart inside s → ys
      ≡ Catch s u c r p f ∷ t → ⊥
  pub no_findall : (s u : Name) (results : List Term) (list : Term) (p : Name) (f : Continuation Name) (t : List Element)
      → IsApart inside s → ys ≡ Findall s u results list p f ∷ t → ⊥
  pub findalls : (P : Name → Type 0) → ((e : Name) → inside e ≡ true → P e) → EachFindall P ys → EachFindall P ws
  pub sound : IsSound ws

module _ (inside : Name → Bool) (ys ws zs : List Element) (a : AreAlike inside ys ws zs) where
  far : {A : Type 0} → (s h : Name) (t : List Element) → from zs s ≡ EndOf h ∷ (t ++ ys) → A
  far s h t e = absurd (omega (arith, from-short zs s, ap length e, length-append t ys, a.short))

  present-moved : (xs : List Element) (s : Name) → IsApart inside s → IsPresent (xs ++ ys) s → IsPresent (xs ++ ws) s
  present-moved xs s h p = go (seam xs s)
    where
      go : Seam xs s → IsPresent (xs ++ ws) s
      go (inl k) = (k.0 ++ ws, k.2 ws)
      go (inr k) = (p.0, k ws ∙ a.new s h ∙ sym (a.old s h) ∙ sym (k ys) ∙ p.1)

  -- a later scope lies no higher, whatever the segment
  later-moved : (xs : List Element) (h s : Name) → IsApart inside h → IsApart inside s → from (from (xs ++ ys) h) s ≡ from (xs ++ ys) s
      → from (from (xs ++ ws) h) s ≡ from (xs ++ ws) s
  later-moved xs h s p q e = go (seam xs h) (seam xs s)
    where
      -- after the first end of h
      behind : (t : List Element) → from (xs ++ ys) h ≡ EndOf h ∷ (t ++ ys) → from (xs ++ ws) h ≡ EndOf h ∷ (t ++ ws) → Seam xs s
          → Seam (EndOf h ∷ t) s → from (from (xs ++ ws) h) s ≡ from (xs ++ ws) s
      behind t ho hn (inl k) (inl j) =
          let both : (EndOf s ∷ j.0) ++ ys ≡ (EndOf s ∷ k.0) ++ ys = sym (j.2 ys) ∙ sym (ap (λ l. from l s) ho) ∙ e ∙ k.2 ys in
          let tails : EndOf s ∷ j.0 ≡ EndOf s ∷ k.0 = append_cancel_right (EndOf s ∷ j.0) (EndOf s ∷ k.0) ys both in
          ap (λ l. from l s) hn ∙ j.2 ws ∙ ap (λ l. l ++ ws) tails ∙ sym (k.2 ws)
      behind t ho hn (inr k) (inr j) = ap (λ l. from l s) hn ∙ j ws ∙ sym (k ws)
      behind t ho hn (inl k) (inr j) = far s s k.0 (sym (a.old s q) ∙ sym (j ys) ∙ sym (ap (λ l. from l s) ho) ∙ e ∙ k.2 ys)
      behind t ho hn (inr k) (inl j) = far s s j.0 (sym (a.old s q) ∙ sym (k ys) ∙ sym e ∙ ap (λ l. from l s) ho ∙ j.2 ys)

      go : Seam xs h → Seam xs s → from (from (xs ++ ws) h) s ≡ from (xs ++ ws) s
      go (inl k) o = behind k.0 (k.2 ys) (k.2 ws) o (seam (EndOf h ∷ k.0) s)
      go (inr k) (inr o) = ap (λ l. from l s) (k ws ∙ a.new h p ∙ sym (a.old h p) ∙ sym (k ys)) ∙ e ∙ o ys ∙ a.old s q ∙ sym (a.new s q)
          ∙ sym (o ws)
      go (inr k) (inl o) = high (from zs h) (from-short zs h) (sym (ap (λ l. from l s) (k ys ∙ a.old h p)) ∙ e ∙ o.2 ys)
        where
          high : (l : List Element) → length l ≤ length zs → from l s ≡ EndOf s ∷ (o.0 ++ ys) → from (from (xs ++ ws) h) s
              ≡ from (xs ++ ws) s
          high l short f = absurd (omega (arith, from-short l s, ap length f, length-append o.0 ys, a.short, short))

  presents-moved : (xs : List Element) (hs : List Name) → Each (IsApart inside) hs → Each (IsPresent (xs ++ ys)) hs
      → Each (IsPresent (xs ++ ws)) hs
  presents-moved xs [] h p = tt
  presents-moved xs (s ∷ hs) h p = (present-moved xs s h.0 p.0, presents-moved xs hs h.1 p.1)

  laters-moved : (xs : List Element) (k : Name) (hs : List Name) → IsApart inside k → Each (IsApart inside) hs
      → Each (λ s. from (from (xs ++ ys) k) s ≡ from (xs ++ ys) s) hs → Each (λ s. from (from (xs ++ ws) k) s ≡ from (xs ++ ws) s) hs
  laters-moved xs k [] i h p = tt
  laters-moved xs k (s ∷ hs) i h p = (later-moved xs k s i h.0 p.0, laters-moved xs k hs i h.1 p.1)

  chain-moved : (xs : List Element) (hs : List Name) → Each (IsApart inside) hs → IsChain (xs ++ ys) hs → IsChain (xs ++ ws) hs
  chain-moved xs [] h p = tt
  chain-moved xs (k ∷ hs) h p = (laters-moved xs k hs h.0 h.1 p.0, chain-moved xs hs h.1 p.1)

  guarded-moved : (xs : List Element) (s : Name) → IsApart inside s → IsGuarded (xs ++ ys) s → IsGuarded (xs ++ ws) s
  guarded-moved xs s h m = go (seam xs s)
    where
      first : (t : List Element) → t ++ ys ≡ Catch s m.scope m.catcher m.recovery m.name m.after ∷ m.under → from (xs ++ ws) s
          ≡ EndOf s ∷ (t ++ ws) → IsGuarded (xs ++ ws) s
      first [] e k = absurd (a.no_catch s m.scope m.catcher m.recovery m.name m.after m.under h e)
      first (x ∷ t) e k =
          let here : x ≡ Catch s m.scope m.catcher m.recovery m.name m.after = cc in
          record {
            scope = m.scope;
            catcher = m.catcher;
            recovery = m.recovery;
            name = m.name;
            after = m.after;
            under = t ++ ws;
            found =
                k ∙ ap (λ y. EndOf s ∷ y ∷ (t ++ ws)) here;
          }

      tail : (t l : List Element) → EndOf s ∷ t ≡ EndOf s ∷ l → t ≡ l
      tail t l e = cc

      go : Seam xs s → IsGuarded (xs ++ ws) s
      go (inl k) = first k.0 (tail (k.0 ++ ys) _ (sym (k.2 ys) ∙ m.found)) (k.2 ws)
      go (inr k) = record {
        scope = m.scope;
        catcher = m.catcher;
        recovery = m.recovery;
        name = m.name;
        after = m.after;
        under =
            m.under;
        found = k ws ∙ a.new s h ∙ sym (a.old s h) ∙ sym (k ys) ∙ m.found;
      }

  gathered-moved : (xs : List Element) (s : Name) → IsApart inside s → IsGathered (xs ++ ys) s → IsGathered (xs ++ ws) s
  gathered-moved xs s h m = go (seam xs s)
    where
      first : (t : List Element) → t ++ ys ≡ Findall s m.scope m.results m.list m.name m.after ∷ m.under → from (xs ++ ws) s
          ≡ EndOf s ∷ (t ++ ws) → IsGathered (xs ++ ws) s
      first [] e k = absurd (a.no_findall s m.scope m.results m.list m.name m.after m.under h e)
      first (x ∷ t) e k =
          let here : x ≡ Findall s m.scope m.results m.list m.name m.after = cc in
          record {
            scope = m.scope;
            results = m.results;
            list = m.list;
            name = m.name;
            after = m.after;
            under = t ++ ws;
            found = k
                ∙ ap (λ y. EndOf s ∷ y ∷ (t ++ ws)) here;
          }

      tail : (t l : List Element) → EndOf s ∷ t ≡ EndOf s ∷ l → t ≡ l
      tail t l e = cc

      go : Seam xs s → IsGathered (xs ++ ws) s
      go (inl k) = first k.0 (tail (k.0 ++ ys) _ (sym (k.2 ys) ∙ m.found)) (k.2 ws)
      go (inr k) = record {
        scope = m.scope;
        results = m.results;
        list = m.list;
        name = m.name;
        after = m.after;
        under = m.under;
        found
            = k ws ∙ a.new s h ∙ sym (a.old s h) ∙ sym (k ys) ∙ m.found;
      }

  marks-moved : (xs : List Element) (items : List (Item Name)) → Each (IsItemApart inside) items → Each (IsMarkSound (xs ++ ys)) items
      → Each (IsMarkSound (xs ++ ws)) items
  marks-moved xs [] h m = tt
  marks-moved xs (GoalItem t s ∷ items) h m = (tt, marks-moved xs items h.1 m.1)
  marks-moved xs (CatchMark s ∷ items) h m = (guarded-moved xs s h.0 m.0, marks-moved xs items h.1 m.1)
  marks-moved xs (CollectMark t s ∷ items) h m = (gathered-moved xs s h.0 m.0, marks-moved xs items h.1 m.1)
  marks-moved xs (RemovalItem n ∷ items) h m = (tt, marks-moved xs items h.1 m.1)

  names-apart : (items : List (Item Name)) → Each (IsItemApart inside) items → Each (IsApart inside) (names items)
  names-apart [] h = tt
  names-apart (GoalItem t s ∷ items) h = (h.0, names-apart items h.1)
  names-apart (CatchMark s ∷ items) h = (h.0, names-apart items h.1)
  names-apart (CollectMark t s ∷ items) h = (h.0, names-apart items h.1)
  names-apart (RemovalItem n ∷ items) h = names-apart items h.1

  findalls-moved : (P : Name → Type 0) → ((e : Name) → inside e ≡ true → P e) → (xs : List Element) → EachFindall P (xs ++ ys)
      → EachFindall P (xs ++ ws)
  findalls-moved P f [] h = a.findalls P f h
  findalls-moved P f (EndOf e ∷ xs) h = findalls-moved P f xs h
  findalls-moved P f (Credit k rs ∷ xs) h = findalls-moved P f xs h
  findalls-moved P f (Plain p g ∷ xs) h = findalls-moved P f xs h
  findalls-moved P f (Catch e u c r p g ∷ xs) h = findalls-moved P f xs h
  findalls-moved P f (Findall e u results list p g ∷ xs) h = (h.0, findalls-moved P f xs h.1)
  findalls-moved P f (End p b ∷ xs) h = findalls-moved P f xs h

  beside-older : (p : Name) → IsBeside inside p → (e : Name) → inside e ≡ true → IsMadeElsewhere p e
  beside-older p b e i = λ more k. false≢true (sym (b more) ∙ ap inside (sym k) ∙ i)

  apart-other : (s : Name) → IsApart inside s → (e : Name) → inside e ≡ true → e ≡ s → ⊥
  apart-other s h e i = λ k. false≢true (sym h ∙ ap inside (sym k) ∙ i)

  entry-moved : (p : Name) (xs : List Element) (hs : List Name) (items : List (Item Name)) → IsBeside inside p
      → Each (IsApart inside) hs → Each (IsItemApart inside) items → IsEntrySound p (xs ++ ys) hs items
      → IsEntrySound p (xs ++ ws) hs items
  entry-moved p xs hs items b h i s = record {
    carried = record {
      older = s.carried.older;
      present = presents-moved xs hs h s.carried.present;
      chain = chain-moved xs hs h
          s.carried.chain;
    };
    marks = marks-moved xs items i s.marks;
    findalls = findalls-moved (IsMadeElsewhere p) (beside-older p b) xs s.findalls;
  }

  pub count-append : (xs ls : List Element) → element_count (xs ++ ls) ≡ element_count xs + element_count ls
  count-append [] ls = omega arith
  count-append (EndOf e ∷ xs) ls = count-append xs ls
  count-append (Credit k rs ∷ xs) ls = omega (arith, count-append xs ls)
  count-append (Plain p f ∷ xs) ls = omega (arith, count-append xs ls)
  count-append (Catch e u c r p f ∷ xs) ls = omega (arith, count-append xs ls)
  count-append (Findall e u results list p f ∷ xs) ls = omega (arith, count-append xs ls)
  count-append (End p b ∷ xs) ls = omega (arith, count-append xs ls)

  -- the scope right under an entry ends in front of the segment
  under-moved : (xs : List Element) (u : Name) → IsApart inside u → IsRightUnder (xs ++ ys) u → IsRightUnder (xs ++ ws) u
  under-moved xs u p h = go (seam xs u)
    where
      go : Seam xs u → IsRightUnder (xs ++ ws) u
      go (inl k) =
          let size : element_count (k.0 ++ ys) ≡ element_count (xs ++ ys) = sym (ap element_count (k.2 ys)) ∙ h in
          ap element_count (k.2 ws) ∙ omega (arith, size, count-append k.0 ys, count-append k.0 ws, count-append xs ys, count-append xs ws)
      go (inr k) = let low : height zs u ≡ element_count (xs ++ ys) = sym (ap element_count (k ys ∙ a.old u p))
          ∙ h in absurd (omega (arith, low, height-le zs u, count-append xs ys, a.fewer))

  records-moved : (xs : List Element) (rs : List Record) → Each (IsRecordApart inside) rs → Each (λ o. IsGathered (xs ++ ys) o.0) rs
      → Each (λ o. IsGathered (xs ++ ws) o.0) rs
  records-moved xs [] h m = tt
  records-moved xs (o ∷ rs) h m = (gathered-moved xs o.0 h.0 m.0, records-moved xs rs h.1 m.1)

  -- what is in front stays sound
  pub front-sound : (pre : List Element) → Each (IsBlind inside) pre → IsSound (pre ++ ys) → IsSound (pre ++ ws)
  front-sound [] b h = a.sound
  front-sound (EndOf e ∷ xs) b h = front-sound xs b.1 h
  front-sound (Credit k rs ∷ xs) b h = (records-moved xs rs b.0 h.0, front-sound xs b.1 h.1)
  front-sound (Plain p g ∷ xs) b h =
      (entry-moved p xs (names g.items) g.items b.0.0 (names-apart g.items b.0.1) b.0.1 h.0, front-sound xs b.1 h.1)
  front-sound (Catch e u t r p g ∷ xs) b h = (
    entry-moved p xs (u ∷ names g.items) g.items b.0.2 (b.0.1, names-apart g.items b.0.3) b.0.3 h.0,
    under-moved xs u b.0.1 h.1,
    front-sound xs b.1 h.2,
  )
  front-sound (Findall e u results list p g ∷ xs) b h = (
    entry-moved p xs (u ∷ names g.items) g.items b.0.2 (b.0.1, names-apart g.items b.0.3) b.0.3 h.0,
    under-moved xs u b.0.1 h.1,
    findalls-moved (λ o. o ≡ e → ⊥) (apart-other e b.0.0) xs h.2,
    front-sound xs b.1 h.3,
  )
  front-sound (End p t ∷ xs) b h = front-sound xs b.1 h
