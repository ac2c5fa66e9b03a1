-- An entry that looks up a branch carries sound names over the floor by names.
use Rattle.std.proofs.Common.{◌≡◌, ℕ, suc, ◌==◌, Bool, true, false, cond, List, [], ◌∷◌, map, length, refl, sym, ap, ◌∙◌, subst}
use Rattle.au_model.specs.Terms.Each.{Each}
use Rattle.run_model.specs.Machine.Items.{Item, GoalItem, CatchMark, CollectMark, RemovalItem}
use Rattle.tree_model.specs.Elements.{Name, Element, Credit, Plain, EndOf, Catch, Findall, End}
use Rattle.interleaving.specs.Erased.{from}
use Rattle.interleaving.specs.Sound.{names, IsMadeElsewhere, IsPresent, IsChain, AreCarried, IsGuarded, IsGathered, IsMarkSound}
use Rattle.tree_model.specs.Nodes.{CatchNode, FindallNode}
use Rattle.tree_model.specs.Levels.{Level}
use Rattle.tree_model.specs.Floors.{renamed_item}
use Rattle.tree_model.specs.PendingLists.{Way, way_of, step_of, step_name, scope_on, back_of}
use Rattle.tree_model.specs.Ways.{is_on, way_from, way_above, AreScoped}
use Rattle.interleaving.proofs.WayLemmas.{reach-on, through-on}
use Rattle.interleaving.proofs.RoundtripLemmas.{IsPath, IsPart, part_from, part_above}
use Rattle.interleaving.proofs.CollapseLemmas.{path-from, path-above}
use Rattle.interleaving.proofs.NamedFloorLemmas.{below_named, floor_named}
use Rattle.interleaving.proofs.PublishedBareLemmas.{right_of}
use Rattle.interleaving.proofs.BranchLemmas.{upto, scope_pair, below_after, from_from, above_from, above_in_from, pair_older}
use Rattle.interleaving.proofs.LowSoundLemmas.{IsCatchOf, IsFindallOf, caught, gathered, guards_low}
use Rattle.au_term.proofs.LogicLemmas.{true_false}

tail_of : (x y : Element) (xs ys : List Element) → x ∷ xs ≡ y ∷ ys → xs ≡ ys
tail_of x y xs ys e = cc

end_of : (s t : Name) (xs ys : List Element) → EndOf s ∷ xs ≡ EndOf t ∷ ys → s ≡ t
end_of s t xs ys e = cc

pub nothing : (t : Name) (ys : List Element) → [] ≡ EndOf t ∷ ys → ⊥
nothing t ys e = cc

catch_found : (X : List Element) (t : Name) (rest : List Element) (head : Element) → IsCatchOf t head → from X t ≡ EndOf t ∷ head ∷ rest
    → IsGuarded X t
catch_found X t rest (Catch s u c r p f) g e = record {
  scope = u;
  catcher = c;
  recovery = r;
  name = p;
  after = f;
  under = rest;
  found = e ∙ ap (λ z. EndOf t ∷ Catch z u c r p f ∷ rest)
      g;
}
catch_found X t rest (Findall s u results l p f) g e = absurd g
catch_found X t rest (Credit k rs) g e = absurd g
catch_found X t rest (Plain p f) g e = absurd g
catch_found X t rest (EndOf s) g e = absurd g
catch_found X t rest (End p b) g e = absurd g

findall_found : (X : List Element) (t : Name) (rest : List Element) (head : Element) → IsFindallOf t head → from X t
    ≡ EndOf t ∷ head ∷ rest → IsGathered X t
findall_found X t rest (Findall s u results l p f) g e = record {
  scope = u;
  results = results;
  list = l;
  name = p;
  after = f;
  under = rest;
  found = e
      ∙ ap (λ z. EndOf t ∷ Findall z u results l p f ∷ rest) g;
}
findall_found X t rest (Catch s u c r p f) g e = absurd g
findall_found X t rest (Credit k rs) g e = absurd g
findall_found X t rest (Plain p f) g e = absurd g
findall_found X t rest (EndOf s) g e = absurd g
findall_found X t rest (End p b) g e = absurd g

guard_low : (ls : List Level) (t : Name) (X Y : List Element) → from X t ≡ below_named ls → from Y t ≡ back_of ls → IsGuarded Y t
    → IsGuarded X t
guard_low [] t X Y x y g = absurd (nothing t _ (sym y ∙ g.found))
guard_low (u ∷ w) t X Y x y g =
    let real = sym y ∙ g.found in
    let right = tail_of (EndOf (step_name (step_of u))) (EndOf t) (right_of (u ∷ w))
    (Catch t g.scope g.catcher g.recovery g.name g.after ∷ g.under) real in
    let own = end_of (step_name (step_of u)) t (right_of (u ∷ w)) (Catch t g.scope g.catcher g.recovery g.name g.after ∷ g.under) real in
    let low = guards_low u w t (IsCatchOf t) (λ k z. z) (λ k rs z. z) (λ s z. z)
    (λ way wide e xs rest head z q. caught u.number (suc (length u.left)) way wide e t xs rest head z q) g.under
    (Catch t g.scope g.catcher g.recovery g.name g.after) refl right in
    catch_found X t low.rest low.head low.is_guard
    (x ∙ (ap (λ l. EndOf (step_name (step_of u)) ∷ l) low.same ∙ ap (λ z. EndOf z ∷ low.head ∷ low.rest) own))

gather_low : (ls : List Level) (t : Name) (X Y : List Element) → from X t ≡ below_named ls → from Y t ≡ back_of ls → IsGathered Y t
    → IsGathered X t
gather_low [] t X Y x y g = absurd (nothing t _ (sym y ∙ g.found))
gather_low (u ∷ w) t X Y x y g =
    let real = sym y ∙ g.found in
    let right = tail_of (EndOf (step_name (step_of u))) (EndOf t) (right_of (u ∷ w))
    (Findall t g.scope g.results g.list g.name g.after ∷ g.under) real in
    let own = end_of (step_name (step_of u)) t (right_of (u ∷ w)) (Findall t g.scope g.results g.list g.name g.after ∷ g.under) real in
    let low = guards_low u w t (IsFindallOf t) (λ k z. z) (λ k rs z. z) (λ s z. z)
    (λ way wide e xs rest head z q. gathered u.number (suc (length u.left)) way wide e t xs rest head z q) g.under
    (Findall t g.scope g.results g.list g.name g.after) refl right in
    findall_found X t low.rest low.head low.is_guard
    (x ∙ (ap (λ l. EndOf (step_name (step_of u)) ∷ l) low.same ∙ ap (λ z. EndOf z ∷ low.head ∷ low.rest) own))

-- a level's own end comes first
upto_first : (levels : List Level) (s : ℕ) → is_on (way_of levels) s ≡ true → (rest : List Element) × below_named (upto levels s)
    ≡ EndOf (scope_on (way_of levels) s) ∷ rest
upto_first [] s h = absurd (true_false (sym h))
upto_first (v ∷ up) s h = go (v.number == s) (upto_first up s) h
  where
    go : (b : Bool) → (is_on (way_of up) s ≡ true → (rest : List Element) × below_named (upto up s)
        ≡ EndOf (scope_on (way_of up) s) ∷ rest) → cond b true (is_on (way_of up) s) ≡ true →
        (rest : List Element) × below_named (cond b (v ∷ up) (upto up s))
        ≡ EndOf (cond b (step_name (step_of v)) (scope_on (way_of up) s)) ∷ rest
    go true f k = (floor_named (v ∷ up), refl)
    go false f k = f k

module _ (levels : List Level) (path : IsPath (way_of levels)) (X : List Element)
    (passes : (s : ℕ) → is_on (way_of levels) s ≡ true → from X (scope_on (way_of levels) s) ≡ below_named (upto levels s)) where
  abbrev renamed : List (Item ℕ) → List (Item Name)
  renamed items = map (renamed_item (scope_on (way_of levels)) (scope_on (way_of levels))) items

  name_older : (p : Name) → length p ≡ 3 → (s : ℕ) → is_on (way_of levels) s ≡ true → IsMadeElsewhere p (scope_on (way_of levels) s)
  name_older p l s h = let n = scope_pair (way_of levels) s h in subst (IsMadeElsewhere p) (sym n.same) (pair_older p l n.index s)

  name_present : (s : ℕ) → is_on (way_of levels) s ≡ true → IsPresent X (scope_on (way_of levels) s)
  name_present s h = let r = upto_first levels s h in (r.0, passes s h ∙ r.1)

  name_after : (h r : ℕ) → is_on (way_of levels) h ≡ true → is_on (way_from (way_of levels) h) r ≡ true
      → from (from X (scope_on (way_of levels) h)) (scope_on (way_of levels) r) ≡ from X (scope_on (way_of levels) r)
  name_after h r o k = ap (λ l. from l (scope_on (way_of levels) r)) (passes h o)
      ∙ (below_after levels path h r k ∙ sym (passes r (part_from (way_of levels) h r k)))

  items_older : (p : Name) → length p ≡ 3 → (part : Way) (items : List (Item ℕ)) → IsPart part (way_of levels) → AreScoped part items
      → Each (IsMadeElsewhere p) (names (map (renamed_item (scope_on (way_of levels)) (scope_on (way_of levels))) items))
  items_older p l part [] k h = tt
  items_older p l part (GoalItem t s ∷ items) k h =
      (name_older p l s (k s (reach-on part s h.0)), items_older p l (way_from part s) items (λ r z. k r (part_from part s r z)) h.1)
  items_older p l part (CatchMark s ∷ items) k h = (
    name_older p l s (k s (through-on CatchNode part s h.0)),
    items_older p l (way_above part s) items
        (λ r z. k r (part_above part s r z)) h.1,
  )
  items_older p l part (CollectMark t s ∷ items) k h = (
    name_older p l s (k s (through-on FindallNode part s h.0)),
    items_older p l (way_above part s) items
        (λ r z. k r (part_above part s r z)) h.1,
  )
  items_older p l part (RemovalItem n ∷ items) k h = items_older p l part items k h

  items_present : (part : Way) (items : List (Item ℕ)) → IsPart part (way_of levels) → AreScoped part items
      → Each (IsPresent X) (names (map (renamed_item (scope_on (way_of levels)) (scope_on (way_of levels))) items))
  items_present part [] k h = tt
  items_present part (GoalItem t s ∷ items) k h =
      (name_present s (k s (reach-on part s h.0)), items_present (way_from part s) items (λ r z. k r (part_from part s r z)) h.1)
  items_present part (CatchMark s ∷ items) k h = (
    name_present s (k s (through-on CatchNode part s h.0)),
    items_present (way_above part s) items
        (λ r z. k r (part_above part s r z)) h.1,
  )
  items_present part (CollectMark t s ∷ items) k h = (
    name_present s (k s (through-on FindallNode part s h.0)),
    items_present (way_above part s) items
        (λ r z. k r (part_above part s r z)) h.1,
  )
  items_present part (RemovalItem n ∷ items) k h = items_present part items k h

  items_later : (h : ℕ) → is_on (way_of levels) h ≡ true → (part : Way) (items : List (Item ℕ))
      → ((r : ℕ) → is_on part r ≡ true → is_on (way_from (way_of levels) h) r ≡ true) → AreScoped part items →
      Each (λ s. from (from X (scope_on (way_of levels) h)) s ≡ from X s)
      (names (map (renamed_item (scope_on (way_of levels)) (scope_on (way_of levels))) items))
  items_later h o part [] k z = tt
  items_later h o part (GoalItem t s ∷ items) k z =
      (name_after h s o (k s (reach-on part s z.0)), items_later h o (way_from part s) items (λ r q. k r (part_from part s r q)) z.1)
  items_later h o part (CatchMark s ∷ items) k z = (
    name_after h s o (k s (through-on CatchNode part s z.0)),
    items_later h o (way_above part s) items
        (λ r q. k r (part_above part s r q)) z.1,
  )
  items_later h o part (CollectMark t s ∷ items) k z = (
    name_after h s o (k s (through-on FindallNode part s z.0)),
    items_later h o (way_above part s) items
        (λ r q. k r (part_above part s r q)) z.1,
  )
  items_later h o part (RemovalItem n ∷ items) k z = items_later h o part items k z

  -- a part of the way, and what is from a node on in it
  abbrev Falls : Way → Type 0
  Falls part = (s r : ℕ) → is_on part s ≡ true → is_on (way_from part s) r ≡ true → is_on (way_from (way_of levels) s) r ≡ true

  falls_from : (part : Way) (h : ℕ) → IsPath part → Falls part → Falls (way_from part h)
  falls_from part h p f s r o k = f s r (part_from part h s o) (from_from part p h s r o k)

  falls_above : (part : Way) (h : ℕ) → IsPath part → Falls part → Falls (way_above part h)
  falls_above part h p f s r o k = f s r (part_above part h s o) (above_from part p h s r o k)

  items_chain : (part : Way) (items : List (Item ℕ)) → IsPath part → IsPart part (way_of levels) → Falls part → AreScoped part items
      → IsChain X (names (map (renamed_item (scope_on (way_of levels)) (scope_on (way_of levels))) items))
  items_chain part [] p k f h = tt
  items_chain part (GoalItem t s ∷ items) p k f h =
      let on = reach-on part s h.0 in (
        items_later s (k s on) (way_from part s) items (λ r z. f s r on z) h.1,
        items_chain (way_from part s) items (path-from part s p)
            (λ r z. k r (part_from part s r z)) (falls_from part s p f) h.1,
      )
  items_chain part (CatchMark s ∷ items) p k f h =
      let on = through-on CatchNode part s h.0 in (
        items_later s (k s on) (way_above part s) items (λ r z. f s r on (above_in_from part s r z)) h.1,
        items_chain (way_above part s)
            items (path-above part s p) (λ r z. k r (part_above part s r z)) (falls_above part s p f) h.1,
      )
  items_chain part (CollectMark t s ∷ items) p k f h =
      let on = through-on FindallNode part s h.0 in (
        items_later s (k s on) (way_above part s) items (λ r z. f s r on (above_in_from part s r z)) h.1,
        items_chain (way_above part s)
            items (path-above part s p) (λ r z. k r (part_above part s r z)) (falls_above part s p f) h.1,
      )
  items_chain part (RemovalItem n ∷ items) p k f h = items_chain part items p k f h

  pub carried_low : (p : Name) → length p ≡ 3 → (items : List (Item ℕ)) → AreScoped (way_of levels) items
      → AreCarried p X (names (map (renamed_item (scope_on (way_of levels)) (scope_on (way_of levels))) items))
  carried_low p l items h = record {
    older = items_older p l (way_of levels) items (λ r z. z) h;
    present = items_present (way_of levels) items (λ r z. z) h;
    chain = items_chain (way_of levels) items path (λ r z. z) (λ s r o k. k) h;
  }

  -- marks, by those of the whole list under the same names or wider ones
  pub marks_low : (Y : List Element) (wide : ℕ → Name)
      → ((s : ℕ) → is_on (way_of levels) s ≡ true → wide s ≡ scope_on (way_of levels) s)
      → ((s : ℕ) → is_on (way_of levels) s ≡ true → from Y (scope_on (way_of levels) s) ≡ back_of (upto levels s)) →
      (part : Way) (items : List (Item ℕ)) → IsPart part (way_of levels) → AreScoped part items
      → Each (IsMarkSound Y) (map (renamed_item wide wide) items)
      → Each (IsMarkSound X) (map (renamed_item (scope_on (way_of levels)) (scope_on (way_of levels))) items)
  marks_low Y wide agree real part [] k h m = tt
  marks_low Y wide agree real part (GoalItem t s ∷ items) k h m =
      (tt, marks_low Y wide agree real (way_from part s) items (λ r z. k r (part_from part s r z)) h.1 m.1)
  marks_low Y wide agree real part (CatchMark s ∷ items) k h m =
      let on = k s (through-on CatchNode part s h.0) in (
        guard_low (upto levels s) (scope_on (way_of levels) s) X Y (passes s on) (real s on) (subst (IsGuarded Y) (agree s on) m.0),
        marks_low Y wide agree real (way_above part s) items (λ r z. k r (part_above part s r z)) h.1 m.1,
      )
  marks_low Y wide agree real part (CollectMark t s ∷ items) k h m =
      let on = k s (through-on FindallNode part s h.0) in (
        gather_low (upto levels s) (scope_on (way_of levels) s) X Y (passes s on) (real s on) (subst (IsGathered Y) (agree s on) m.0),
        marks_low Y wide agree real (way_above part s) items (λ r z. k r (part_above part s r z)) h.1 m.1,
      )
  marks_low Y wide agree real part (RemovalItem n ∷ items) k h m = (tt, marks_low Y wide agree real part items k h m.1)
