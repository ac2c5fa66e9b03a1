-- A cut at an alternative that is out: the list runs as before.
use Rattle.std.proofs.Common.{◌≡◌, ℕ, ◌+◌, ◌≤◌, ◌==◌, Bool, true, false, cond, List, [], ◌∷◌, ◌++◌, map, length, Some, None, refl, sym}
use Rattle.std.proofs.Common.{ap, ◌∙◌, subst, arith}
use Rattle.std.specs.Prelude.{◌||◌}
use Rattle.au_model.specs.Terms.Each.{Each}
use Rattle.run_model.specs.Machine.Items.{Item, Continuation, with_items}
use Rattle.run_model.specs.Machine.Entries.{Entry, PlainEntry}
use Rattle.tree_model.specs.Levels.{Level, Spot, levels_of}
use Rattle.tree_model.specs.Floors.{renamed_item}
use Rattle.tree_model.specs.Orders.{levels_below}
use Rattle.tree_model.specs.TreeStates.{TreeState}
use Rattle.tree_model.specs.PendingLists.{way_of, scope_on, named_continuation}
use Rattle.tree_model.specs.Ways.{is_on, in_reach, way_from, AreScoped}
use Rattle.tree_model.specs.SoundTrees.{one_if, count_among, IsOpen, IsSoundTree}
use Rattle.tree_model.specs.CaughtTrees.{IsCaughtTree}
use Rattle.tree_model.specs.Elements.{Name, same, Record, Element, Credit, Plain, EndOf, Catch, Findall, End}
use Rattle.tree_model.proofs.CountLemmas.{count_left, count_around}
use Rattle.interleaving.specs.Machine.{Machine}
use Rattle.interleaving.specs.Scopes.{Shared, Sought, scoped}
use Rattle.interleaving.specs.Segments.{outer}
use Rattle.interleaving.specs.Quiet.{IsQuiet}
use Rattle.interleaving.specs.Roots.{rooted}
use Rattle.interleaving.specs.Views.{IsInner, IsRecordApart}
use Rattle.interleaving.specs.Laws.{is_inner_record}
use Rattle.interleaving.proofs.ContextLemmas.{IsAround}
use Rattle.interleaving.proofs.WayLemmas.{cond-true, cond-false, reach-on}
use Rattle.interleaving.proofs.RoundtripLemmas.{by_heights}
use Rattle.interleaving.proofs.OpenSpotLemmas.{IsOpenSpot}
use Rattle.interleaving.proofs.ClosingSoundLemmas.{IsFree}
use Rattle.interleaving.proofs.ApartLemmas.{same-true}
use Rattle.interleaving.proofs.ClockLemmas.{AreClear}
use Rattle.interleaving.proofs.ListEndLemmas.{ends_in, levels_down, on-counts}
use Rattle.interleaving.proofs.ListMarkLemmas.{around-down}
use Rattle.interleaving.proofs.LowerListLemmas.{count_lower, count_split}
use Rattle.interleaving.proofs.UpperBlindLemmas.{is_free_of, free_zero}
use Rattle.interleaving.proofs.CutSegmentLemmas.{CutPart, cut_part}
use Rattle.interleaving.proofs.PrunedBallLemmas.{placed_here, free_here, distinct_here}
use Rattle.au_term.proofs.LogicLemmas.{false_true, number_same}

-- the level of a node of the branch, and the scope that it is
pub record ScopeAt (levels : List Level) (n : ℕ) : Type 0 where
  pub level : Level
  pub above : List Level
  pub down : levels_down levels n ≡ level ∷ above
  pub number : level.number ≡ n
  pub scope : scope_on (way_of levels) n ≡ length level.left ∷ n ∷ []

scope_level : (levels : List Level) (n : ℕ) → is_on (way_of levels) n ≡ true → ScopeAt levels n
scope_level [] n h = false_true h
scope_level (v ∷ up) n h = go (v.number == n) refl h (λ k. scope_level up n k)
  where
    go : (b : Bool) → (v.number == n) ≡ b → cond b true (is_on (way_of up) n) ≡ true → (is_on (way_of up) n ≡ true → ScopeAt up n)
        → ScopeAt (v ∷ up) n
    go true e k f =
        let same : v.number ≡ n = grind arith in
        record {
          level = v;
          above = up;
          down = cond-true (v.number == n) (v ∷ up) (levels_down up n) e;
          number = same;
          scope = cond-true
              (v.number == n) _ (scope_on (way_of up) n) e ∙ ap (λ m. length v.left ∷ m ∷ []) same;
        }
    go false e k f =
        let r = f k in
        record {
          level = r.level;
          above = r.above;
          down = cond-false (v.number == n) (v ∷ up) (levels_down up n) e
              ∙ r.down;
          number = r.number;
          scope = cond-false (v.number == n) _ (scope_on (way_of up) n) e ∙ r.scope;
        }

-- no end of this scope is among what is of other nodes
pub inner_no_end : (inside : Name → Bool) (h : Name) (xs : List Element) → inside h ≡ false → Each (IsInner inside) xs → ends_in h xs
    ≡ false
inner_no_end inside h [] e k = refl
inner_no_end inside h (EndOf s ∷ xs) e k = go (same h s) refl (inner_no_end inside h xs e k.1)
  where
    go : (b : Bool) → same h s ≡ b → ends_in h xs ≡ false → (b || ends_in h xs) ≡ false
    go false q z = z
    go true q z = false_true (sym e ∙ (ap inside (same-true h s q) ∙ k.0))
inner_no_end inside h (Credit j rs ∷ xs) e k = inner_no_end inside h xs e k.1
inner_no_end inside h (Plain p f ∷ xs) e k = inner_no_end inside h xs e k.1
inner_no_end inside h (Catch s u c r p f ∷ xs) e k = inner_no_end inside h xs e k.1
inner_no_end inside h (Findall s u rs l p f ∷ xs) e k = inner_no_end inside h xs e k.1
inner_no_end inside h (End p b ∷ xs) e k = inner_no_end inside h xs e k.1

pub outer_apart : (inside : Name → Bool) (rs : List Record) → Each (IsRecordApart inside) (outer (is_inner_record inside) rs)
outer_apart inside [] = tt
outer_apart inside (r ∷ rs) = go (inside r.0) refl (outer_apart inside rs)
  where
    go : (b : Bool) → inside r.0 ≡ b → Each (IsRecordApart inside) (outer (is_inner_record inside) rs)
        → Each (IsRecordApart inside) (cond b (outer (is_inner_record inside) rs) (r ∷ outer (is_inner_record inside) rs))
    go true e h = h
    go false e h = (e, h)

pub no_quiet : (xs : List Element) (p : Name) (f : Continuation Name) (ys : List Element) → IsQuiet (xs ++ (Plain p f ∷ ys)) → ⊥
no_quiet [] p f ys h = h
no_quiet (Credit k rs ∷ xs) p f ys h = no_quiet xs p f ys h
no_quiet (EndOf s ∷ xs) p f ys h = no_quiet xs p f ys h
no_quiet (Catch s u c r q g ∷ xs) p f ys h = no_quiet xs p f ys h
no_quiet (Plain q g ∷ xs) p f ys h = h
no_quiet (Findall s u rs l q g ∷ xs) p f ys h = h
no_quiet (End q b ∷ xs) p f ys h = h

module _ (t : TreeState) (i : IsSoundTree t) (k : IsCaughtTree t) (running : t.halted ≡ None) (s : Spot) (o : IsOpenSpot t.root s)
    (f : Continuation ℕ) (entry : s.entry ≡ PlainEntry f)
    (n : ℕ) (reach : in_reach (way_of (levels_of s)) n ≡ true) (below : (s.level.number == n) ≡ false) (items : List (Item ℕ))
    (part : AreScoped (way_from (way_of (levels_of s)) n) items) (all : AreScoped (way_of (levels_of s)) items)
    (g : Continuation ℕ) (same_named : g.named ≡ f.named) (same_next : g.next ≡ f.next)
    (clear : AreClear (levels_below (Some n) (levels_of s))) where
  abbrev levels : List Level
  levels = levels_of s

  abbrev v : Level
  v = s.level

  abbrev m : Machine Shared Element Sought Record
  m = scoped t.job.clauses

  abbrev own : Name
  own = 0 ∷ length s.level.left ∷ s.level.number ∷ []

  abbrev named : Continuation Name
  named = named_continuation (way_of (levels_of s)) f

  abbrev sc : ℕ → Name
  sc = scope_on (way_of (levels_of s))

  -- what follows the cut, by names
  abbrev pub after_cut : Continuation Name
  after_cut = record {
    items = map (renamed_item (scope_on (way_of (levels_of s))) (scope_on (way_of (levels_of s)))) items;
    named =
        f.named;
    next = f.next;
  }

  abbrev pub cut_entry : Entry
  cut_entry = PlainEntry (with_items (by_heights (levels_of s) items) g)

  on : is_on (way_of levels) n ≡ true
  on = reach-on (way_of levels) n reach

  pub at : ScopeAt levels n
  at = scope_level levels n on

  abbrev w : Level
  w = at.level

  abbrev up : List Level
  up = at.above

  abbrev h : Name
  h = length w.left ∷ n ∷ []

  upper : IsAround (w ∷ up) IsOpen
  upper = subst (λ l. IsAround l IsOpen) at.down (around-down levels n (placed_here t i k running s o f entry).around)

  counted_up : (r : ℕ) → count_around r levels ≡ count_around r (w ∷ up) + count_lower r n levels
  counted_up r = count_split r n levels ∙ ap (λ l. count_around r l + count_lower r n levels) at.down

  upper_free : IsFree t.next (w ∷ up)
  upper_free =
      let free = free_here t i k running s o f entry in
      record {
        distinct = λ r. let most = free.distinct r in let c = counted_up r in omega (arith, most, c);
        fresh = λ r l. let none = free.fresh r l in let c = counted_up r in omega (arith, none, c);
      }

  pub cut : CutPart w up
  cut = cut_part t.next w up upper upper_free

  pub low_free : (r : ℕ) → 1 ≤ count_lower r n levels → count_around r (w ∷ up) ≡ 0
  low_free r l = let most = distinct_here t i k running s o f entry r in let c = counted_up r in omega (arith, most, c, l)

  pub low_ok : (r : ℕ) → 1 ≤ count_lower r n levels → cut.ok r ≡ true
  low_ok r l = cut.free r (low_free r l)

  own_lower : 1 ≤ count_lower v.number n levels
  own_lower =
      let less : count_lower v.number n levels
      ≡ count_lower v.number n s.above +
      (one_if (v.number == v.number) + (count_left v.number v.left + count_among v.number v.right)) = cond-false (v.number == n) 0 _
      below in
      let one : one_if (v.number == v.number) ≡ 1 = ap one_if (number_same v.number) in
      omega (arith, less, one)

  pub own_inside : cut.inside own ≡ true
  own_inside = cut.named own (low_ok v.number own_lower)

  pub next_free : count_around t.next (w ∷ up) ≡ 0
  next_free = upper_free.fresh t.next (omega arith)

  pub next_inside : (j : ℕ) → cut.inside (j ∷ t.next ∷ []) ≡ true
  next_inside j = cut.named (j ∷ t.next ∷ []) (cut.free t.next next_free)

  pub next_own : cut.inside (0 ∷ 0 ∷ t.next ∷ []) ≡ true
  next_own = cut.named (0 ∷ 0 ∷ t.next ∷ []) (cut.free t.next next_free)

  pub scope_inside : cut.inside h ≡ true
  scope_inside = ap (λ r. cut.inside (length w.left ∷ r ∷ [])) (sym at.number) ∙ cut.scope

  -- numbers above
  pub here_on : (x : Level) (ys : List Level) → x.number ≡ n → is_on (way_of (x ∷ ys)) n ≡ true
  here_on x ys e = cond-true (x.number == n) true _ (ap (λ r. x.number == r) (sym e) ∙ number_same x.number)

  pub on_upper : (r : ℕ) → is_on (way_of (w ∷ up)) r ≡ true → 1 ≤ count_around r (w ∷ up)
  on_upper r z = on-counts r (w ∷ up) z

  pub upper_apart : (r j : ℕ) → 1 ≤ count_around r (w ∷ up) → rooted (is_free_of (w ∷ up)) (j ∷ r ∷ []) ≡ false
  upper_apart r j l = go (is_free_of (w ∷ up) r) refl
    where
      go : (b : Bool) → is_free_of (w ∷ up) r ≡ b → b ≡ false
      go false e = refl
      go true e = absurd (let z = free_zero (w ∷ up) r e in omega (arith, z, l))
