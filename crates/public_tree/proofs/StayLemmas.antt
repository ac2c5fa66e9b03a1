-- Where an alternative closes, it stays, or its node folds and it is gone.
use Rattle.std.proofs.Common.{◌≡◌, ◌≢◌, ◌⊎◌, inl, inr, ℕ, suc, ◌+◌, ◌≤◌, ◌==◌, List, [], ◌∷◌, Option, Some, None, refl, sym, ap, ◌∙◌, subst, arith}
use Rattle.run_model.specs.Machine.Entries.{Entry, PlainEntry, CatchEntry, FindallEntry, EndEntry}
use Rattle.tree_model.specs.Closing.{Grown, guarded, with_right, with_results, findall_goes_on, all_closed, folds, wakes, goal_side_closes, closes}
use Rattle.tree_model.specs.Credits.{Credit, no_credit, added, credit_of, without_records}
use Rattle.tree_model.specs.Effects.{spending}
use Rattle.tree_model.specs.Levels.{Level, plug, place_at}
use Rattle.tree_model.specs.Nodes.{Inner, Closed, single}
use Rattle.tree_model.specs.SoundTrees.{one_if, count_below}
use Rattle.tree_model.proofs.CountLemmas.{count_around, count_plug}

-- it stays, whatever is spent on it
pub record Stays (v : Level) (up : List Level) (c : Credit) (k : ℕ) (before after : Grown) : Type 0 where
  pub level : Level
  pub drawn : ℕ
  pub at : place_at level ≡ place_at v
  pub was : before ≡ record { root = plug (level ∷ up) (Closed c); next = drawn }
  pub now : after ≡ record { root = plug (record level { spent = v.spent + k } ∷ up) (Closed c); next = drawn }

-- the alternative above closes
pub record Folds (next : ℕ) (up : List Level) (before after : Grown) : Type 0 where
  pub total : Credit
  pub was : before ≡ closes next up total
  pub now : after ≡ closes next up total

module _ (next : ℕ) (v : Level) (c : Credit) (k : ℕ) (plain : without_records c ≡ c) where
  abbrev Either : List Level → Grown → Grown → Type 0
  Either up before after = Stays v up c k before after ⊎ Folds next up before after

  by_total : (w : Level) → place_at w ≡ place_at v → (up : List Level) (o : Option Credit)
      → Either up (folds next w up c o (closes next up)) (folds next (record w { spent = v.spent + k }) up c o (closes next up))
  by_total w at up None = inl (record { level = w; drawn = next; at = at; was = refl; now = refl })
  by_total w at [] (Some total) = inl (record { level = w; drawn = next; at = at; was = refl; now = refl })
  by_total w at (u ∷ up) (Some total) = inr (record { total = added (credit_of u.spent) total; was = refl; now = refl })

  woken : (up : List Level) (x : Credit) (e : Entry) → x ≡ c
      → Either up (wakes next v up x e) (wakes next (record v { spent = v.spent + k }) up x e)
  woken up x e same = inl (record {
    level = with_right (Inner (single next e)) v;
    drawn = suc next;
    at = refl;
    was = ap (λ (y : Credit). wakes next v up y e) same;
    now = ap (λ (y : Credit). wakes next (record v { spent = v.spent + k }) up y e) same;
  })

  by_sleeper : (up : List Level) (o : Option Entry) → Either up (goal_side_closes next v up c o (closes next up))
      (goal_side_closes next (record v { spent = v.spent + k }) up c o (closes next up))
  by_sleeper up None = by_total v refl up (all_closed v c)
  by_sleeper up (Some (PlainEntry f)) = by_total v refl up (all_closed v c)
  by_sleeper up (Some (CatchEntry catcher recovery f)) =
      by_total (with_right (Closed no_credit) v) refl up (all_closed (with_right (Closed no_credit) v) c)
  by_sleeper up (Some (FindallEntry results l f)) =
      woken up (without_records c) (findall_goes_on v.number (with_results c.records (FindallEntry results l f))) plain
  by_sleeper up (Some (EndEntry b)) = woken up c (EndEntry b) refl

  pub stays_or_folds : (up : List Level) → Either up (closes next (v ∷ up) c) (closes next (spending k (v ∷ up)) c)
  stays_or_folds up = by_sleeper up (guarded v)

-- no number comes to be there but the next one
module _ (next m : ℕ) where
  at_level : (w v : Level) (up : List Level) (c : Credit) → count_around m (w ∷ up) ≤ count_around m (v ∷ up) + one_if (next == m)
      → count_below m (plug (w ∷ up) (Closed c)) ≤ count_around m (v ∷ up) + one_if (next == m)
  at_level w v up c less = let p = count_plug m (w ∷ up) (Closed c) in omega (arith, p, less)

  folds_within : (w v : Level) (up : List Level) (c : Credit) (o : Option Credit) (go : Credit → Grown)
      → count_around m (w ∷ up) ≤ count_around m (v ∷ up)
      → ((x : Credit) → count_below m (go x).root ≤ count_around m up + one_if (next == m))
      → count_below m (folds next w up c o go).root ≤ count_around m (v ∷ up) + one_if (next == m)
  folds_within w v up c None go less above = at_level w v up c (omega (arith, less))
  folds_within w v [] c (Some total) go less above = at_level w v [] c (omega (arith, less))
  folds_within w v (u ∷ up) c (Some total) go less above = let a = above (added (credit_of u.spent) total) in omega (arith, a)

  wakes_within : (v : Level) (up : List Level) (c : Credit) (e : Entry)
      → count_below m (wakes next v up c e).root ≤ count_around m (v ∷ up) + one_if (next == m)
  wakes_within v up c e = at_level (with_right (Inner (single next e)) v) v up c (omega arith)

  pub closes_within : (levels : List Level) (c : Credit) → count_below m (closes next levels c).root ≤ count_around m levels + one_if (next == m)
  closes_within [] c = omega arith
  closes_within (v ∷ up) c = by_sleeper (guarded v) (λ x. closes_within up x)
    where
      by_sleeper : (o : Option Entry) → ((x : Credit) → count_below m (closes next up x).root ≤ count_around m up + one_if (next == m))
          → count_below m (goal_side_closes next v up c o (closes next up)).root ≤ count_around m (v ∷ up) + one_if (next == m)
      by_sleeper None go = folds_within v v up c (all_closed v c) (closes next up) (omega arith) go
      by_sleeper (Some (PlainEntry f)) go = folds_within v v up c (all_closed v c) (closes next up) (omega arith) go
      by_sleeper (Some (CatchEntry catcher recovery f)) go = folds_within (with_right (Closed no_credit) v) v up c
          (all_closed (with_right (Closed no_credit) v) c) (closes next up) (omega arith) go
      by_sleeper (Some (FindallEntry results l f)) go = wakes_within v up (without_records c) _
      by_sleeper (Some (EndEntry b)) go = wakes_within v up c (EndEntry b)
