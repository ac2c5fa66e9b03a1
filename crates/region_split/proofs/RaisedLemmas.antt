-- A region whose store's state becomes its floor, under ends of queries alone.
use Rattle.std.proofs.Common.{ℕ, ◌+◌, List, [], ◌∷◌, map, refl}
use Rattle.au_model.specs.Terms.Each.{Each}
use Rattle.cell_store.specs.StoreView.{Moment, IsOlderMoment, raised}
use Rattle.region_split.specs.ChoicePoints.{RegionSetting, code_at, AreAlternativesAt, AreChoicesOver, IsChoiceOver}
use Rattle.region_split.specs.Frames.{left_items}
use Rattle.region_split.specs.QueryEnds.{IsEnd}
use Rattle.region_split.specs.Regions.{RegionView, region_setting, IsConsistentRegion}
use Rattle.region_split.specs.declared.choice.Alternatives.{Alternatives}
use Rattle.region_split.specs.declared.choice.Alternatives.TheVariants.{Clauses, Solutions, Elsewhere, Catch, Findall, QueryEnd}
use Rattle.region_split.specs.declared.choice.ChoicePoint.{ChoicePoint}
use Rattle.region_split.proofs.ScopeLemmas.{scoped_further, scoped_kept}

ends_come : (s : RegionSetting) (m : Moment) (a : Alternatives) → IsEnd a → AreAlternativesAt (record s { floor = m }) m a
ends_come s m (Clauses goal clause left) e = absurd e
ends_come s m (Solutions left) e = absurd e
ends_come s m Elsewhere e = absurd e
ends_come s m (Catch catcher recovery) e = absurd e
ends_come s m (Findall list results) e = absurd e
ends_come s m QueryEnd e = refl

module _ (r : RegionView) where
  abbrev now : Moment
  now = r.store.now

  abbrev s : RegionSetting
  s = region_setting [] r

  raised_choice : (cut frames : ℕ) (c : ChoicePoint) (m : Moment) → IsEnd c.alternatives → IsOlderMoment r.store m → IsChoiceOver s cut frames c m → IsChoiceOver (record s { floor = now }) cut frames c now
  raised_choice cut frames c m e o k = record {
    own = k.own;
    older = k.older;
    scoped =
        let left = left_items s.text.bodies s.frames c.after in
        scoped_further (code_at s now) m.next now.next cut left o.next (scoped_kept (code_at s m) (code_at s now) m.next cut left o.keeps k.scoped);
    values = ends_come s now c.alternatives e;
  }

  raised_choices : (cut frames : ℕ) (cs : List ChoicePoint) (ms : List Moment) → Each (λ c. IsEnd c.alternatives) cs → Each (IsOlderMoment r.store) ms → AreChoicesOver s cut frames cs ms
      → AreChoicesOver (record s { floor = now }) cut frames cs (map (λ m. now) ms)
  raised_choices cut frames [] [] e o k = tt
  raised_choices cut frames [] (m ∷ ms) e o k = absurd k
  raised_choices cut frames (c ∷ cs) [] e o k = absurd k
  raised_choices cut frames (c ∷ cs) (m ∷ ms) e o k = (raised_choice cut frames c m e.0 o.0 k.0, raised_choices (cut + 1) c.frames cs ms e.1 o.1 k.1)

  pub raised_region : Each (λ c. IsEnd c.alternatives) r.choices → Each (IsOlderMoment r.store) r.store.marks → IsConsistentRegion r → IsConsistentRegion (record r { store = raised r.store })
  raised_region e o k = record {
    program = k.program;
    choices = raised_choices 0 0 r.choices r.store.marks e o k.choices;
    frames = k.frames;
    older = k.older;
    marked = k.marked;
    ends = k.ends;
  }
