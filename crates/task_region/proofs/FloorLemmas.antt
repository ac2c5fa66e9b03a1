-- Ends of a bare floor, one over another.
use Rattle.std.proofs.Common.{◌≡◌, ◌⊎◌, inl, inr, ℕ, suc, ◌+◌, ◌<◌, ◌≤◌, List, [], ◌∷◌, ◌++◌, length, length-append, None, refl, sym, ap, ◌∙◌, subst, arith}
use Rattle.std.proofs.lemmas.Bool.{cases_lt}
use Rattle.std.proofs.Math.ListN.{get_or-append}
use Rattle.std.proofs.Math.Seq.{get_or-append_seam}
use Rattle.au_model.specs.Terms.Named.{NamedTerm}
use Rattle.au_model.specs.Terms.Each.{Each}
use Rattle.au_model.proofs.EachLemmas.{each-append}
use Rattle.run_model.specs.Machine.Entries.{EndEntry}
use Rattle.run_model.specs.Machine.Items.{Continuation}
use Rattle.cell_store.specs.StoreView.{Moment, raised}
use Rattle.region_split.specs.ChoicePoints.{RegionSetting, Standing, alternative_entries, choice_entries, continuation_at, height_of_cut, standing_over, nothing_standing, with_entries_on_top}
use Rattle.region_split.specs.QueryEnds.{IsEnd}
use Rattle.region_split.specs.Regions.{RegionView, region_setting, standing, entries_of, heights_of}
use Rattle.region_split.specs.StackOperations.{AddsChoice}
use Rattle.region_split.specs.declared.choice.Alternatives.{Alternatives}
use Rattle.region_split.specs.declared.choice.Alternatives.TheVariants.{Clauses, Solutions, Elsewhere, Catch, Findall, QueryEnd}
use Rattle.region_split.specs.declared.choice.ChoicePoint.{ChoicePoint}
use Rattle.region_split.specs.declared.frame.Position.{Position}
use Rattle.region_floor.specs.BareFloors.{bare_floor}
use Rattle.region_floor.proofs.FloorSizeLemmas.{bare-size}
use Rattle.task_region.specs.BareRegions.{IsOverFloor, LaysFloor}

pub none_there : (cs : List ChoicePoint) → length cs ≡ 0 → cs ≡ []
none_there [] e = refl
none_there (c ∷ cs) e = absurd (omega (arith, e))

-- what ends of queries stand for, over so many others
record AreFloor (count : ℕ) (st : Standing) : Type 0 where
  pub entries : st.entries ≡ bare_floor count
  pub long : length st.heights ≡ suc count
  pub heights : (cut : ℕ) → cut ≤ count → height_of_cut st.heights cut ≡ cut

end_entry : (s : RegionSetting) (m : Moment) (height : ℕ) (f : Continuation ℕ) (a : Alternatives) → IsEnd a → alternative_entries s m height f a ≡ EndEntry None ∷ []
end_entry s m height f (Clauses goal clause left) e = absurd e
end_entry s m height f (Solutions left) e = absurd e
end_entry s m height f Elsewhere e = absurd e
end_entry s m height f (Catch catcher recovery) e = absurd e
end_entry s m height f (Findall list results) e = absurd e
end_entry s m height f QueryEnd e = refl

one_height : (heights : List ℕ) (count cut : ℕ) → length heights ≡ suc count → ((k : ℕ) → k ≤ count → height_of_cut heights k ≡ k) → cut ≤ suc count → (cut < suc count) ⊎ (suc count ≤ cut)
    → height_of_cut (heights ++ suc count ∷ []) cut ≡ cut
one_height heights count cut long same le (inl lt) = get_or-append heights (suc count ∷ []) 0 cut (omega (arith, long, lt)) ∙ same cut (omega (arith, lt))
one_height heights count cut long same le (inr ge) =
    let here : cut ≡ length heights = omega (arith, le, ge, long) in
    ap (height_of_cut (heights ++ suc count ∷ [])) here ∙ (get_or-append_seam heights (suc count) [] 0 ∙ omega (arith, le, ge))

floor_more : (s : RegionSetting) (count : ℕ) (st : Standing) (c : ChoicePoint) (m : Moment) → AreFloor count st → IsEnd c.alternatives → AreFloor (suc count) (with_entries_on_top (choice_entries s st c m) st)
floor_more s count st c m f e =
    let own = end_entry s m (length st.entries) (continuation_at s st.heights m c.after) c.alternatives e in
    let entries : choice_entries s st c m ++ st.entries ≡ bare_floor (suc count) = ap (λ es. es ++ st.entries) own ∙ ap (λ es. EndEntry None ∷ es) f.entries in
    let size : length (choice_entries s st c m ++ st.entries) ≡ suc count = ap length entries ∙ bare-size (suc count) in
    record {
      entries = entries;
      long = length-append st.heights (length (choice_entries s st c m ++ st.entries) ∷ []) ∙ (let l = f.long in omega (arith, l));
      heights = λ cut le.
          ap (λ n. height_of_cut (st.heights ++ n ∷ []) cut) size ∙ one_height st.heights count cut f.long f.heights le (cases_lt cut (suc count));
    }

ends_stand : (s : RegionSetting) (count : ℕ) (st : Standing) (cs : List ChoicePoint) (ms : List Moment) → AreFloor count st → Each (λ c. IsEnd c.alternatives) cs → length ms ≡ length cs
    → AreFloor (count + length cs) (standing_over s st cs ms)
ends_stand s count st [] ms f e l = subst (λ n. AreFloor n st) (omega arith) f
ends_stand s count st (c ∷ cs) [] f e l = absurd (omega (arith, l))
ends_stand s count st (c ∷ cs) (m ∷ ms) f e l =
    subst (λ n. AreFloor n (standing_over s st (c ∷ cs) (m ∷ ms))) (omega arith)
    (ends_stand s (suc count) (with_entries_on_top (choice_entries s st c m) st) cs ms (floor_more s count st c m f e.0) e.1 (omega (arith, l)))

-- the floor is raised to where ends stand
pub low_floor : (r new : RegionView) → new ≡ record r { store = raised r.store } → Each (λ c. IsEnd c.alternatives) r.choices → length new.store.marks ≡ length new.choices → LaysFloor r new (length r.choices)
low_floor r new set ends many = record {
  entries = λ named. (floor_here named).entries ∙ ap bare_floor count;
  below = λ named cut lt. (floor_here named).heights cut (omega (arith, lt, count));
  many = ap length same;
  ends = subst (Each (λ c. IsEnd c.alternatives)) (sym same) ends;
  text = ap (λ (x : RegionView). x.text) set;
  now = ap (λ (x : RegionView). x.store.now) set;
  start = ap (λ (x : RegionView). x.store.floor) set;
}
  where
    same : new.choices ≡ r.choices
    same = ap (λ (x : RegionView). x.choices) set

    count : 0 + length new.choices ≡ length r.choices
    count = let e = ap length same in omega (arith, e)

    none_yet : AreFloor 0 nothing_standing
    none_yet = record { entries = refl; long = refl; heights = λ cut le. let e : cut ≡ 0 = omega (arith, le) in ap (height_of_cut (0 ∷ [])) e ∙ sym e }

    floor_here : (named : List NamedTerm) → AreFloor (0 + length new.choices) (standing named new)
    floor_here named = ends_stand (region_setting named new) 0 nothing_standing new.choices new.store.marks none_yet (subst (Each (λ c. IsEnd c.alternatives)) (sym same) ends) many

-- one more
module _ (old r new : RegionView) (count : ℕ) (nothing : Position) (w : LaysFloor old r count) (a : AddsChoice r new QueryEnd nothing) where
  end_on_top : (named : List NamedTerm) → entries_of named new ≡ EndEntry None ∷ entries_of named r
  end_on_top named =
      a.entries named
      ∙ ap (λ alternatives. alternative_entries (region_setting named r) r.store.now (length (entries_of named r)) (continuation_at (region_setting named r) (heights_of named r) r.store.now a.choice.after) alternatives ++ entries_of named r) a.is.0

  entries_more : (named : List NamedTerm) → entries_of named new ≡ bare_floor (suc count)
  entries_more named = end_on_top named ∙ ap (λ es. EndEntry None ∷ es) (w.entries named)

  height_here : (named : List NamedTerm) → height_of_cut (heights_of named new) count ≡ count
  height_here named =
      ap (height_of_cut (heights_of named new)) (sym w.many) ∙ (a.heights named ∙ (ap length (w.entries named) ∙ bare-size count))

  below_more : (named : List NamedTerm) (cut : ℕ) → cut < count + 1 → (cut < count) ⊎ (count ≤ cut) → height_of_cut (heights_of named new) cut ≡ cut
  below_more named cut within (inl lt) = a.older named cut (let m = w.many in omega (arith, lt, m)) ∙ w.below named cut lt
  below_more named cut within (inr ge) =
      subst (λ n. height_of_cut (heights_of named new) n ≡ n) (let e : count ≡ cut = omega (arith, within, ge) in e) (height_here named)

  pub one_more_end : LaysFloor old new (count + 1)
  one_more_end = record {
    entries = λ named. entries_more named ∙ ap bare_floor (let e : suc count ≡ count + 1 = omega arith in e);
    below = λ named cut lt. below_more named cut lt (cases_lt cut count);
    many = ap (λ (x : RegionView). length x.choices) a.others ∙ (length-append r.choices (a.choice ∷ []) ∙ (let m = w.many in omega (arith, m)));
    ends = subst (λ (x : RegionView). Each (λ c. IsEnd c.alternatives) x.choices) (sym a.others) (each-append (λ c. IsEnd c.alternatives) r.choices (a.choice ∷ []) w.ends (subst IsEnd (sym a.is.0) tt, tt));
    text = ap (λ (x : RegionView). x.text) a.others ∙ w.text;
    now = ap (λ (x : RegionView). x.store.now) a.others ∙ w.now;
    start = ap (λ (x : RegionView). x.store.floor) a.others ∙ w.start;
  }

-- a region that has its floor alone
module _ (old r : RegionView) (floor scope : ℕ) (w : LaysFloor old r floor) (count : scope ≡ length r.choices) (named : List NamedTerm)
    (top : height_of_cut (heights_of named r) scope ≡ length (entries_of named r)) where
  whole : height_of_cut (heights_of named r) floor ≡ floor
  whole = ap (height_of_cut (heights_of named r)) (sym (count ∙ w.many)) ∙ (top ∙ (ap length (w.entries named) ∙ bare-size floor))

  below_all : (cut : ℕ) → cut ≤ floor → (cut < floor) ⊎ (floor ≤ cut) → height_of_cut (heights_of named r) cut ≡ cut
  below_all cut le (inl lt) = w.below named cut lt
  below_all cut le (inr ge) = subst (λ n. height_of_cut (heights_of named r) n ≡ n) (let e : floor ≡ cut = omega (arith, le, ge) in e) whole

  pub over_floor : IsOverFloor floor named r
  over_floor = record {
    many = let m = w.many in omega (arith, m);
    below = λ cut le. below_all cut le (cases_lt cut floor);
    above = λ cut ge le.
        let m = w.many in
        subst (λ n. floor ≤ height_of_cut (heights_of named r) n) (let e : floor ≡ cut = omega (arith, m, ge, le) in e) (let h = whole in omega (arith, h));
  }

-- what stands for the same stands over the same floor
pub over_stays : (r new : RegionView) (floor : ℕ) (named : List NamedTerm) → IsOverFloor floor named r → standing named new ≡ standing named r → new.choices ≡ r.choices → IsOverFloor floor named new
over_stays r new floor named o stands choices = record {
  many = let e = ap length choices in let m = o.many in omega (arith, e, m);
  below = λ cut le. ap (λ (st : Standing). height_of_cut st.heights cut) stands ∙ o.below cut le;
  above = λ cut ge le. subst (λ (st : Standing). floor ≤ height_of_cut st.heights cut) (sym stands) (o.above cut ge (let e = ap length choices in omega (arith, e, le)));
}
