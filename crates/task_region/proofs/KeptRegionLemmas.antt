-- Regions that are taken back to their floors.
use Rattle.std.proofs.Common.{◌≡◌, inl, inr, ◌+◌, ℕ, List, [], ◌∷◌, ◌++◌, length, length-append, refl, sym, ap, ◌∙◌, subst}
use Rattle.au_model.specs.Terms.Each.{Each}
use Rattle.au_model.proofs.EachLemmas.{each-append}
use Rattle.cell_store.specs.StoreView.{StoreView}
use Rattle.region_split.specs.QueryEnds.{IsEnd, StandsForNoEnd, AreEndsOldest}
use Rattle.region_split.specs.Regions.{RegionView, AreAlternativesIn}
use Rattle.region_split.specs.StackOperations.{AddsChoice, CutsTo, TakesNewest}
use Rattle.region_split.specs.declared.choice.Alternatives.TheVariants.{QueryEnd}
use Rattle.region_split.specs.declared.choice.ChoicePoint.{ChoicePoint}
use Rattle.region_split.specs.declared.frame.Position.{Position}
use Rattle.task_region.specs.KeptRegions.{IsTakenBack}
use Rattle.tree_model.specs.Levels.{Place}

none_last : (cs : List ChoicePoint) (c : ChoicePoint) → Each StandsForNoEnd (cs ++ c ∷ []) → IsEnd c.alternatives → ⊥
none_last [] c h e = h.0 e
none_last (d ∷ cs) c h e = none_last cs c h.1 e

-- under an end there are ends alone
pub ends_under : (cs : List ChoicePoint) (c : ChoicePoint) → AreEndsOldest (cs ++ c ∷ []) → IsEnd c.alternatives → Each (λ d. IsEnd d.alternatives) cs
ends_under [] c h e = tt
ends_under (d ∷ cs) c (inl h) e = (h.0, ends_under cs c h.1 e)
ends_under (d ∷ cs) c (inr h) e = absurd (none_last (d ∷ cs) c h e)

module _ (r cut back new : RegionView) (count : ℕ) (c : ChoicePoint) (place : Place) (numbers : List ℕ) (nothing : Position) (cuts : CutsTo r cut count) (takes : TakesNewest cut back c)
    (end : c.alternatives ≡ QueryEnd) (oldest : AreEndsOldest cut.choices) (adds : AddsChoice back new QueryEnd nothing) (many : count ≡ length numbers) where
  is_end : IsEnd c.alternatives
  is_end = subst IsEnd (sym end) tt

  pub under : Each (λ d. IsEnd d.alternatives) back.choices
  under = ends_under back.choices c (subst AreEndsOldest takes.choices oldest) is_end

  counted : length back.choices + 1 ≡ count
  counted = sym (length-append back.choices (c ∷ [])) ∙ (sym (ap length takes.choices) ∙ cuts.count)

  now_is : new.store.now ≡ back.store.floor
  now_is = ap (λ (x : RegionView). x.store.now) adds.others ∙ subst (AreAlternativesIn back) end takes.alternatives

  floors : back.store.floor ≡ r.store.floor
  floors = ap (λ (st : StoreView). st.floor) takes.store ∙ ap (λ (st : StoreView). st.floor) cuts.store

  choices_are : new.choices ≡ back.choices ++ adds.choice ∷ []
  choices_are = ap (λ (x : RegionView). x.choices) adds.others

  pub taken_back : IsTakenBack r place numbers (record { region = new; place = place; numbers = numbers })
  taken_back = record {
    place_is = refl;
    numbers_are = refl;
    now = now_is ∙ floors;
    ends = subst (Each (λ d. IsEnd d.alternatives)) (sym choices_are) (each-append (λ d. IsEnd d.alternatives) back.choices (adds.choice ∷ []) under (subst IsEnd (sym adds.is.0) tt, tt));
    many = ap length choices_are ∙ (length-append back.choices (adds.choice ∷ []) ∙ (counted ∙ many));
    text = ap (λ (x : RegionView). x.text) adds.others ∙ (takes.text ∙ cuts.text);
  }
