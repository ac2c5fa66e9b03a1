-- A choice point that came, and was taken off again.
use Rattle.std.proofs.Common.{◌≡◌, ℕ, ◌≤◌, List, [], ◌∷◌, ◌++◌, length, length-append, get_or, refl, sym, ap, ap₂, ◌∙◌, arith}
use Rattle.std.proofs.Math.Seq.{get_or-append_seam}
use Rattle.std.proofs.lemmas.List.{same_from_push}
use Rattle.au_model.specs.Terms.Named.{NamedTerm}
use Rattle.cell_store.specs.StoreView.{Moment}
use Rattle.region_split.specs.ChoicePoints.{Standing, height_of_cut, nothing_standing}
use Rattle.region_split.specs.Regions.{RegionView, region_setting, standing, entries_of, heights_of, entries_on}
use Rattle.region_split.specs.StackOperations.{AddsChoice, TakesNewest}
use Rattle.region_split.specs.declared.choice.Alternatives.{Alternatives}
use Rattle.region_split.specs.declared.choice.ChoicePoint.{ChoicePoint}
use Rattle.region_split.specs.declared.frame.Position.{Position}
use Rattle.region_split.proofs.StandingLemmas.{IsMeasured, measured}
use Rattle.region_capture.specs.CaptureSteps.{ComesBack}

-- a cut that leaves all choice points leaves all entries
pub whole_height : (r : RegionView) (named : List NamedTerm) → length r.store.marks ≡ length r.choices → height_of_cut (heights_of named r) (length r.choices) ≡ length (entries_of named r)
whole_height r named many =
    let m : IsMeasured (standing named r) (length r.choices) = measured (region_setting named r) nothing_standing r.choices r.store.marks 0 (length r.choices) (sym many) (omega arith) (record { before = []; is = refl; long = refl }) in
    ap (λ hs. height_of_cut hs (length r.choices)) m.is
    ∙ (ap (λ n. get_or (m.before ++ length (entries_of named r) ∷ []) n 0) (sym m.long) ∙ get_or-append_seam m.before (length (entries_of named r)) [] 0)

-- lists that end alike
pub same_fronts : {A : Type 0} (xs ys zs ws : List A) → xs ++ ys ≡ zs ++ ws → length ys ≡ length ws → (xs ≡ zs) × (ys ≡ ws)
same_fronts [] ys [] ws e l = (refl, e)
same_fronts [] ys (z ∷ zs) ws e l = absurd (let k = ap length e in let m = length-append zs ws in omega (arith, k, m, l))
same_fronts (x ∷ xs) ys [] ws e l = absurd (let k = ap length e in let m = length-append xs ys in omega (arith, k, m, l))
same_fronts (x ∷ xs) ys (z ∷ zs) ws e l =
    let rest : xs ++ ys ≡ zs ++ ws = cc in
    let first : x ≡ z = cc in
    let both = same_fronts xs ys zs ws rest l in
    (ap₂ (λ y us. y ∷ us) first both.0, both.1)

module _ (r r1 r2 r3 : RegionView) (a : Alternatives) (after : Position) (c : ChoicePoint) (many : length r.store.marks ≡ length r.choices) (adds : AddsChoice r r1 a after)
    (stands : (named : List NamedTerm) → standing named r2 ≡ standing named r1) (choices : r2.choices ≡ r1.choices) (marks : r2.store.marks ≡ r1.store.marks) (text : r2.text ≡ r1.text) (takes : TakesNewest r2 r3 c) where
  both_choices : (r3.choices ≡ r.choices) × (c ≡ adds.choice)
  both_choices = same_from_push r3.choices r.choices c adds.choice (sym takes.choices ∙ (choices ∙ ap (λ (x : RegionView). x.choices) adds.others))

  pub marked_still : r2.store.marks ≡ r.store.marks ++ r.store.now ∷ []
  marked_still = marks ∙ ap (λ (x : RegionView). x.store.marks) adds.others

  both_marks : (r3.store.marks ≡ r.store.marks) × (r3.store.now ≡ r.store.now)
  both_marks = same_from_push r3.store.marks r.store.marks r3.store.now r.store.now (sym takes.marked ∙ marked_still)

  pub heights_then : (named : List NamedTerm) (n : ℕ) → n ≤ length r.choices → height_of_cut (heights_of named r2) n ≡ height_of_cut (heights_of named r) n
  heights_then named n le = ap (λ (s : Standing). height_of_cut s.heights n) (stands named) ∙ adds.older named n le

  heights : (named : List NamedTerm) (n : ℕ) → n ≤ length r.choices → height_of_cut (heights_of named r3) n ≡ height_of_cut (heights_of named r) n
  heights named n le = takes.heights named n (let l = ap (λ (cs : List ChoicePoint). length cs) both_choices.0 in omega (arith, l, le)) ∙ heights_then named n le

  as_many : (named : List NamedTerm) → length (entries_of named r3) ≡ length (entries_of named r)
  as_many named =
      let long : length r3.store.marks ≡ length r3.choices = ap (λ (ms : List Moment). length ms) both_marks.0 ∙ (many ∙ sym (ap (λ (cs : List ChoicePoint). length cs) both_choices.0)) in
      sym (whole_height r3 named long)
      ∙ (ap (height_of_cut (heights_of named r3)) (ap (λ (cs : List ChoicePoint). length cs) both_choices.0) ∙ (heights named (length r.choices) (omega arith) ∙ whole_height r named many))

  both_entries : (named : List NamedTerm) → (entries_on named r3 c r3.store.now ≡ entries_on named r adds.choice r.store.now) × (entries_of named r3 ≡ entries_of named r)
  both_entries named = same_fronts (entries_on named r3 c r3.store.now) (entries_of named r3) (entries_on named r adds.choice r.store.now) (entries_of named r)
      (sym (takes.entries named) ∙ (ap (λ (s : Standing). s.entries) (stands named) ∙ adds.entries named)) (as_many named)

  pub comes_back : ComesBack r r3
  comes_back = record {
    entries = λ named. (both_entries named).1;
    heights = heights;
    choices = both_choices.0;
    marks = both_marks.0;
    now = both_marks.1;
    text = takes.text ∙ (text ∙ ap (λ (x : RegionView). x.text) adds.others);
  }

  pub same_after : c.after ≡ after
  same_after = ap (λ (x : ChoicePoint). x.after) both_choices.1 ∙ adds.is.1

  pub same_alternatives : c.alternatives ≡ a
  same_alternatives = ap (λ (x : ChoicePoint). x.alternatives) both_choices.1 ∙ adds.is.0

  pub same_entries : (named : List NamedTerm) → entries_on named r3 c r3.store.now ≡ entries_on named r adds.choice r.store.now
  same_entries named = (both_entries named).0

pub comes_back_twice : (a b c : RegionView) → ComesBack a b → ComesBack b c → ComesBack a c
comes_back_twice a b c p q = record {
  entries = λ named. q.entries named ∙ p.entries named;
  heights = λ named n le. q.heights named n (let l = ap (λ (cs : List ChoicePoint). length cs) p.choices in omega (arith, l, le)) ∙ p.heights named n le;
  choices = q.choices ∙ p.choices;
  marks = q.marks ∙ p.marks;
  now = q.now ∙ p.now;
  text = q.text ∙ p.text;
}

pub stays_there : (r : RegionView) → ComesBack r r
stays_there r = record { entries = λ named. refl; heights = λ named n le. refl; choices = refl; marks = refl; now = refl; text = refl }
