-- Choice points that were taken off one after another, the newest first.
use Rattle.std.proofs.Common.{◌≡◌, inl, inr, ℕ, ◌+◌, ◌≤◌, Bool, List, [], ◌∷◌, ◌++◌, append_assoc, append-nil, length, length-append, refl, sym, ap, ◌∙◌, subst, arith}
use Rattle.au_term.specs.declared.segment.Binding.{Binding}
use Rattle.au_model.specs.Terms.Each.{Each}
use Rattle.au_model.specs.Terms.Named.{NamedTerm}
use Rattle.au_model.proofs.EachLemmas.{each-more}
use Rattle.run_model.specs.Machine.Entries.{Entry}
use Rattle.region_split.specs.ChoicePoints.{height_of_cut}
use Rattle.region_capture.specs.CapturedItems.{ItemLists, AddsItems}
use Rattle.region_capture.specs.CapturedChoices.{BoundThen, MeantChoice, group_entries, bound_under, meant_entries, AreHeightsOf}
use Rattle.region_capture.specs.KeptLevels.{SeesBelow, IsItemReached, AreBindingsReached, KeepsLevel, KeepsChoice}
use Rattle.region_capture.specs.declared.captured.CapturedChoice.{CapturedChoice}
use Rattle.region_capture.proofs.MeantLemmas.{more_meant}
use Rattle.region_capture.proofs.ReachLemmas.{items_still, bindings_still, kind_still, values_still}
use Rattle.region_capture.proofs.SeenLemmas.{keeps_with, kept_still}

-- choice points, the newest first, over so many others, of which what was seen is kept
abbrev pub KeepChoices : ItemLists → BoundThen → ℕ → List Bool → List CapturedChoice → List MeantChoice → Type 0
KeepChoices lists start cut seen [] [] = Unit {0}
KeepChoices lists start cut seen [] (m ∷ ms) = ⊥
KeepChoices lists start cut seen (c ∷ cs) [] = ⊥
KeepChoices lists start cut seen (c ∷ cs) (m ∷ ms) = KeepsChoice lists (bound_under start ms) (cut + length ms) seen c m × KeepChoices lists start cut seen cs ms

-- there are more variables when a newer one comes
pub under_more : (lists : ItemLists) (start : BoundThen) (cut : ℕ) (seen : List Bool) (cs : List CapturedChoice) (ms : List MeantChoice) → KeepChoices lists start cut seen cs ms → start.next ≤ (bound_under start ms).next
under_more lists start cut seen [] [] k = omega arith
under_more lists start cut seen [] (m ∷ ms) k = absurd k
under_more lists start cut seen (c ∷ cs) [] k = absurd k
under_more lists start cut seen (c ∷ cs) (m ∷ ms) k = let rest = under_more lists start cut seen cs ms k.1 in let own = k.0.level.keeps.later in omega (arith, rest, own)

-- as much is kept where older variables were seen
pub level_later : (under now : BoundThen) (n : ℕ) (a b : List Bool) (bs : List Binding) → n ≤ under.next → SeesBelow n a b → KeepsLevel under now a bs → KeepsLevel under now b bs
level_later under now n a b bs le s k = record {
  keeps =
      keeps_with under now a b bs bs k.keeps s.kept (kept_still under now a b s.kept bs k.keeps.each) k.keeps.once
      (λ v free h. elim (s.only v h) [
        | inl was ↦ k.keeps.all v free was
        | inr lt ↦ elim (k.keeps.older v (omega (arith, lt, le)) free) [ inl f ↦ inl f | inr was ↦ k.keeps.all v free was ]
      ]);
  values = values_still now.next a b bs s.kept k.values;
}

choice_later : (lists more : ItemLists) (under : BoundThen) (cut n : ℕ) (a b : List Bool) (c : CapturedChoice) (m : MeantChoice) → AddsItems lists more → n ≤ under.next → SeesBelow n a b → KeepsChoice lists under cut a c m → KeepsChoice more under cut b c m
choice_later lists more under cut n a b c m adds le s k = record {
  kind = k.kind;
  level = level_later under m.came n a b c.below le s k.level;
  next = k.next;
  final = k.final;
  alternatives = more_meant lists m.came.bound c.next cut more c.alternatives.items m.alternatives adds k.alternatives;
  alone = k.alone;
  terms = k.terms;
  items = each-more (λ x. Each (IsItemReached c.next a) x.items) (λ x. Each (IsItemReached c.next b) x.items) (λ x h. items_still c.next a b x.items s.kept h) m.alternatives k.items;
  bindings = each-more (AreBindingsReached c.next a) (AreBindingsReached c.next b) (λ x h. bindings_still c.next a b x.bindings s.kept h) c.alternatives.items k.bindings;
  guard = kind_still c.next a b m.kind s.kept k.guard;
  results = k.results;
}

pub choices_later : (lists more : ItemLists) (start : BoundThen) (cut : ℕ) (a b : List Bool) (cs : List CapturedChoice) (ms : List MeantChoice) → AddsItems lists more → SeesBelow start.next a b → KeepChoices lists start cut a cs ms → KeepChoices more start cut b cs ms
choices_later lists more start cut a b [] [] adds s k = tt
choices_later lists more start cut a b [] (m ∷ ms) adds s k = absurd k
choices_later lists more start cut a b (c ∷ cs) [] adds s k = absurd k
choices_later lists more start cut a b (c ∷ cs) (m ∷ ms) adds s k =
    (choice_later lists more (bound_under start ms) (cut + length ms) start.next a b c m adds (under_more lists start cut a cs ms k.1) s k.0, choices_later lists more start cut a b cs ms adds s k.1)

pub under-append : (start : BoundThen) (ms : List MeantChoice) (m : MeantChoice) → bound_under start (ms ++ m ∷ []) ≡ bound_under m.came ms
under-append start [] m = refl
under-append start (n ∷ ms) m = refl

-- an older one
pub choices-append : (lists : ItemLists) (start : BoundThen) (cut more : ℕ) (seen : List Bool) (cs : List CapturedChoice) (ms : List MeantChoice) (c : CapturedChoice) (m : MeantChoice) → more ≡ cut + 1 → KeepChoices lists m.came more seen cs ms
    → KeepsChoice lists start cut seen c m → KeepChoices lists start cut seen (cs ++ c ∷ []) (ms ++ m ∷ [])
choices-append lists start cut more seen [] [] c m e k own = (subst (λ n. KeepsChoice lists start n seen c m) (omega arith) own, tt)
choices-append lists start cut more seen [] (n ∷ ms) c m e k own = absurd k
choices-append lists start cut more seen (d ∷ cs) [] c m e k own = absurd k
choices-append lists start cut more seen (d ∷ cs) (n ∷ ms) c m e k own =
    let many : more + length ms ≡ cut + length (ms ++ m ∷ []) = omega (arith, e, length-append ms (m ∷ [])) in (
      subst (λ (b : BoundThen). KeepsChoice lists b (cut + length (ms ++ m ∷ [])) seen d n) (sym (under-append start ms m)) (subst (λ x. KeepsChoice lists (bound_under m.came ms) x seen d n) many k.0),
      choices-append lists start cut more seen cs ms c m e k.1 own,
    )

module _ (heights : List ℕ) (named : List NamedTerm) where
  pub entries-append : (ms : List MeantChoice) (m : MeantChoice) → meant_entries heights named (ms ++ m ∷ []) ≡ meant_entries heights named ms ++ group_entries heights named m
  entries-append [] m = append-nil (group_entries heights named m)
  entries-append (n ∷ ms) m = ap (λ es. group_entries heights named n ++ es) (entries-append ms m) ∙ sym (append_assoc (group_entries heights named n) (meant_entries heights named ms) (group_entries heights named m))

  length-entries : (ms : List MeantChoice) (m : MeantChoice) → length (meant_entries heights named (ms ++ m ∷ [])) ≡ length (meant_entries heights named ms) + length (group_entries heights named m)
  length-entries ms m = ap (λ (es : List Entry). length es) (entries-append ms m) ∙ length-append (meant_entries heights named ms) (group_entries heights named m)

  pub heights-append : (cut more others all : ℕ) (ms : List MeantChoice) (m : MeantChoice) → more ≡ cut + 1 → all ≡ length (group_entries heights named m) + others → AreHeightsOf heights named more all ms → height_of_cut heights cut ≡ others → AreHeightsOf heights named cut others (ms ++ m ∷ [])
  heights-append cut more others all [] m e l k own =
      let a : height_of_cut heights more ≡ all = k in
      let g = length-append (group_entries heights named m) [] in
      (ap (height_of_cut heights) (sym e) ∙ (omega (arith, a, l, g)), own)
  heights-append cut more others all (n ∷ ms) m e l k own =
      let many : more + length (n ∷ ms) ≡ cut + length (n ∷ ms ++ m ∷ []) = omega (arith, e, length-append ms (m ∷ [])) in
      let a : height_of_cut heights (more + length (n ∷ ms)) ≡ length (meant_entries heights named (n ∷ ms)) + all = k.0 in
      (ap (height_of_cut heights) (sym many) ∙ omega (arith, a, l, length-entries (n ∷ ms) m), heights-append cut more others all ms m e l k.1 own)
