-- A solution that is tried over a choice point, and taken back.
use Rattle.std.proofs.Common.{◌≡◌, ◌+◌, List, [], ◌∷◌, ◌++◌, map, length, Some, None, refl, sym, ap, ◌∙◌, subst, arith}
use Rattle.au_term.specs.declared.segment.Binding.{Binding}
use Rattle.au_term.specs.declared.segment.Segment.{Segment}
use Rattle.au_model.specs.Terms.Each.{Each}
use Rattle.au_model.specs.Terms.Substitutions.{resolve, value_of}
use Rattle.au_model.specs.Terms.Unifier.{unifier}
use Rattle.au_model.proofs.EachLemmas.{each-more}
use Rattle.clause_compile.specs.Places.{Keeps}
use Rattle.clause_compile.proofs.CodeLemmas.{keeps_same, keeps_twice}
use Rattle.cell_store.specs.StoreView.{Moment, StoreView, AddsText, text_at, text_in, with_mark, with_numbers}
use Rattle.cell_store.specs.UnificationSteps.{OnlyBinds}
use Rattle.cell_store.proofs.SubstitutionLemmas.{value_raised}
use Rattle.branch_bindings.specs.Extensions.{ExtendsBy}
use Rattle.region_capture.specs.CaptureSteps.{ComesBack}
use Rattle.region_capture.proofs.ComesBackLemmas.{comes_back, same_after}
use Rattle.region_split.specs.Regions.{RegionView, IsPositionIn}
use Rattle.region_split.specs.Solutions.{SolutionView, equation_meant, IsSideAt, IsEquationAt}
use Rattle.region_split.specs.SolutionTrials.{AreEquationsHere, equations_here}
use Rattle.region_split.specs.StackOperations.{AddsChoice, IsSolutionHere, StaysStanding, TakesNewest}
use Rattle.region_split.specs.declared.choice.Alternatives.TheVariants.{Elsewhere}
use Rattle.region_split.specs.declared.choice.ChoicePoint.{ChoicePoint}
use Rattle.region_split.specs.declared.frame.Position.{Position}
use Rattle.region_split.specs.declared.solution.EquationSide.{EquationSide}
use Rattle.region_split.specs.declared.solution.EquationSide.TheVariants.{Value, Copied}
use Rattle.region_split.proofs.SolvedLemmas.{stays_twice}
use Rattle.front_goals.specs.SolvedSolutions.{KeepsMarked, IsRegionTakenBack, SolvesBy, WritesSolvedOr}

-- what was there at marks is there still
all_same : (st : StoreView) (ms : List Moment) → Each (λ m. Keeps (text_at st m) (text_at st m)) ms
all_same st [] = tt
all_same st (m ∷ ms) = (keeps_same (text_at st m), all_same st ms)

pub nothing_lost : (st : StoreView) → KeepsMarked st st
nothing_lost st = record { marks = refl; kept = all_same st st.marks }

pub added_keeps : (a b : StoreView) → AddsText a b → KeepsMarked a b
added_keeps a b h = record { marks = h.marks; kept = h.at_marks }

pub bound_keeps : (a b : StoreView) → OnlyBinds a b → KeepsMarked a b
bound_keeps a b h = record {
  marks = ap (λ (st : StoreView). st.marks) h.others;
  kept = subst (λ (st : StoreView). Each (λ m. Keeps (text_at a m) (text_at st m)) a.marks) (sym h.others) (all_same a a.marks);
}

pub kept_twice : (a b c : StoreView) → KeepsMarked a b → KeepsMarked b c → KeepsMarked a c
kept_twice a b c p q = record {
  marks = q.marks ∙ p.marks;
  kept = all_twice a.marks p.kept (subst (Each (λ m. Keeps (text_at b m) (text_at c m))) p.marks q.kept);
}
  where
    all_twice : (ms : List Moment) → Each (λ m. Keeps (text_at a m) (text_at b m)) ms → Each (λ m. Keeps (text_at b m) (text_at c m)) ms
        → Each (λ m. Keeps (text_at a m) (text_at c m)) ms
    all_twice [] one two = tt
    all_twice (m ∷ ms) one two = (keeps_twice (text_at a m) (text_at b m) (text_at c m) one.0 two.0, all_twice ms one.1 two.1)

-- after an equation more
pub kept_on : (a b c d e : StoreView) → KeepsMarked a b → AddsText b c → AddsText c d → OnlyBinds d e → KeepsMarked a e
kept_on a b c d e h first second binds =
    kept_twice a d e (kept_twice a c d (kept_twice a b c h (added_keeps b c first)) (added_keeps c d second)) (bound_keeps d e binds)

last_of : {X : Type 0} (P : X → Type 0) (xs : List X) (x : X) → Each P (xs ++ x ∷ []) → P x
last_of P [] x h = h.0
last_of P (y ∷ xs) x h = last_of P xs x h.1

module _ (r r1 r2 : RegionView) (s : SolutionView) (position : Position) (adds : AddsChoice r r1 Elsewhere position)
    (fresh : r2 ≡ record r1 { store = with_numbers s.variables r1.store }) where
  first_store : r1.store ≡ with_mark r.store
  first_store = ap (λ (x : RegionView). x.store) adds.others

  second_store : r2.store ≡ with_numbers s.variables (with_mark r.store)
  second_store = ap (λ (x : RegionView). x.store) fresh ∙ ap (with_numbers s.variables) first_store

  -- the equations of the solution are there, with the new variables
  side_raised : (side : EquationSide) → IsSideAt (text_in r.store) r.store.now.next (r.store.now.next + s.variables) side
      → IsSideAt (text_in r.store) (r.store.now.next + s.variables) (r.store.now.next + s.variables) side
  side_raised (Value value) h = value_raised (text_in r.store) r.store.now.next (r.store.now.next + s.variables) value (omega arith) h
  side_raised (Copied term) h = h

  pub equations_there : IsSolutionHere r s → AreEquationsHere r2 s.equations
  equations_there here =
      subst (λ (st : StoreView). Each (IsEquationAt (text_in st) st.now.next st.now.next) s.equations) (sym second_store)
      (each-more (IsEquationAt (text_in r.store) r.store.now.next (r.store.now.next + s.variables))
      (IsEquationAt (text_in r.store) (r.store.now.next + s.variables) (r.store.now.next + s.variables))
      (λ e h. (side_raised e.left h.0, side_raised e.right h.1)) s.equations here.0)

  equations_are : equations_here r2 s.equations ≡ equations_here r s.equations
  equations_are = ap (λ (st : StoreView). map (equation_meant (text_in st) st.now.bound) s.equations) second_store

  module _ (r3 r4 : RegionView) (c : ChoicePoint) (many : length r.store.marks ≡ length r.choices) (fresh_stays : StaysStanding r1 r2)
      (stays : StaysStanding r2 r3) (keeps : KeepsMarked r2.store r3.store) (takes : TakesNewest r3 r4 c) where
    all_stays : StaysStanding r1 r3
    all_stays = stays_twice r1 r2 r3 fresh_stays stays

    same_text : r3.text ≡ r1.text
    same_text = ap (λ (x : RegionView). x.text) all_stays.others

    same_choices : r3.choices ≡ r1.choices
    same_choices = ap (λ (x : RegionView). x.choices) all_stays.others

    back : ComesBack r r4
    back = comes_back r r1 r3 r4 Elsewhere position c many adds all_stays.stands same_choices all_stays.marks same_text takes

    marked : r2.store.marks ≡ r.store.marks ++ r.store.now ∷ []
    marked = ap (λ (st : StoreView). st.marks) second_store

    kept_there : Keeps (text_at r2.store r.store.now) (text_at r3.store r.store.now)
    kept_there = last_of (λ m. Keeps (text_at r2.store m) (text_at r3.store m)) r.store.marks r.store.now (subst (Each (λ m. Keeps (text_at r2.store m) (text_at r3.store m))) marked keeps.kept)

    text_back : text_in r4.store ≡ text_at r3.store r.store.now
    text_back = ap text_in takes.store ∙ ap (text_at r3.store) back.now

    pub taken_back : IsRegionTakenBack r r4 position
    taken_back = record {
      now = back.now;
      floor = ap (λ (st : StoreView). st.floor) takes.store ∙ (all_stays.floor ∙ ap (λ (st : StoreView). st.floor) first_store);
      text = back.text;
      keeps =
          subst (λ code. Keeps (text_in r.store) code) (sym text_back)
          (subst (λ (st : StoreView). Keeps (text_at st r.store.now) (text_at r3.store r.store.now)) second_store kept_there);
      there = subst (IsPositionIn r4) (same_after r r1 r3 r4 Elsewhere position c many adds all_stays.stands same_choices all_stays.marks same_text takes) takes.position;
    }

    pub not_solved : WritesSolvedOr r2 r3 (equations_here r2 s.equations) None → unifier (equations_here r s.equations) ≡ None
    not_solved h = sym (ap unifier equations_are) ∙ h

    pub solved : (bindings : List Binding) (segment : Segment) → WritesSolvedOr r2 r3 (equations_here r2 s.equations) (Some bindings)
        → segment ≡ record { base = r.store.now.next; vars = s.variables; bindings = bindings } → SolvesBy r s segment
    solved bindings segment h is =
        let next_is : r3.store.now.next ≡ r.store.now.next + s.variables = h.0.next ∙ ap (λ (st : StoreView). st.now.next) second_store in
        let floor_is : r3.store.floor ≡ r.store.floor = all_stays.floor ∙ ap (λ (st : StoreView). st.floor) first_store in
        let extends : ExtendsBy r.store.floor.bound r3.store.now.bound (r.store.now.next + s.variables) (map (λ (b : Binding). (b.var, b.value)) bindings)
        = subst (λ n. ExtendsBy r.store.floor.bound r3.store.now.bound n (map (λ (b : Binding). (b.var, b.value)) bindings)) next_is
        (subst (λ (m : Moment). ExtendsBy m.bound r3.store.now.bound r3.store.now.next (map (λ (b : Binding). (b.var, b.value)) bindings)) floor_is h.1) in
        subst (SolvesBy r s) (sym is) (record {
          further = h.0.further;
          unified = sym (ap unifier equations_are) ∙ h.0.unified;
          after = r3.store.now.bound;
          composed = λ n. h.0.bound n ∙ ap (λ (st : StoreView). resolve h.0.further (value_of st.now.bound n)) second_store;
          leads = extends;
          base = refl;
          vars = refl;
        })
