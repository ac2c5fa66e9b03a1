-- Segments are settled where their bindings are, as equations.
use Rattle.std.proofs.Common.{◌≡◌, ℕ, ◌<◌, ◌≤◌, ◌==◌, ◌&&◌, ◌||◌, Bool, true, false, not, List, [], ◌∷◌, ◌++◌, map, Option, Some, None, refl, sym, ap, ◌∙◌}
use Rattle.std.proofs.Common.{subst, arith}
use Rattle.std.specs.List.{list_all}
use Rattle.std.specs.Prelude.{nat_le, nat_lt, is_some}
use Rattle.std.proofs.lemmas.Bool.{eqb-true}
use Rattle.std.proofs.lemmas.Bool.Decides.{nat_tests}
use Rattle.std.proofs.lemmas.List.{map-append}
use Rattle.au_term.proofs.LogicLemmas.{and-left, and-right, and-both, or-left, or-right, not-true, less}
use Rattle.au_term.specs.Term.{Term, VarTerm, IntTerm, AtomTerm, Compound, var_bound}
use Rattle.au_term.specs.declared.segment.Binding.{Binding}
use Rattle.au_term.specs.declared.segment.Segment.{Segment}
use Rattle.au_model.specs.Terms.Each.{Each}
use Rattle.au_model.specs.Terms.Substitutions.{Substitution}
use Rattle.au_model.specs.Terms.Unifier.{unifier, equations_bound}
use Rattle.au_model.specs.Terms.MostGeneral.{SameValues}
use Rattle.branch_reading.specs.BranchSegments.{binding_equations, bindings_on, next_number}
use Rattle.branch_reading.specs.SettledWays.{is_term_below, is_bound_back, is_binding_settled, binds_variable, are_bound_once}
use Rattle.branch_bindings.specs.Extensions.{ExtendsBy}
use Rattle.branch_bindings.specs.ExtensionLaws.{written_equations, IsFallingEquation, BindApart, AreSettledBindings}
use Rattle.branch_bindings.proofs.ExtensionLemmas.{extensions_compose, nothing_extends}
use Rattle.branch_bindings.proofs.SettledExtensionLemmas.{settled_bindings_extend}
use Rattle.branch_shapes.specs.ExtendedWays.{written_on, number_after, SegmentsBind, LeadsOn, SettledSegmentsBind, BoundSegmentsAreSettled}
use Rattle.branch_shapes.specs.ExtendedWays.{EmptySegmentsLead, SegmentsJoin}

-- one binding
back_older : (v : ℕ) (t : Term) → is_bound_back v t ≡ true → (w : ℕ) → t ≡ VarTerm w → w < v
back_older v (VarTerm u) h w e = let same : u ≡ w = cc in grind (arith, nat_tests)
back_older v (IntTerm z) h w e = absurd cc
back_older v (AtomTerm a) h w e = absurd cc
back_older v (Compound f ts) h w e = absurd cc

older_back : (v : ℕ) (t : Term) → ((w : ℕ) → t ≡ VarTerm w → w < v) → is_bound_back v t ≡ true
older_back v (VarTerm u) h = less u v (h u refl)
older_back v (IntTerm z) h = refl
older_back v (AtomTerm a) h = refl
older_back v (Compound f ts) h = refl

all_falling : (n : ℕ) (bs : List Binding) → list_all (is_binding_settled n) bs ≡ true → Each IsFallingEquation (binding_equations bs)
all_falling n [] h = tt
all_falling n (b ∷ bs) h =
    let one = and-left _ _ h in
    let back = and-right _ _ (and-right _ _ one) in
    (record { variable = b.var; left_is = refl; older = back_older b.var b.value back }, all_falling n bs (and-right _ _ h))

all_below : (n : ℕ) (bs : List Binding) → list_all (is_binding_settled n) bs ≡ true → equations_bound (binding_equations bs) ≤ n
all_below n [] h = omega arith
all_below n (b ∷ bs) h =
    let one = and-left (is_binding_settled n b) (list_all (is_binding_settled n) bs) h in
    let there : nat_lt b.var n ≡ true = and-left _ _ one in
    let two = and-right (nat_lt b.var n) (is_term_below n b.value && is_bound_back b.var b.value) one in
    let value : nat_le (var_bound b.value) n ≡ true = and-left (is_term_below n b.value) (is_bound_back b.var b.value) two in
    let rest = all_below n bs (and-right (is_binding_settled n b) (list_all (is_binding_settled n) bs) h) in
    let lt : b.var < n = grind (arith, nat_tests) in
    let le : var_bound b.value ≤ n = grind (arith, nat_tests) in
    omega (arith, lt, le, rest)

settled_all : (n : ℕ) (bs : List Binding) → Each IsFallingEquation (binding_equations bs) → equations_bound (binding_equations bs) ≤ n
    → list_all (is_binding_settled n) bs ≡ true
settled_all n [] h k = refl
settled_all n (b ∷ bs) h k =
    let variable : VarTerm b.var ≡ VarTerm h.0.variable = h.0.left_is in
    let same : b.var ≡ h.0.variable = cc in
    let lt : b.var < n = omega (arith, k) in
    let le : var_bound b.value ≤ n = omega (arith, k) in
    and-both _ _ (and-both _ _ (less b.var n lt)
    (and-both _ _ (grind (arith, nat_tests)) (older_back b.var b.value (λ w e. omega (arith, h.0.older w e, same)))))
    (settled_all n bs h.1 (omega (arith, k)))

-- each variable bound once
others_apart : (v : ℕ) (bs : List Binding) → binds_variable v bs ≡ false → Each (λ d. d.0 ≡ VarTerm v → ⊥) (binding_equations bs)
others_apart v [] h = tt
others_apart v (b ∷ bs) h =
    let first : (b.var == v) ≡ false = or-left _ _ h in
    ((λ q. let same : b.var ≡ v = cc in grind (arith, nat_tests)), others_apart v bs (or-right _ _ h))

apart_others : (v : ℕ) (bs : List Binding) → Each (λ d. d.0 ≡ VarTerm v → ⊥) (binding_equations bs) → binds_variable v bs ≡ false
apart_others v [] h = refl
apart_others v (b ∷ bs) h = by_test (apart_others v bs h.1) (b.var == v) refl
  where
    by_test : binds_variable v bs ≡ false → (t : Bool) → (b.var == v) ≡ t → (t || binds_variable v bs) ≡ false
    by_test rest true q = absurd (h.0 (ap VarTerm (eqb-true b.var v q)))
    by_test rest false q = rest

once_apart : (bs : List Binding) → are_bound_once bs ≡ true → BindApart (binding_equations bs)
once_apart [] h = tt
once_apart (b ∷ bs) h = (others_apart b.var bs (not-true _ (and-left _ _ h)), once_apart bs (and-right _ _ h))

apart_once : (bs : List Binding) → BindApart (binding_equations bs) → are_bound_once bs ≡ true
apart_once [] h = refl
apart_once (b ∷ bs) h = and-both _ _ (ap not (apart_others b.var bs h.0)) (apart_once bs h.1)

has_answer : (s : Substitution) (o : Option Substitution) → SameValues o (Some s) → is_some o ≡ true
has_answer s None h = absurd h
has_answer s (Some u) h = refl

pub settled_segments_bind : SettledSegmentsBind
settled_segments_bind segments s h same =
    let n = next_number segments in
    let bs = bindings_on segments in
    record {
      each = all_falling n bs (and-left _ _ h);
      apart = once_apart bs (and-left _ _ (and-right _ _ h));
      below = all_below n bs (and-left _ _ h);
      unified = same;
    }

pub bound_segments_are_settled : BoundSegmentsAreSettled
bound_segments_are_settled segments s h =
    let bs = bindings_on segments in
    and-both _ _ (settled_all (next_number segments) bs h.each h.below)
    (and-both _ _ (apart_once bs h.apart) (has_answer s (unifier (binding_equations bs)) h.unified))

-- a segment in front
written_same : (bs : List Binding) → written_equations (map (λ b. (b.var, b.value)) bs) ≡ binding_equations bs
written_same [] = refl
written_same (b ∷ bs) = ap (λ es. (VarTerm b.var, b.value) ∷ es) (written_same bs)

pub led_on : (before now : Substitution) (segments : List Segment) (segment : Segment) → SegmentsBind segments before
    → LeadsOn before now (next_number segments) segment
    → SegmentsBind (segment ∷ segments) now
led_on before now segments segment h lead =
    let equations : binding_equations (bindings_on segments) ++ written_equations (written_on segment) ≡ binding_equations
    (bindings_on segments ++ segment.bindings) =
    ap (λ es. binding_equations (bindings_on segments) ++ es) (written_same segment.bindings) ∙ sym (map-append _ (bindings_on segments) segment.bindings) in
    subst (λ eqs. AreSettledBindings (number_after segment) eqs now) equations
    (settled_bindings_extend before now (next_number segments) (number_after segment) (binding_equations (bindings_on segments))
    (written_on segment) h lead.extends lead.numbers)

pub empty_segments_lead : EmptySegmentsLead
empty_segments_lead s next segment final none le = record {
  numbers = le;
  extends = subst (λ bs. ExtendsBy s s (number_after segment) bs) (sym (ap (λ bs. map (λ b. (b.var, b.value)) bs) none))
      (nothing_extends s (number_after segment) final);
}

pub segments_join : SegmentsJoin
segments_join a b c next first second joined older h k bindings number =
    let written : written_on first ++ written_on second ≡ written_on joined =
    sym (map-append (λ b. (b.var, b.value)) first.bindings second.bindings) ∙ sym (ap (λ bs. map (λ b. (b.var, b.value)) bs) bindings) in
    let numbers = k.numbers in
    let first_numbers = h.numbers in
    record {
      numbers = omega (arith, numbers, first_numbers, number);
      extends = subst (λ n. ExtendsBy a c n (written_on joined)) (sym number) (subst (ExtendsBy a c (number_after second)) written
          (extensions_compose a b c (number_after first) (number_after second) (written_on first) (written_on second) older h.extends k.extends k.numbers));
    }
