use Rattle.std.proofs.Common.{◌≡◌, ◌+◌, ◌∙◌, ℕ, List, length, Option, Some, None, refl, sym, ap, subst, arith}
use Rattle.std.specs.Arc.{arc_value}
use Rattle.clause_compile.specs.Places.{CodeView}
use Rattle.clause_compile.specs.AtomNumbers.{number_of_name, IsNumbered, AreDistinct}
use Rattle.clause_compile.specs.declared.place.Place.{Place}
use Rattle.cell_store.specs.HeapView.{HeapView, IsNumberedIn, GrowsHeap, IsSoundHeap}
use Rattle.cell_store.proofs.HeapGrowthLemmas.{heap_of, grows_same, known_number, new_number, new_grows}
use Rattle.cell_store.proofs.heap.Heap.search_number.Goals as goal

none_if : {X : Type 0} (o : Option X) → ((x : X) → o ≡ Some x → ⊥) → o ≡ None
none_if None h = refl
none_if (Some x) h = absurd (h x refl)

pub returns-in-Some-clause-numbered : goal.returns-in-Some-clause-numbered
returns-in-Some-clause-numbered c =
    let h = c.args.self.now in
    let program : c.deref.result.now ≡ h.program = c.deref.ensures ∙ ap (λ (g : HeapView). g.program) c.self.view_is in
    known_number h c.args.name.now c.in-Some.number (ap (λ (p : CodeView). number_of_name p.names c.args.name.now) (sym program) ∙ (sym c.find.ensures ∙ c.in-Some.is))

pub returns-in-Some-clause-grown : goal.returns-in-Some-clause-grown
returns-in-Some-clause-grown c = grows_same c.args.self.now c.requires

pub returns-in_err-number-clause-grown : goal.returns-in_err-number-clause-grown
returns-in_err-number-clause-grown c =
    let s = c.self.inside in
    let same : heap_of (arc_value s.program) c.number.new.self s.places.made ≡ c.args.self.now = ap (λ ns. heap_of (arc_value s.program) ns s.places.made) c.in_err-number.ensures.err ∙ c.self.view_is in
    subst (GrowsHeap c.args.self.now) (sym same) (grows_same c.args.self.now c.requires)

-- what is known once the name has its number among those that were added
module _ (h : HeapView) (program : CodeView) (names own : List (List ℕ)) (made : List Place) (view : heap_of program names made ≡ h) (name : List ℕ) (k : ℕ) (s : IsSoundHeap h) (missing : number_of_name program.names name ≡ None) (n : IsNumbered names own name k) (apart : AreDistinct own) where
  missing_here : number_of_name h.program.names name ≡ None
  missing_here = subst (λ (g : HeapView). number_of_name g.program.names name ≡ None) view missing

  here : IsNumbered h.names own name k
  here = subst (λ (g : HeapView). IsNumbered g.names own name k) view n

  same : heap_of h.program own h.made ≡ heap_of program own made
  same = ap (λ (g : HeapView). heap_of g.program own g.made) (sym view)

  grows : GrowsHeap h (heap_of program own made)
  grows = subst (GrowsHeap h) same (new_grows h own name k s missing_here here apart)

  numbered : IsNumberedIn h (heap_of program own made) name (length program.names + k)
  numbered = subst (λ g. IsNumberedIn h g name (length program.names + k)) same (subst (λ (g : HeapView). IsNumberedIn h (heap_of h.program own h.made) name (length g.program.names + k)) (sym view) (new_number h own name k s missing_here here apart))

pub returns-in_default-try_from-clause-grown : goal.returns-in_default-try_from-clause-grown
returns-in_default-try_from-clause-grown c =
    let s = c.self.inside in
    let missing = ap (λ (p : CodeView). number_of_name p.names c.args.name.now) (sym c.deref.ensures) ∙ (sym c.find.ensures ∙ none_if c.find.result c.in_default.not-Some) in
    grows c.args.self.now (arc_value s.program) s.names c.number.new.self s.places.made c.self.view_is c.args.name.now c.in_ok-number.number c.requires missing c.in_ok-number.ensures.ok c.len-names.ensures.distinct

pub returns-in_default-checked_add-clause-grown : goal.returns-in_default-checked_add-clause-grown
returns-in_default-checked_add-clause-grown c =
    let s = c.self.inside in
    let missing = ap (λ (p : CodeView). number_of_name p.names c.args.name.now) (sym c.deref.ensures) ∙ (sym c.find.ensures ∙ none_if c.find.result c.in_default.not-Some) in
    grows c.args.self.now (arc_value s.program) s.names c.number.new.self s.places.made c.self.view_is c.args.name.now c.in_ok-number.number c.requires missing c.in_ok-number.ensures.ok c.len-names.ensures.distinct

pub returns-clause-grown : goal.returns-clause-grown
returns-clause-grown c =
    let s = c.self.inside in
    let missing = ap (λ (p : CodeView). number_of_name p.names c.args.name.now) (sym c.deref.ensures) ∙ (sym c.find.ensures ∙ none_if c.find.result c.in_default.not-Some) in
    grows c.args.self.now (arc_value s.program) s.names c.number.new.self s.places.made c.self.view_is c.args.name.now c.in_ok-number.number c.requires missing c.in_ok-number.ensures.ok c.len-names.ensures.distinct

pub returns-clause-numbered : goal.returns-clause-numbered
returns-clause-numbered c =
    let s = c.self.inside in
    let missing = ap (λ (p : CodeView). number_of_name p.names c.args.name.now) (sym c.deref.ensures) ∙ (sym c.find.ensures ∙ none_if c.find.result c.in_default.not-Some) in
    let count : c.names.result ≡ length (arc_value s.program).names = c.names.ensures.count ∙ ap (λ (p : CodeView). length p.names) c.deref-2.ensures in
    let number : length (arc_value s.program).names + c.in_ok-number.number ≡ c.in-Some-checked_add.number = omega (arith, count, c.in-Ok.ensures.1, c.in-Some-checked_add.ensures.1) in
    subst (IsNumberedIn c.args.self.now (heap_of (arc_value s.program) c.number.new.self s.places.made) c.args.name.now) number
    (numbered c.args.self.now (arc_value s.program) s.names c.number.new.self s.places.made c.self.view_is c.args.name.now c.in_ok-number.number c.requires missing c.in_ok-number.ensures.ok c.len-names.ensures.distinct)
