-- Cells that are changed, and the substitution that is read off them.
use Rattle.std.proofs.Common.{◌≡◌, ℕ, zero, suc, ◌+◌, ◌-◌, ◌<◌, ◌≤◌, Bool, true, false, cond, nat_lt, ◌==◌, List, [], ◌∷◌, length, slice_set, refl, sym, ap, ◌∙◌, subst, arith}
use Rattle.std.proofs.lemmas.Bool.Decides.{nat_tests}
use Rattle.std.proofs.Math.ListN.{get_or-eq_default}
use Rattle.std.proofs.lemmas.List.{length-set}
use Rattle.au_term.specs.Term.{Term, VarTerm, IntTerm, AtomTerm, var_bound}
use Rattle.au_term.specs.Shifted.{shifted}
use Rattle.au_model.specs.Terms.Substitutions.{Substitution, apply, value_of, resolve, occurs}
use Rattle.au_term.proofs.LogicLemmas.{number_same}
use Rattle.au_model.specs.Terms.EquationsInTurn.{after}
use Rattle.au_model.proofs.ApplyLemmas.{apply-same}
use Rattle.au_model.proofs.EquationsInTurnLemmas.{resolve-after}
use Rattle.clause_compile.specs.AtomNumbers.{name_at}
use Rattle.clause_compile.specs.Places.{CodeView, meaning_in, AreSound, Keeps}
use Rattle.clause_compile.specs.declared.place.Place.TheVariants.{Sub, Atom as AtomPlace}
use Rattle.binding_array.specs.Represented.{variable_cell, cell_term, IsBoundCell, IsFalling, AreFalling, CellStandsFor, Represents}
use Rattle.binding_array.specs.declared.cell.BindingCell.{BindingCell}
use Rattle.binding_array.specs.declared.cell.BindingCell.TheVariants.{Free, Var, Int, Atom, Compound}
use Rattle.binding_array.proofs.RepresentedLemmas.{written, binding_represents}
use Rattle.cell_store.specs.Values.{IsValue, IsCell, AreCells}
use Rattle.cell_store.specs.CellMeanings.{value_by, value_to, with_cell_value, values_below, substitution_in, AreConsistent}
use Rattle.cell_store.proofs.OccurrenceLemmas.{kept_below, occurs_below}
use Rattle.cell_store.proofs.CellMeaningLemmas.{FreeOrBound, is_free, is_bound_cell, free_or_bound, free_stands, bound_stands, by_values, read_value, is_final, has_value, term_below, means_compound, IsCompound, compound}

-- what the list of values has for a variable
with_free : (c : BindingCell) (n : ℕ) (t : Term) (s : Substitution) → c ≡ Free → with_cell_value c n t s ≡ s
with_free c n t s e = ap (λ d. with_cell_value d n t s) e

with_bound : (c : BindingCell) (n : ℕ) (t : Term) (s : Substitution) → IsBoundCell c → with_cell_value c n t s ≡ (n, t) ∷ s
with_bound Free n t s b = absurd b
with_bound (Var w) n t s b = refl
with_bound (Int z) n t s b = refl
with_bound (Atom a) n t s b = refl
with_bound (Compound at base) n t s b = refl

other_value : (c : BindingCell) (n : ℕ) (t : Term) (s : Substitution) (v : ℕ) → (n == v) ≡ false → value_of (with_cell_value c n t s) v ≡ value_of s v
other_value Free n t s v e = refl
other_value (Var w) n t s v e = ap (λ b. cond b t (value_of s v)) e
other_value (Int z) n t s v e = ap (λ b. cond b t (value_of s v)) e
other_value (Atom a) n t s v e = ap (λ b. cond b t (value_of s v)) e
other_value (Compound at base) n t s v e = ap (λ b. cond b t (value_of s v)) e

value_beyond : (n : ℕ) (cells : List BindingCell) (f : ℕ → Term) (v : ℕ) → n ≤ v → value_of (values_below n cells f) v ≡ VarTerm v
value_beyond zero cells f v le = refl
value_beyond (suc n) cells f v le = other_value (variable_cell cells n) n (f n) (values_below n cells f) v (grind (arith, nat_tests)) ∙ value_beyond n cells f v (omega arith)

value_within : (n : ℕ) (cells : List BindingCell) (f : ℕ → Term) (v : ℕ) → (variable_cell cells v ≡ Free → f v ≡ VarTerm v) → v < n → value_of (values_below n cells f) v ≡ f v
value_within zero cells f v free lt = absurd (omega arith)
value_within (suc n) cells f v free lt = by_test (n == v) refl (value_within n cells f v free)
  where
    rest : Substitution
    rest = values_below n cells f

    itself : n ≡ v → FreeOrBound (variable_cell cells n) → value_of (with_cell_value (variable_cell cells n) n (f n) rest) v ≡ f v
    itself same (is_free e) =
        ap (λ s. value_of s v) (with_free (variable_cell cells n) n (f n) rest e)
        ∙ (value_beyond n cells f v (omega arith) ∙ sym (free (ap (variable_cell cells) (sym same) ∙ e)))
    itself same (is_bound_cell b) =
        ap (λ s. value_of s v) (with_bound (variable_cell cells n) n (f n) rest b)
        ∙ (ap (λ t. cond t (f n) (value_of rest v)) (ap (λ k. n == k) (sym same) ∙ number_same n) ∙ ap f same)

    by_test : (b : Bool) → (n == v) ≡ b → (v < n → value_of rest v ≡ f v) → value_of (with_cell_value (variable_cell cells n) n (f n) rest) v ≡ f v
    by_test true e below = itself (grind (arith, nat_tests)) (free_or_bound (variable_cell cells n))
    by_test false e below = other_value (variable_cell cells n) n (f n) rest v e ∙ below (grind (arith, nat_tests))

-- cells without a variable
beyond_free : (cells : List BindingCell) (v : ℕ) → length cells ≤ v → variable_cell cells v ≡ Free
beyond_free cells v le = get_or-eq_default cells Free le

-- the substitution that is read off is the one that the cells represent
pub read_off : (code : CodeView) (cells : List BindingCell) (s : Substitution) → AreFalling cells → AreCells code cells → Represents code cells s → (v : ℕ) → value_of (substitution_in code cells) v ≡ value_of s v
unfolding substitution_in
read_off code cells s falling values r v = by_test (nat_lt v (length cells)) refl
  where
    f : ℕ → Term
    f = value_to (suc (length cells)) code cells

    when_free : variable_cell cells v ≡ Free → f v ≡ VarTerm v
    when_free e = ap (value_by code (value_to (length cells) code cells) v) e

    by_test : (b : Bool) → nat_lt v (length cells) ≡ b → value_of (values_below (length cells) cells f) v ≡ value_of s v
    by_test true e = value_within (length cells) cells f v when_free (grind (arith, nat_tests)) ∙ read_value code cells s falling values r v
    by_test false e =
        let le : length cells ≤ v = grind (arith, nat_tests) in
        value_beyond (length cells) cells f v le ∙ sym (free_stands code s v cells r (beyond_free cells v le))

-- substitutions that agree are represented alike
pub represents_same : (code : CodeView) (cells : List BindingCell) (s t : Substitution) → ((v : ℕ) → value_of t v ≡ value_of s v) → Represents code cells s → Represents code cells t
represents_same code cells s t h r v = by_cell (variable_cell cells v) (r v)
  where
    by_cell : (c : BindingCell) → CellStandsFor code s v c → CellStandsFor code t v c
    by_cell Free k = h v ∙ k
    by_cell (Var w) k = h v ∙ (k ∙ sym (h w))
    by_cell (Int z) k = h v ∙ k
    by_cell (Atom a) k = h v ∙ k
    by_cell (Compound at base) k = h v ∙ (k ∙ sym (apply-same (value_of t) (value_of s) h (shifted base (meaning_in code (Sub at)))))

pub consistent_by : (code : CodeView) (cells : List BindingCell) (s : Substitution) → AreSound (length code.names) code.places → AreFalling cells → AreCells code cells → Represents code cells s → AreConsistent code cells
consistent_by code cells s text falling values r =
    record { text = text; falling = falling; values = values; represents = represents_same code cells s (substitution_in code cells) (read_off code cells s falling values r) r }

-- nothing is bound
pub none_bound : (code : CodeView) → substitution_in code [] ≡ []
unfolding substitution_in
none_bound code = refl

pub none_consistent : (code : CodeView) → AreSound (length code.names) code.places → AreConsistent code []
none_consistent code text = consistent_by code [] [] text (λ v. tt) (λ v. tt) (λ v. refl)

-- the values that are read off decide
values_same : (n : ℕ) (cells now : List BindingCell) (f g : ℕ → Term) → ((v : ℕ) → variable_cell now v ≡ variable_cell cells v) → ((v : ℕ) → g v ≡ f v) → values_below n now g ≡ values_below n cells f
values_same zero cells now f g c h = refl
values_same (suc n) cells now f g c h =
    ap (λ d. with_cell_value d n (g n) (values_below n now g)) (c n)
    ∙ (ap (λ t. with_cell_value (variable_cell cells n) n t (values_below n now g)) (h n) ∙ ap (with_cell_value (variable_cell cells n) n (f n)) (values_same n cells now f g c h))

-- text was added
term_kept : (old new : CodeView) (n : ℕ) (c : BindingCell) → Keeps old new → IsValue old n c → cell_term new c ≡ cell_term old c
term_kept old new n Free k h = absurd h
term_kept old new n (Var w) k h = refl
term_kept old new n (Int z) k h = refl
term_kept old new n (Atom a) k h = (k.same (AtomPlace a) h).1
term_kept old new n (Compound at base) k h = ap (shifted base) (k.same (Sub at) h.0).1

pub value_kept : (old new : CodeView) (n : ℕ) (c : BindingCell) → Keeps old new → IsValue old n c → IsValue new n c × (cell_term new c ≡ cell_term old c)
value_kept old new n Free k h = absurd h
value_kept old new n (Var w) k h = (h, refl)
value_kept old new n (Int z) k h = (tt, refl)
value_kept old new n (Atom a) k h = let s = k.same (AtomPlace a) h in (s.0, s.1)
value_kept old new n (Compound at base) k h = let s = k.same (Sub at) h.0 in ((s.0, subst (λ t. var_bound (shifted base t) ≤ n) (sym s.1) h.1), ap (shifted base) s.1)

by_kept : (old new : CodeView) (n : ℕ) (f g : ℕ → Term) (v : ℕ) (c : BindingCell) → Keeps old new → IsCell old n c → ((w : ℕ) → g w ≡ f w) → value_by new g v c ≡ value_by old f v c
by_kept old new n f g v Free k h e = refl
by_kept old new n f g v (Var w) k h e = e w
by_kept old new n f g v (Int z) k h e = refl
by_kept old new n f g v (Atom a) k h e = term_kept old new n (Atom a) k h
by_kept old new n f g v (Compound at base) k h e = ap (apply g) (term_kept old new n (Compound at base) k h) ∙ apply-same g f e (shifted base (meaning_in old (Sub at)))

value_to_kept : (old new : CodeView) (cells : List BindingCell) → Keeps old new → AreCells old cells → (m v : ℕ) → value_to m new cells v ≡ value_to m old cells v
value_to_kept old new cells k h zero v = refl
value_to_kept old new cells k h (suc m) v = by_kept old new (length cells) (value_to m old cells) (value_to m new cells) v (variable_cell cells v) k (h v) (value_to_kept old new cells k h m)

pub substitution_kept : (old new : CodeView) (cells : List BindingCell) → Keeps old new → AreCells old cells → substitution_in new cells ≡ substitution_in old cells
unfolding substitution_in
substitution_kept old new cells k h =
    values_same (length cells) cells cells (value_to (suc (length cells)) old cells) (value_to (suc (length cells)) new cells) (λ v. refl) (value_to_kept old new cells k h (suc (length cells)))

cell_kept : (old new : CodeView) (n : ℕ) (c : BindingCell) → Keeps old new → IsCell old n c → IsCell new n c
cell_kept old new n Free k h = tt
cell_kept old new n (Var w) k h = (value_kept old new n (Var w) k h).0
cell_kept old new n (Int z) k h = tt
cell_kept old new n (Atom a) k h = (value_kept old new n (Atom a) k h).0
cell_kept old new n (Compound at base) k h = (value_kept old new n (Compound at base) k h).0

stands_kept : (old new : CodeView) (s : Substitution) (n v : ℕ) (c : BindingCell) → Keeps old new → IsCell old n c → CellStandsFor old s v c → CellStandsFor new s v c
stands_kept old new s n v Free k h e = e
stands_kept old new s n v (Var w) k h e = e
stands_kept old new s n v (Int z) k h e = e
stands_kept old new s n v (Atom a) k h e = e ∙ sym (term_kept old new n (Atom a) k h)
stands_kept old new s n v (Compound at base) k h e = e ∙ ap (resolve s) (sym (term_kept old new n (Compound at base) k h))

pub consistent_kept : (old new : CodeView) (cells : List BindingCell) → Keeps old new → AreSound (length new.names) new.places → AreConsistent old cells → AreConsistent new cells
consistent_kept old new cells k text a =
    consistent_by new cells (substitution_in old cells) text a.falling (λ v. cell_kept old new (length cells) (variable_cell cells v) k (a.values v))
    (λ v. stands_kept old new (substitution_in old cells) (length cells) v (variable_cell cells v) k (a.values v) (a.represents v))

-- cells of new variables
pub value_raised : (code : CodeView) (n m : ℕ) (c : BindingCell) → n ≤ m → IsValue code n c → IsValue code m c
value_raised code n m Free le h = absurd h
value_raised code n m (Var w) le h = omega (arith, h)
value_raised code n m (Int z) le h = tt
value_raised code n m (Atom a) le h = h
value_raised code n m (Compound at base) le h = (h.0, omega (arith, h.1))

cell_raised : (code : CodeView) (n m : ℕ) (c : BindingCell) → n ≤ m → IsCell code n c → IsCell code m c
cell_raised code n m Free le h = tt
cell_raised code n m (Var w) le h = value_raised code n m (Var w) le h
cell_raised code n m (Int z) le h = tt
cell_raised code n m (Atom a) le h = h
cell_raised code n m (Compound at base) le h = value_raised code n m (Compound at base) le h

module _ (code : CodeView) (cells now : List BindingCell) (same : (v : ℕ) → variable_cell now v ≡ variable_cell cells v) (longer : length cells ≤ length now) (a : AreConsistent code cells) where
  raised : AreCells code now
  raised v = subst (IsCell code (length now)) (sym (same v)) (cell_raised code (length cells) (length now) (variable_cell cells v) longer (a.values v))

  falls : AreFalling now
  falls v = subst (IsFalling v) (sym (same v)) (a.falling v)

  stand : Represents code now (substitution_in code cells)
  stand v = subst (CellStandsFor code (substitution_in code cells) v) (sym (same v)) (a.represents v)

  pub consistent_grown : AreConsistent code now
  consistent_grown = consistent_by code now (substitution_in code cells) a.text falls raised stand

  further_free : (k m : ℕ) (f : ℕ → Term) → k ≡ m + length cells → values_below k now f ≡ values_below (length cells) now f
  further_free k zero f e = let same_number : k ≡ length cells = omega arith in ap (λ j. values_below j now f) same_number
  further_free zero (suc m) f e = absurd (omega arith)
  further_free (suc k) (suc m) f e = with_free (variable_cell now k) k (f k) (values_below k now f) (same k ∙ beyond_free cells k (omega arith)) ∙ further_free k m f (omega arith)

  pub substitution_grown : substitution_in code now ≡ substitution_in code cells
  unfolding substitution_in
  substitution_grown =
      let s = values_below (length cells) cells (value_to (suc (length cells)) code cells) in
      let f = value_to (suc (length cells)) code cells in
      let g = value_to (suc (length now)) code now in
      let agree : (v : ℕ) → g v ≡ f v = λ v. read_value code now s falls raised stand v ∙ sym (read_value code cells s a.falling a.values a.represents v) in
      further_free (length now) (length now - length cells) g (omega arith) ∙ (values_same (length cells) cells now f g same agree)

-- numbers that have not been taken stand for themselves, and others for terms of numbers that have
pub is_new : (code : CodeView) (cells : List BindingCell) (v : ℕ) → AreConsistent code cells → length cells ≤ v → value_of (substitution_in code cells) v ≡ VarTerm v
is_new code cells v a le = free_stands code (substitution_in code cells) v cells a.represents (beyond_free cells v le)

pub is_below : (code : CodeView) (cells : List BindingCell) → AreConsistent code cells → (v : ℕ) → v < length cells → var_bound (value_of (substitution_in code cells) v) ≤ length cells
is_below code cells a = by_values code cells s a.falling a.values a.represents (λ v. v < length cells → var_bound (value_of s v) ≤ length cells)
    (λ v e lt. subst (λ t. var_bound t ≤ length cells) (sym (free_stands code s v cells a.represents e)) (omega arith))
    (λ v b h lt. subst (λ t. var_bound t ≤ length cells) (sym (bound_stands code s v cells a.represents b))
    (kept_below (value_of s) (length cells) (cell_term code (variable_cell cells v)) (λ w o. h w o (omega (arith, occurs_below w (cell_term code (variable_cell cells v)) o, term_below code (length cells) (variable_cell cells v) (has_value code cells s a.falling a.values a.represents v b))))))
  where
    s : Substitution
    s = substitution_in code cells

pub final : (code : CodeView) (cells : List BindingCell) (v : ℕ) → AreConsistent code cells → resolve (substitution_in code cells) (value_of (substitution_in code cells) v) ≡ value_of (substitution_in code cells) v
final code cells v a = is_final code cells (substitution_in code cells) a.falling a.values a.represents v

-- a variable that stands for itself is free
pub no_variable : (t : Term) (u : ℕ) → IsCompound t → t ≡ VarTerm u → ⊥
no_variable t u (compound f ts) e = absurd cc

pub resolved_compound : (s : Substitution) (t : Term) → IsCompound t → IsCompound (resolve s t)
resolved_compound s t (compound f ts) = compound f _

module _ (code : CodeView) (cells : List BindingCell) (a : AreConsistent code cells) where
  abbrev s : Substitution
  s = substitution_in code cells

  downward : (v u : ℕ) (c : BindingCell) → IsValue code (length cells) c → IsFalling v c → value_of s v ≡ resolve s (cell_term code c) → ((w : ℕ) → occurs w (cell_term code c) ≡ true → value_of s w ≡ VarTerm u → u ≤ w) → value_of s v ≡ VarTerm u → u < v
  downward v u Free h f e i k = absurd h
  downward v u (Var w) h f e i k = let le = i w (number_same w) (sym e ∙ k) in omega (arith, f)
  downward v u (Int z) h f e i k = absurd (let d : IntTerm z ≡ VarTerm u = sym e ∙ k in cc)
  downward v u (Atom b) h f e i k = absurd (let d : AtomTerm (name_at code.names b) ≡ VarTerm u = sym e ∙ k in cc)
  downward v u (Compound at base) h f e i k = absurd (no_variable (resolve s (cell_term code (Compound at base))) u (resolved_compound s (cell_term code (Compound at base)) (means_compound code at base h.0)) (sym e ∙ k))

  variable_below : (v u : ℕ) → value_of s v ≡ VarTerm u → u ≤ v
  variable_below = by_values code cells s a.falling a.values a.represents (λ v. (u : ℕ) → value_of s v ≡ VarTerm u → u ≤ v)
      (λ v e u k. let d : VarTerm v ≡ VarTerm u = sym (free_stands code s v cells a.represents e) ∙ k in let same_number : v ≡ u = cc in omega arith)
      (λ v b h u k. let lt = downward v u (variable_cell cells v) (has_value code cells s a.falling a.values a.represents v b) (a.falling v) (bound_stands code s v cells a.represents b) (λ w o. h w o u) k in omega arith)

  pub is_free_cell : (v : ℕ) → value_of s v ≡ VarTerm v → variable_cell cells v ≡ Free
  is_free_cell v k = elim (free_or_bound (variable_cell cells v)) [
    | is_free e ↦ e
    | is_bound_cell b ↦
        absurd (let lt = downward v v (variable_cell cells v) (has_value code cells s a.falling a.values a.represents v b) (a.falling v) (bound_stands code s v cells a.represents b) (λ w o. variable_below w v) k in omega arith)
  ]

-- one more binding
is_bound_value : (code : CodeView) (n : ℕ) (c : BindingCell) → IsValue code n c → IsBoundCell c
is_bound_value code n Free h = absurd h
is_bound_value code n (Var w) h = tt
is_bound_value code n (Int z) h = tt
is_bound_value code n (Atom b) h = tt
is_bound_value code n (Compound at base) h = tt

is_cell : (code : CodeView) (n : ℕ) (c : BindingCell) → IsValue code n c → IsCell code n c
is_cell code n Free h = absurd h
is_cell code n (Var w) h = h
is_cell code n (Int z) h = h
is_cell code n (Atom b) h = h
is_cell code n (Compound at base) h = h

module _ (code : CodeView) (cells : List BindingCell) (v : ℕ) (c : BindingCell) (a : AreConsistent code cells) (there : v < length cells) (unbound : value_of (substitution_in code cells) v ≡ VarTerm v) (value : IsValue code (length cells) c) (down : IsFalling v c)
    (apart : occurs v (resolve (substitution_in code cells) (cell_term code c)) ≡ false) where
  abbrev old : Substitution
  old = substitution_in code cells

  abbrev one : Substitution
  one = (v, resolve old (cell_term code c)) ∷ []

  abbrev set_cells : List BindingCell
  set_cells = slice_set cells v c

  by_written : (P : ℕ → BindingCell → Type 0) → P v c → ((u : ℕ) → P u (variable_cell cells u)) → (u : ℕ) → P u (variable_cell set_cells u)
  by_written P own others u = subst (P u) (sym (written cells v u c there)) (by_test (v == u) refl)
    where
      by_test : (b : Bool) → (v == u) ≡ b → P u (cond b c (variable_cell cells u))
      by_test true e = let same : v ≡ u = grind (arith, nat_tests) in subst (λ w. P w c) same own
      by_test false e = others u

  stands_now : Represents code set_cells (after old one)
  stands_now = binding_represents code cells old (after old one) v c a.represents (is_free_cell code cells a v unbound) there (is_bound_value code (length cells) c value) apart (λ n. resolve-after old one (VarTerm n))

  still_falling : AreFalling set_cells
  still_falling = by_written IsFalling down a.falling

  still_values : AreCells code set_cells
  still_values = by_written (λ u d. IsCell code (length set_cells) d) (subst (λ k. IsCell code k c) same_length (is_cell code (length cells) c value)) (λ u. subst (λ k. IsCell code k (variable_cell cells u)) same_length (a.values u))
    where
      same_length : length cells ≡ length set_cells
      same_length = sym (length-set cells v c)

  pub bound_consistent : AreConsistent code set_cells
  bound_consistent = consistent_by code set_cells (after old one) a.text still_falling still_values stands_now

  pub bound_value : (n : ℕ) → value_of (substitution_in code set_cells) n ≡ resolve one (value_of old n)
  bound_value n = read_off code set_cells (after old one) still_falling still_values stands_now n ∙ resolve-after old one (VarTerm n)
