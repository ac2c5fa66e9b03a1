-- The errors of arguments, one condition after another.
use Rattle.std.proofs.Common.{◌≡◌, ◌∙◌, ℕ, zero, suc, ◌+◌, ◌<◌, ◌≤◌, Bool, true, false, not, List, [], ◌∷◌, ◌++◌, map, take, drop, length, get_or, Option, Some, None, Result, Ok, Err, refl, sym, ap, subst, arith}
use Rattle.std.specs.Prelude.{IsErrAnd}
use Rattle.std.specs.Prelude.{ℤ}
use Rattle.std.specs.Borrow.{Bor}
use Rattle.std.specs.List.{list_any}
use Rattle.std.specs.Option.{option_map}
use Rattle.std.proofs.lemmas.List.{drop_more, drop_all, length-map}
use Rattle.au_term.specs.Term.{Term, VarTerm, IntTerm, AtomTerm, Compound}
use Rattle.au_term.specs.declared.atom.Atom.{Atom}
use Rattle.au_model.specs.Terms.TermTypes.{is_atom, is_integer, is_variable}
use Rattle.au_model.specs.Terms.Each.{Each}
use Rattle.au_model.specs.Terms.Faults.{error_term_of}
use Rattle.au_model.specs.Syntax.OperatorChanges.{argument_error, error_if, first_error, is_open_form, first_item_error, named_items}
use Rattle.op_table.specs.Arguments.{IsTested, IsRefusedWith, atom_in, integer_in, list_error}
use Rattle.op_table.specs.declared.refusal.OpRefusal.{OpRefusal}
use Rattle.op_table.specs.declared.refusal.OpRefusal.TheVariants.{Fault, NoMemory}

module _ (bad : Term → Bool) (error : Term → Term) where
  here : (xs : List Term) (i : ℕ) (t : Term) → i < length xs → t ≡ get_or xs i t → drop i xs ≡ t ∷ drop (i + 1) xs
  here xs i t lt is = drop_more xs i t lt ∙ ap (λ y. y ∷ drop (i + 1) xs) (sym is)

  -- an item that is not refused is passed
  pub item_passed : (xs : List Term) (i : ℕ) (t : Term) → i < length xs → t ≡ get_or xs i t → bad t ≡ false → first_item_error bad error (drop i xs) ≡ first_item_error bad error (drop (i + 1) xs)
  item_passed xs i t lt is p = ap (first_item_error bad error) (here xs i t lt is) ∙ (rw p refl)

  pub item_refused : (xs : List Term) (i : ℕ) (t : Term) → i < length xs → t ≡ get_or xs i t → bad t ≡ true → first_item_error bad error (drop i xs) ≡ Some (error t)
  item_refused xs i t lt is p = ap (first_item_error bad error) (here xs i t lt is) ∙ (rw p refl)

  pub items_over : (xs : List Term) (i : ℕ) → length xs ≤ i → first_item_error bad error (drop i xs) ≡ None
  items_over xs i le = ap (first_item_error bad error) (drop_all i xs le)

-- an error of this term is the refusal
pub refused_is : {X : Type 0} (e : Option Term) (t : Term) (P : X → Type 0) (r : Result X OpRefusal) → e ≡ Some t → IsRefusedWith t r → IsTested e P r
refused_is e t P (Ok x) h k = absurd k
refused_is e t P (Err (Fault f)) h k = h ∙ ap Some k
refused_is e t P (Err NoMemory) h k = tt

-- an error of a condition is that of the conditions from it on
pub tested_on : {X Y : Type 0} (e d : Option Term) (P : X → Type 0) (Q : Y → Type 0) (r : Result X OpRefusal) (f : OpRefusal) (s : Result Y OpRefusal) → ((t : Term) → e ≡ Some t → d ≡ Some t) → IsTested e P r → r ≡ Err f → IsErrAnd s (λ g. g ≡ f) → IsTested d Q s
tested_on e d P Q r f (Ok y) on h is same = absurd same
tested_on e d P Q r f (Err g) on h is same = by g (subst (IsTested e P) (is ∙ ap Err (sym same)) h)
  where
    by : (x : OpRefusal) → IsTested e P (Err x) → IsTested d Q (Err x)
    by (Fault fault) k = on (error_term_of fault) k
    by NoMemory k = tt

-- an atom, or none
pub no_atom : (t : Term) (o : Option (Bor Atom)) → option_map (λ a. a.now) o ≡ atom_in t → o ≡ None → not (is_atom t) ≡ true
no_atom (VarTerm n) o e k = refl
no_atom (IntTerm z) o e k = refl
no_atom (AtomTerm a) o e k = let f : None ≡ Some a = ap (option_map (λ (b : Bor Atom). b.now)) (sym k) ∙ e in absurd cc
no_atom (Compound g ts) o e k = refl

pub an_atom : (t : Term) (o : Option (Bor Atom)) (a : Bor Atom) → option_map (λ b. b.now) o ≡ atom_in t → o ≡ Some a → t ≡ AtomTerm a.now
an_atom (VarTerm n) o a e k = let f : Some a.now ≡ None = ap (option_map (λ (b : Bor Atom). b.now)) (sym k) ∙ e in absurd cc
an_atom (IntTerm z) o a e k = let f : Some a.now ≡ None = ap (option_map (λ (b : Bor Atom). b.now)) (sym k) ∙ e in absurd cc
an_atom (AtomTerm b) o a e k = let f : Some a.now ≡ Some b = ap (option_map (λ (b : Bor Atom). b.now)) (sym k) ∙ e in ap AtomTerm cc
an_atom (Compound g ts) o a e k = let f : Some a.now ≡ None = ap (option_map (λ (b : Bor Atom). b.now)) (sym k) ∙ e in absurd cc

pub taken_item : (xs : List Term) (i : ℕ) (t : Term) → i < length xs → t ≡ get_or xs i t → take (i + 1) xs ≡ take i xs ++ t ∷ []
taken_item [] i t lt e = absurd (omega arith)
taken_item (y ∷ ys) zero t lt e = ap (λ z. z ∷ []) (sym e)
taken_item (y ∷ ys) (suc i) t lt e = let k : suc i + 1 ≡ suc (i + 1) = omega arith in rw k (ap (λ zs. y ∷ zs) (taken_item ys i t (omega arith) e))

pub taken_all : (xs : List Term) (i : ℕ) → length xs ≤ i → take i xs ≡ xs
taken_all [] zero le = refl
taken_all [] (suc i) le = refl
taken_all (x ∷ xs) zero le = absurd (omega arith)
taken_all (x ∷ xs) (suc i) le = ap (λ ys. x ∷ ys) (taken_all xs i (omega arith))

-- names as items
module _ (bad : Term → Bool) (error : Term → Term) where
  named : (xs : List (List ℕ)) (i : ℕ) (a : List ℕ) → i < length xs → a ≡ get_or xs i a → (i < length (map AtomTerm xs)) × (AtomTerm a ≡ get_or (map AtomTerm xs) i (AtomTerm a))
  named [] i a lt e = absurd (omega arith)
  named (y ∷ ys) zero a lt e = (omega arith, ap AtomTerm e)
  named (y ∷ ys) (suc i) a lt e = let h = named ys i a (omega arith) e in (omega (arith, h.0), h.1)

  pub name_passed : (xs : List (List ℕ)) (i : ℕ) (a : List ℕ) → i < length xs → a ≡ get_or xs i a → bad (AtomTerm a) ≡ false → first_item_error bad error (drop i (map AtomTerm xs)) ≡ first_item_error bad error (drop (i + 1) (map AtomTerm xs))
  name_passed xs i a lt is p = let h = named xs i a lt is in item_passed bad error (map AtomTerm xs) i (AtomTerm a) h.0 h.1 p

  pub name_refused : (xs : List (List ℕ)) (i : ℕ) (a : List ℕ) → i < length xs → a ≡ get_or xs i a → bad (AtomTerm a) ≡ true → first_item_error bad error (drop i (map AtomTerm xs)) ≡ Some (error (AtomTerm a))
  name_refused xs i a lt is p = let h = named xs i a lt is in item_refused bad error (map AtomTerm xs) i (AtomTerm a) h.0 h.1 p

  pub names_over : (xs : List (List ℕ)) (i : ℕ) → length xs ≤ i → first_item_error bad error (drop i (map AtomTerm xs)) ≡ None
  names_over xs i le = items_over bad error (map AtomTerm xs) i (let e = length-map xs AtomTerm in omega (arith, e))

  -- no name is refused
  pub none_refused : (xs : List (List ℕ)) → first_item_error bad error (map AtomTerm xs) ≡ None → Each (λ a. bad (AtomTerm a) ≡ false) xs
  none_refused [] e = tt
  none_refused (a ∷ xs) e = go (bad (AtomTerm a)) refl e (none_refused xs)
    where
      go : (b : Bool) → bad (AtomTerm a) ≡ b → first_error (error_if b (error (AtomTerm a)) ∷ map (λ t. error_if (bad t) (error t)) (map AtomTerm xs)) ≡ None
          → (first_item_error bad error (map AtomTerm xs) ≡ None → Each (λ x. bad (AtomTerm x) ≡ false) xs) → Each (λ x. bad (AtomTerm x) ≡ false) (a ∷ xs)
      go true h k f = absurd cc
      go false h k f = (h, f k)

-- a variable among items
pub variable_passed : (xs : List Term) (i : ℕ) (t : Term) → i < length xs → t ≡ get_or xs i t → is_variable t ≡ false → list_any is_variable (drop i xs) ≡ list_any is_variable (drop (i + 1) xs)
variable_passed xs i t lt is p = ap (list_any is_variable) (drop_more xs i t lt ∙ ap (λ y. y ∷ drop (i + 1) xs) (sym is)) ∙ (rw p refl)

pub variable_here : (xs : List Term) (i : ℕ) (t : Term) → i < length xs → t ≡ get_or xs i t → is_variable t ≡ true → list_any is_variable (drop i xs) ≡ true
variable_here xs i t lt is p = ap (list_any is_variable) (drop_more xs i t lt ∙ ap (λ y. y ∷ drop (i + 1) xs) (sym is)) ∙ (rw p refl)

pub variables_over : (xs : List Term) (i : ℕ) → length xs ≤ i → list_any is_variable (drop i xs) ≡ false
variables_over xs i le = ap (list_any is_variable) (drop_all i xs le)

-- what an argument is
pub integer_there : (t : Term) (z : ℤ) → integer_in t ≡ Some z → is_integer t ≡ true
integer_there (VarTerm n) z e = absurd cc
integer_there (IntTerm y) z e = refl
integer_there (AtomTerm a) z e = absurd cc
integer_there (Compound f ts) z e = absurd cc

pub list_refused : (p s n t : Term) → is_variable p ≡ false → is_variable s ≡ false → is_open_form (named_items n) ≡ false → is_integer p ≡ true → is_atom s ≡ true → list_error n (named_items n) ≡ Some t → argument_error p s n ≡ Some t
list_refused p s n t a b c d e f = rw (a, b, c, d, e, f) refl
