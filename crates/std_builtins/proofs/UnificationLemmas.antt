-- Whether terms unify does not change where their variables are numbered anew, or where values of a store stand for them.
use Rattle.std.proofs.Common.{◌≡◌, ℕ, suc, ◌+◌, ◌<◌, ◌≤◌, ◌==◌, Bool, true, false, cond, not, max, List, [], ◌∷◌, length, get_or, Option, Some, None, refl, sym, ap, ap₂, ◌∙◌, zero-add, arith}
use Rattle.std.specs.Prelude.{is_none}
use Rattle.std.proofs.lemmas.Bool.Decides.{nat_tests}
use Rattle.au_term.specs.Term.{Term, VarTerm, IntTerm, AtomTerm, Compound, Terms, end, more, var_bound}
use Rattle.au_model.specs.Terms.Copies.{place_of, renamed, seen_in}
use Rattle.au_model.specs.Terms.MostGeneral.{Unifies, IsUnifierAnswer}
use Rattle.au_model.specs.Terms.Substitutions.{Substitution, apply, apply_all, resolve, value_of}
use Rattle.au_model.specs.Terms.Unifier.{Equations, unifier}
use Rattle.au_model.proofs.ApplyLemmas.{apply-apply, two}
use Rattle.au_model.proofs.EquationsInTurnLemmas.{resolve-nothing}
use Rattle.au_model.proofs.UnifierLemmas.{unifier_answers}
use Rattle.au_model.proofs.VariableBoundLemmas.{IsSeen, AllSeen, AreAllSeen, all_seen, still_seen}
use Rattle.binding_array.specs.declared.cell.BindingCell.{BindingCell}
use Rattle.clause_compile.specs.Places.{CodeView}
use Rattle.clause_compile.proofs.RenumberingLemmas.{head_stays, numbered_below}
use Rattle.cell_store.specs.StoreView.{StoreView, new_store, substitution, meaning, value_term, with_numbers}
use Rattle.cell_store.specs.UnificationSteps.{IsUnified}

-- the variable that was renamed to a number
abbrev original : List ℕ → ℕ → Term
original all n = VarTerm (get_or all n 0)

number_at_place : (all : List ℕ) (n : ℕ) → IsSeen all n → get_or all (place_of all n) 0 ≡ n
number_at_place [] n h = absurd (omega arith)
number_at_place (m ∷ ms) n h = by (m == n) refl (number_at_place ms n) h
  where
    by : (b : Bool) → (m == n) ≡ b → (IsSeen ms n → get_or ms (place_of ms n) 0 ≡ n) → cond b 0 (suc (place_of ms n)) < suc (length ms) → get_or (m ∷ ms) (cond b 0 (suc (place_of ms n))) 0 ≡ n
    by true e further k = grind (arith, nat_tests)
    by false e further k = further (omega arith)

mutual
  renamed_back : (all : List ℕ) (t : Term) → AllSeen all t → apply (original all) (apply (renamed all 0) t) ≡ t
  renamed_back all (VarTerm n) h = ap VarTerm (ap (λ i. get_or all i 0) (zero-add (place_of all n)) ∙ number_at_place all n h)
  renamed_back all (IntTerm z) h = refl
  renamed_back all (AtomTerm a) h = refl
  renamed_back all (Compound f ts) h = ap (Compound f) (all_renamed_back all ts h)

  all_renamed_back : (all : List ℕ) (ts : Terms) → AreAllSeen all ts → apply_all (original all) (apply_all (renamed all 0) ts) ≡ ts
  all_renamed_back all end h = refl
  all_renamed_back all (more t ts) h = two (renamed_back all t h.0) (all_renamed_back all ts h.1)

-- equations of which the ones have a unifier where the others have one
both_or_none : (eqs es : Equations) (there back : (ℕ → Term) → ℕ → Term) → ((f : ℕ → Term) → Unifies f eqs → Unifies (there f) es) → ((f : ℕ → Term) → Unifies f es → Unifies (back f) eqs) → is_none (unifier eqs) ≡ is_none (unifier es)
both_or_none eqs es there back go return = by (unifier eqs) (unifier es) (unifier_answers eqs) (unifier_answers es)
  where
    by : (o p : Option Substitution) → IsUnifierAnswer o eqs → IsUnifierAnswer p es → is_none o ≡ is_none p
    by None None h k = refl
    by None (Some t) h k = absurd (h (back (value_of t)) (return (value_of t) k.unifies))
    by (Some s) None h k = absurd (k (there (value_of s)) (go (value_of s) h.unifies))
    by (Some s) (Some t) h k = refl

-- two terms with their variables numbered anew
module _ (l r : Term) where
  abbrev pub all : List ℕ
  all = seen_in r (seen_in l [])

  abbrev pub anew : Term → Term
  anew t = apply (renamed all 0) t

  abbrev there : (ℕ → Term) → ℕ → Term
  there f n = apply f (renamed all 0 n)

  abbrev back : (ℕ → Term) → ℕ → Term
  back g n = apply g (original all n)

  there_same : (f : ℕ → Term) (t : Term) → apply (there f) t ≡ apply f (anew t)
  there_same f t = sym (apply-apply f (renamed all 0) t)

  back_same : (g : ℕ → Term) (t : Term) → AllSeen all t → apply (back g) (anew t) ≡ apply g t
  back_same g t h = sym (apply-apply g (original all) (anew t)) ∙ ap (apply g) (renamed_back all t h)

  pub renamed_apart : is_none (unifier ((anew l, anew r) ∷ [])) ≡ is_none (unifier ((l, r) ∷ []))
  renamed_apart =
      both_or_none ((anew l, anew r) ∷ []) ((l, r) ∷ []) there back
      (λ f u. (there_same f l ∙ (u.0 ∙ sym (there_same f r)), tt))
      (λ g u. (back_same g l (still_seen r l (seen_in l []) (all_seen l [])) ∙ (u.0 ∙ sym (back_same g r (all_seen r (seen_in l [])))), tt))

-- which are copied one after the other
module _ (l r a b : Term) (none seen after : List ℕ) (n : none ≡ []) (first : seen ≡ seen_in l none) (left : a ≡ apply (renamed (seen_in l none) 0) l) (second : after ≡ seen_in r seen) (right : b ≡ apply (renamed (seen_in r seen) 0) r) where
  seen_is : seen ≡ seen_in l []
  seen_is = first ∙ ap (seen_in l) n

  pub left_copied : a ≡ anew l r l
  left_copied = left ∙ (ap (λ ns. apply (renamed (seen_in l ns) 0) l) n ∙ head_stays l r)

  pub right_copied : b ≡ anew l r r
  right_copied = right ∙ ap (λ ns. apply (renamed (seen_in r ns) 0) r) seen_is

  after_is : after ≡ all l r
  after_is = second ∙ ap (seen_in r) seen_is

  pub copies_below : max (var_bound a) (var_bound b) ≤ length after
  copies_below = let x = ap var_bound left_copied in let y = ap var_bound right_copied in let z = ap length after_is in let h = numbered_below l r in omega (arith, x, y, z, h)

-- a new store with so many numbers
module _ (program : CodeView) (n : ℕ) (st new : StoreView) (made : st ≡ new_store program) (grown : new ≡ with_numbers n st) where
  pub next_taken : new.now.next ≡ n
  next_taken = ap (λ s. s.now.next) grown ∙ (ap (λ s. s.now.next + n) made ∙ zero-add n)

  pub none_bound : substitution new ≡ []
  none_bound = ap (λ s. s.now.bound) grown ∙ ap (λ s. s.now.bound) made

-- where nothing is bound, values unify as the terms do that they are
pub unified_or_not : (a b : BindingCell) (l r : Term) (old new : StoreView) (ok : Bool) → substitution old ≡ [] → value_term old a ≡ l → value_term old b ≡ r → IsUnified a b old new ok → not ok ≡ is_none (unifier ((l, r) ∷ []))
unified_or_not a b l r old new ok none left right u = by ok u
  where
    itself : (t x : Term) → t ≡ x → resolve (substitution old) t ≡ x
    itself t x e = ap (λ s. resolve s t) none ∙ (resolve-nothing t ∙ e)

    same : unifier ((meaning old a, meaning old b) ∷ []) ≡ unifier ((l, r) ∷ [])
    same = ap₂ (λ x y. unifier ((x, y) ∷ [])) (itself (value_term old a) l left) (itself (value_term old b) r right)

    by : (k : Bool) → IsUnified a b old new k → not k ≡ is_none (unifier ((l, r) ∷ []))
    by true h = ap is_none (sym h.unified ∙ same)
    by false h = ap is_none (sym h ∙ same)
