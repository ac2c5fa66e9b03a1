-- The parts of a clause where its variables are the next numbers.
use Rattle.std.proofs.Common.{◌≡◌, ℕ, zero, suc, ◌+◌, ◌-◌, ◌<◌, ◌≤◌, ◌==◌, Bool, true, false, cond, List, [], ◌∷◌, ◌++◌, refl, sym, ap, ◌∙◌, subst, arith}
use Rattle.std.specs.Prelude.{codes}
use Rattle.std.proofs.lemmas.Bool.Decides.{nat_tests}
use Rattle.au_term.specs.Term.{Term, VarTerm, IntTerm, AtomTerm, Compound, Terms, end, more, var_bound}
use Rattle.au_term.specs.Shifted.{shifted, all_shifted}
use Rattle.au_term.proofs.LogicLemmas.{same_number}
use Rattle.au_model.specs.Terms.Copies.{place_of}
use Rattle.au_model.specs.Terms.Each.{Each}
use Rattle.au_model.specs.Terms.Forms.{same_name, binary}
use Rattle.au_model.specs.Terms.Substitutions.{Substitution, apply, apply_all, value_of, resolve}
use Rattle.au_model.proofs.ApplyLemmas.{two, apply-apply}
use Rattle.au_model.proofs.EachLemmas.{each-append}
use Rattle.au_model.proofs.VariableBoundLemmas.{apply-below}
use Rattle.run_model.specs.Programs.Bodies.{goals_of, clause_goals_of}
use Rattle.run_model.specs.Programs.Clauses.{Clause, clause_variables, clause_renaming}
use Rattle.clause_compile.specs.ClauseInvariant.{numbers_from}
use Rattle.cell_store.proofs.OccurrenceLemmas.{agreed, occurs_below}

-- a shift is a renaming of each variable
mutual
  shifted_by : (base : ℕ) (t : Term) → shifted base t ≡ apply (λ n. VarTerm (base + n)) t
  shifted_by base (VarTerm n) = refl
  shifted_by base (IntTerm z) = refl
  shifted_by base (AtomTerm a) = refl
  shifted_by base (Compound f ts) = ap (Compound f) (all_shifted_by base ts)

  all_shifted_by : (base : ℕ) (ts : Terms) → all_shifted base ts ≡ apply_all (λ n. VarTerm (base + n)) ts
  all_shifted_by base end = refl
  all_shifted_by base (more t ts) = two (shifted_by base t) (all_shifted_by base ts)

pub shifted_within : (base k : ℕ) (t : Term) → var_bound t ≤ k → var_bound (shifted base t) ≤ base + k
shifted_within base k t le = subst (λ u. var_bound u ≤ base + k) (sym (shifted_by base t)) (apply-below (λ n. VarTerm (base + n)) k (base + k) (λ n lt. omega (arith, lt)) t le)

-- where a number is among those from one on
numbers_placed : (first k i n : ℕ) → n ≡ first + i → i < k → place_of (numbers_from first k) n ≡ i
numbers_placed first zero i n e lt = absurd (omega (arith, lt))
numbers_placed first (suc k) i n e lt = by_test (first == n) refl (λ some. numbers_placed (suc first) k (i - 1) n (omega (arith, e, some)) (omega (arith, lt, some)))
  where
    by_test : (b : Bool) → (first == n) ≡ b → (0 < i → place_of (numbers_from (suc first) k) n ≡ i - 1) → cond b 0 (suc (place_of (numbers_from (suc first) k) n)) ≡ i
    by_test true t rest = let same = same_number first n t in omega (arith, same, e)
    by_test false t rest = let some : 0 < i = grind (arith, nat_tests) in let is = rest some in omega (arith, is, some)

-- a part of a clause, renamed, and as it is in a store in which the next numbers are free
pub part_renamed : (s : Substitution) (next k : ℕ) (c : Clause) (t : Term) → clause_variables c ≡ numbers_from 0 k → ((n : ℕ) → next ≤ n → value_of s n ≡ VarTerm n) → var_bound t ≤ k → resolve s (shifted next t) ≡ apply (clause_renaming c next) t
part_renamed s next k c t numbered free le =
    let up : ℕ → Term = λ n. VarTerm (next + n) in
    ap (resolve s) (shifted_by next t)
    ∙ (apply-apply (value_of s) up t
    ∙ agreed (λ n. value_of s (next + n)) (clause_renaming c next) t
    (λ w o. free (next + w) (omega arith) ∙ ap (λ n. VarTerm (next + n)) (sym (ap (λ ns. place_of ns w) numbered ∙ numbers_placed 0 k w w (omega arith) (let lt = occurs_below w t o in omega (arith, lt, le))))))

-- what conjunctions hand down to both sides holds of each goal
each_goal : (P : Term → Type 0) → ((f : List ℕ) (t u : Term) → P (binary f t u) → P t × P u) → (t : Term) → P t → Each P (goals_of t)
each_goal P h (VarTerm n) p = (p, tt)
each_goal P h (IntTerm z) p = (p, tt)
each_goal P h (AtomTerm a) p = (p, tt)
each_goal P h (Compound f end) p = (p, tt)
each_goal P h (Compound f (more t end)) p = (p, tt)
each_goal P h (Compound f (more t (more u end))) p = let sides = h f t u p in by_name (same_name f (codes ",")) (each-append P (goals_of t) (goals_of u) (each_goal P h t sides.0) (each_goal P h u sides.1))
  where
    by_name : (b : Bool) → Each P (goals_of t ++ goals_of u) → Each P (cond b (goals_of t ++ goals_of u) (binary f t u ∷ []))
    by_name true both = both
    by_name false both = (p, tt)
each_goal P h (Compound f (more t (more u (more v ts)))) p = (p, tt)

each_clause_goal : (P : Term → Type 0) → ((f : List ℕ) (t u : Term) → P (binary f t u) → P t × P u) → (t : Term) → P t → Each P (clause_goals_of t)
each_clause_goal P h (VarTerm n) p = (p, tt)
each_clause_goal P h (IntTerm z) p = (p, tt)
each_clause_goal P h (AtomTerm a) p = by_name (same_name a (codes "true"))
  where
    by_name : (b : Bool) → Each P (cond b [] (AtomTerm a ∷ []))
    by_name true = tt
    by_name false = (p, tt)
each_clause_goal P h (Compound f ts) p = each_goal P h (Compound f ts) p

abbrev pub AreBelow : ℕ → List Term → Type 0
AreBelow k ts = Each (λ t. var_bound t ≤ k) ts

pub goals_within : (k : ℕ) (body : Term) → var_bound body ≤ k → AreBelow k (clause_goals_of body)
goals_within k body le = each_clause_goal (λ t. var_bound t ≤ k) (λ f t u both. (omega (arith, both), omega (arith, both))) body le
