-- The unifier of a list of equations (ISO/IEC 13211-1, 7.3.2, with the occurs check).
use Rattle.std.specs.Prelude.{ℕ, zero, suc, max, ◌+◌, ◌*◌, ◌&&◌, cond, List, [], ◌∷◌, ◌++◌, Option, Some, None, ◌==◌, nat_eq, nat_lt, map}
use Rattle.std.specs.Ordering.{int_eq}
use Rattle.std.specs.Cmp.Lexicographic.{pointwise}
use Rattle.std.specs.Option.{option_map}
use Rattle.au_term.specs.Term.{Term, VarTerm, IntTerm, AtomTerm, Compound, Terms, end, more, count, var_bound}
use Rattle.au_model.specs.Terms.Substitutions.{Substitution, apply, resolve, only, occurs}

abbrev pub Equations : Type 0
Equations = List (Term × Term)

-- what becomes of the first equation: it is dropped, a variable is replaced everywhere, equations come in its place,
-- or there is no unifier
pub data Rule : Type 0 where
  Dropped : Rule
  Replaced : ℕ → Term → Rule
  Opened : Equations → Rule
  Clash : Rule

-- a variable and a term that is no variable: none where it occurs in the term
abbrev pub variable_rule : ℕ → Term → Rule
variable_rule x t = cond (occurs x t) Clash (Replaced x t)

-- the equations of the arguments, from the left
abbrev pub pairs : Terms → Terms → Equations
pairs end us = []
pairs (more t ts) end = []
pairs (more t ts) (more u us) = (t, u) ∷ pairs ts us

-- the rule for two sides; of two variables the one with the greater number is replaced
abbrev pub rule : Term → Term → Rule
rule (VarTerm m) (VarTerm n) = cond (m == n) Dropped (cond (nat_lt m n) (Replaced n (VarTerm m)) (Replaced m (VarTerm n)))
rule (VarTerm m) t = variable_rule m t
rule t (VarTerm n) = variable_rule n t
rule (IntTerm y) (IntTerm z) = cond (int_eq y z) Dropped Clash
rule (AtomTerm a) (AtomTerm b) = cond (pointwise nat_eq a b) Dropped Clash
rule (Compound f ts) (Compound g us) = cond (pointwise nat_eq f g && count ts == count us) (Opened (pairs ts us)) Clash
rule _ _ = Clash

abbrev pub replace : ℕ → Term → Equations → Equations
replace x t eqs = map (λ e. (apply (only x t) e.0, apply (only x t) e.1)) eqs

-- x stands for t, of which the rest of the map holds
abbrev pub bound : ℕ → Term → Substitution → Substitution
bound x t s = (x, resolve s t) ∷ s

-- the first equation's rule, and how the rest goes on
abbrev pub by_rule : Rule → Equations → (Equations → Option Substitution) → Option Substitution
by_rule Dropped eqs go = go eqs
by_rule (Replaced x t) eqs go = option_map (bound x t) (go (replace x t eqs))
by_rule (Opened es) eqs go = go (es ++ eqs)
by_rule Clash eqs go = None

-- by at most so many rules
abbrev pub solve : ℕ → Equations → Option Substitution
solve zero eqs = None
solve (suc n) [] = Some []
solve (suc n) ((a, b) ∷ eqs) = by_rule (rule a b) eqs (solve n)

abbrev mutual
  pub size : Term → ℕ
  size (VarTerm n) = 1
  size (IntTerm z) = 1
  size (AtomTerm a) = 1
  size (Compound name ts) = suc (size_all ts)

  pub size_all : Terms → ℕ
  size_all end = 0
  size_all (more t ts) = size t + size_all ts

abbrev pub equations_size : Equations → ℕ
equations_size [] = 0
equations_size (e ∷ eqs) = size e.0 + size e.1 + equations_size eqs

abbrev pub equations_bound : Equations → ℕ
equations_bound [] = 0
equations_bound (e ∷ eqs) = max (max (var_bound e.0) (var_bound e.1)) (equations_bound eqs)

-- more rules than equations of this size over so many variables can take
abbrev pub steps_for : ℕ → ℕ → ℕ
steps_for zero n = suc n
steps_for (suc v) n = suc n + steps_for v (n * n)

-- by the rules, from the front; cite its laws, and not the number of rules
unfoldable pub unifier : Equations → Option Substitution
unifier eqs = solve (steps_for (equations_bound eqs) (equations_size eqs)) eqs
