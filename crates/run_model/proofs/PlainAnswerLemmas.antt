-- Answers without new variables, whose equations have what is asked for on the left and a term without variables on the right.
use Rattle.std.proofs.Common.{◌≡◌, ℕ, ◌≤◌, Bool, true, false, cond, List, [], ◌∷◌, map, length, Ok, Err, None, refl, ap₂, arith}
use Rattle.au_term.specs.Term.{Term, VarTerm, IntTerm, AtomTerm, Compound, Terms, end, more, all_bound, var_bound}
use Rattle.au_model.specs.Terms.Each.{Each}
use Rattle.au_model.specs.Terms.Forms.{list_term}
use Rattle.au_model.specs.Terms.Substitutions.{apply, apply_all}
use Rattle.au_model.specs.Terms.Unifier.{Equations, equations_bound}
use Rattle.run_model.specs.Laws.Numbering.{IsTermBelow}
use Rattle.run_model.specs.Goals.Outcomes.{Solution}
use Rattle.run_model.specs.Goals.BuiltinAnswers.{Answer, equal}
use Rattle.run_model.specs.Goals.AtomGoals.{with_each}
use Rattle.run_model.proofs.AnswerBoundLemmas.{IsAnswerBelow}
use Rattle.run_model.proofs.BuiltinRowBoundLemmas.{IsSolutionBelow}

abbrev pub IsGround : Term → Type 0
IsGround t = var_bound t ≡ 0

pub record IsPlainSolution (P : Term → Type 0) (s : Solution) : Type 0 where
  pub few : length s.equations ≤ 2
  pub none : s.goals ≡ []
  pub kept : s.removes ≡ None
  pub taken : s.variables ≡ 0
  pub sides : Each (λ e. P e.0 × IsGround e.1) s.equations

abbrev pub IsPlain : (Term → Type 0) → Answer → Type 0
IsPlain P (Ok solutions) = Each (IsPlainSolution P) solutions
IsPlain P (Err e) = Unit {0}

pub equal-plain : (P : Term → Type 0) (a b : Term) → P a → IsGround b → IsPlain P (equal a b)
equal-plain P a b h k = (record { few = omega arith; none = refl; kept = refl; taken = refl; sides = ((h, k), tt) }, tt)

either-plain : (P : Term → Type 0) (b : Bool) (a : Answer) (e : Term) → IsPlain P a → IsPlain P (cond b a (Err e))
either-plain P true a e h = h
either-plain P false a e h = tt

pub each-plain : (P : Term → Type 0) (test : Term → Bool) (error : Term → Term) (ts : List Term) (a : Answer) → IsPlain P a → IsPlain P (with_each test error ts a)
each-plain P test error [] a h = h
each-plain P test error (t ∷ ts) a h = either-plain P (test t) (with_each test error ts a) (error t) (each-plain P test error ts a h)

pub items-ground : (item : ℕ → Term) → ((c : ℕ) → IsGround (item c)) → (cs : List ℕ) → IsGround (list_term (map item cs))
items-ground item h [] = refl
items-ground item h (c ∷ cs) = omega (arith, h c, items-ground item h cs)

-- the variables of such solutions are those of the goal
sides-below : (next : ℕ) (es : Equations) → Each (λ e. IsTermBelow next e.0 × IsGround e.1) es → equations_bound es ≤ next
sides-below next [] h = omega arith
sides-below next (e ∷ es) h = omega (arith, h.0.0, h.0.1, sides-below next es h.1)

pub plain-below : (next : ℕ) (a : Answer) → IsPlain (IsTermBelow next) a → IsAnswerBelow next a
plain-below next (Ok solutions) h = by solutions h
  where
    by : (ss : List Solution) → Each (IsPlainSolution (IsTermBelow next)) ss → Each (IsSolutionBelow next) ss
    by [] k = tt
    by (s ∷ ss) k = ((omega (arith, sides-below next s.equations k.0.sides), rw k.0.none tt), by ss k.1)
plain-below next (Err e) h = tt

-- a term without variables stays as it is
mutual
  pub ground_fixed : (f : ℕ → Term) (t : Term) → IsGround t → apply f t ≡ t
  ground_fixed f (VarTerm n) h = absurd (omega arith)
  ground_fixed f (IntTerm z) h = refl
  ground_fixed f (AtomTerm a) h = refl
  ground_fixed f (Compound g ts) h = let same : apply_all f ts ≡ ts = all_ground_fixed f ts h in cc

  all_ground_fixed : (f : ℕ → Term) (ts : Terms) → all_bound ts ≡ 0 → apply_all f ts ≡ ts
  all_ground_fixed f end h = refl
  all_ground_fixed f (more t ts) h = ap₂ more (ground_fixed f t (omega arith)) (all_ground_fixed f ts (omega arith))
