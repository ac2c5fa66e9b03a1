-- The places of goals.
use Rattle.std.proofs.Common.{◌≡◌, ℕ, ◌+◌, ◌<◌, ◌≤◌, true, false, cond, List, [], ◌∷◌, ◌++◌, length, drop, refl, sym, ap, ◌∙◌, subst, append_assoc, append-nil, arith}
use Rattle.std.proofs.lemmas.List.{map-append, drop_all}
use Rattle.std.specs.Prelude.{codes}
use Rattle.au_term.specs.Term.{Term, VarTerm, IntTerm, AtomTerm, Compound, end, more, count}
use Rattle.au_term.specs.PrefixOrder.{cells_of, top_of, terms_of, terms_of-cells_of, subterm}
use Rattle.au_term.proofs.StoredTermLemmas.{Ends}
use Rattle.au_model.specs.Terms.Each.{Each}
use Rattle.au_model.proofs.EachLemmas.{each-append}
use Rattle.au_model.specs.Terms.Forms.{same_name, binary}
use Rattle.run_model.specs.Programs.Bodies.{goals_of, clause_goals_of}
use Rattle.clause_compile.specs.BodyCells.{opens_conjunction, is_true}
use Rattle.clause_compile.specs.GoalPlaces.{subterms_at, AreGoalsAt, goals_of_all, PassesGoal}
use Rattle.clause_compile.proofs.NormalBodyLemmas.{stands_first, goes_forward, both_after, IsBinary, is_binary}

pub conjunction_sides : (t : Term) → opens_conjunction (top_of t) ≡ true → IsBinary t (top_of t) (λ f. same_name f (codes ","))
conjunction_sides (Compound f ts) h = is_binary (Compound f ts) f (count ts) (λ f. same_name f (codes ",")) refl h
conjunction_sides (VarTerm m) h = absurd cc
conjunction_sides (IntTerm m) h = absurd cc
conjunction_sides (AtomTerm m) h = absurd cc

-- any other term is a goal of its own
one_goal : (t : Term) → opens_conjunction (top_of t) ≡ false → goals_of t ≡ t ∷ []
one_goal (VarTerm n) h = refl
one_goal (IntTerm z) h = refl
one_goal (AtomTerm a) h = refl
one_goal (Compound f end) h = refl
one_goal (Compound f (more a end)) h = refl
one_goal (Compound f (more a (more b end))) h = ap (λ k. cond k (goals_of a ++ goals_of b) (binary f a b ∷ [])) h
one_goal (Compound f (more a (more b (more c ts)))) h = refl

conjunction-goals : (f : List ℕ) (a b : Term) → same_name f (codes ",") ≡ true → goals_of (binary f a b) ≡ goals_of a ++ goals_of b
conjunction-goals f a b h = ap (λ k. cond k (goals_of a ++ goals_of b) (binary f a b ∷ [])) h

pub passes_conjunction : (t : Term) (at stop : ℕ) (places : List ℕ) → Ends t at stop → IsBinary (subterm at t) (top_of (subterm at t)) (λ f. same_name f (codes ",")) → PassesGoal t at (at + 1) places places
passes_conjunction t at stop places e s =
    let rest = terms_of (drop stop (cells_of t)) in
    let goals = ap goals_of s.is ∙ conjunction-goals s.name s.left s.right s.holds in
    record {
      forward = omega arith;
      within = omega (arith, goes_forward t at stop e, e.within);
      placed = λ h. h;
      same = ap (λ gs. subterms_at t places ++ gs)
          (ap goals_of_all (both_after t at stop s.name s.left s.right e s.is) ∙ (sym (append_assoc (goals_of s.left) (goals_of s.right) (goals_of_all rest))
          ∙ (ap (λ gs. gs ++ goals_of_all rest) (sym goals) ∙ ap goals_of_all (sym (stands_first t at stop e)))));
    }

pub passes_goal : (t : Term) (at stop : ℕ) (places now : List ℕ) → Ends t at stop → at < length (cells_of t) → opens_conjunction (top_of (subterm at t)) ≡ false → now ≡ places ++ at ∷ [] → PassesGoal t at stop places now
passes_goal t at stop places now e lt h n =
    let rest = terms_of (drop stop (cells_of t)) in
    record {
      forward = goes_forward t at stop e;
      within = e.within;
      placed = λ k. subst (Each (λ i. i < length (cells_of t))) (sym n) (each-append (λ i. i < length (cells_of t)) places (at ∷ []) k (lt, tt));
      same = ap (λ ps. subterms_at t ps ++ goals_of_all rest) n ∙ (ap (λ gs. gs ++ goals_of_all rest) (map-append (λ i. subterm i t) places (at ∷ []))
          ∙ (append_assoc (subterms_at t places) (subterm at t ∷ []) (goals_of_all rest) ∙ ap (λ gs. subterms_at t places ++ gs) (ap (λ gs. gs ++ goals_of_all rest) (sym (one_goal (subterm at t) h)) ∙ ap goals_of_all (sym (stands_first t at stop e)))));
    }

-- the goals found so far and those after are the goals of the whole
pub record Placing (t : Term) (at : ℕ) (places : List ℕ) : Type 0 where
  pub within : at ≤ length (cells_of t)
  pub placed : Each (λ i. i < length (cells_of t)) places
  pub all : subterms_at t places ++ goals_of_all (terms_of (drop at (cells_of t))) ≡ goals_of t

pub starts : (t : Term) → Placing t 0 []
starts t = record {
  within = omega arith;
  placed = tt;
  all = ap goals_of_all (ap terms_of (sym (append-nil (cells_of t))) ∙ terms_of-cells_of t []) ∙ append-nil (goals_of t);
}

pub goes_on : (t : Term) (at next : ℕ) (places now : List ℕ) → Placing t at places → PassesGoal t at next places now → Placing t next now
goes_on t at next places now p s = record { within = s.within; placed = s.placed p.placed; all = s.same ∙ p.all }

pub ends : (t : Term) (at : ℕ) (places : List ℕ) → Placing t at places → length (cells_of t) ≤ at → AreGoalsAt t places (goals_of t)
ends t at places p h = record {
  within = p.placed;
  are = sym (append-nil (subterms_at t places)) ∙ (ap (λ cs. subterms_at t places ++ goals_of_all (terms_of cs)) (sym (drop_all at (cells_of t) h)) ∙ p.all);
}

-- the body `true` has no goals, and any other has those of its conjunctions
pub true_goals : (t : Term) → is_true (top_of t) ≡ true → clause_goals_of t ≡ []
true_goals (AtomTerm a) h = ap (λ k. cond k [] (AtomTerm a ∷ [])) h
true_goals (VarTerm m) h = absurd cc
true_goals (IntTerm m) h = absurd cc
true_goals (Compound f ts) h = absurd cc

pub other_goals : (t : Term) → is_true (top_of t) ≡ false → clause_goals_of t ≡ goals_of t
other_goals (AtomTerm a) h = ap (λ k. cond k [] (AtomTerm a ∷ [])) h
other_goals (VarTerm m) h = refl
other_goals (IntTerm m) h = refl
other_goals (Compound f ts) h = refl
