-- Heads and bodies in clauses, and the parts of Name/Arity.
use Rattle.std.proofs.Common.{◌≡◌, ℕ, suc, arith, Bool, true, false, not, ◌&&◌, ◌||◌, ◌==◌, if◌then◌else◌, [], ◌∷◌, ◌++◌, Option, Some, None, Result, Ok, Err, IfOk, refl, sym, ap, ap₂, ◌∙◌, codes}
use Rattle.std.proofs.lemmas.Bool.Decides.{nat_tests}
use Rattle.std.specs.Option.{is_none}
use Rattle.au_term.specs.Term.{Term, VarTerm, IntTerm, AtomTerm, Compound, Terms, end, more, argument, argument_count, count}
use Rattle.au_term.specs.PrefixOrder.{cells_of, term_of, term_of-cells_of}
use Rattle.au_term.proofs.LogicLemmas.{and-false, false_true}
use Rattle.au_model.specs.Terms.ErrorTerms.{instantiation_error, type_error}
use Rattle.au_model.specs.Terms.Forms.{is_callable, same_name}
use Rattle.au_model.specs.Terms.TermTypes.{is_variable}
use Rattle.au_model.specs.Terms.Substitutions.{apply}
use Rattle.au_model.specs.Syntax.OperatorChanges.{error_if, first_error}
use Rattle.au_model.proofs.UnifierRuleLemmas.{count-apply_all}
use Rattle.au_model.specs.Terms.Forms.{name_of}
use Rattle.run_model.specs.Programs.Clauses.{Clause}
use Rattle.run_model.specs.Goals.DatabaseGoals.{head_in, body_in, head_errors, is_indicator}
use Rattle.clause_compile.specs.CompiledClauses.{IsNumberedClause}
use Rattle.effect_gate.specs.Refusals.{has_body}
use Rattle.effect_gate.specs.Indicators.{name_part, arity_part, shape_error}

-- two arguments
not_two : {A : Type 0} (b : Bool) → (b && false) ≡ true → A
not_two b h = false_true (sym (and-false b) ∙ h)

further : {A : Type 0} (b : Bool) (ts : Terms) → (b && suc (suc (suc (count ts))) == 2) ≡ true → A
further b ts h =
    let larger : (suc (suc (suc (count ts))) == 2) ≡ false = not-equal (count ts) in
    not_two b (sym (ap (λ d. b && d) larger) ∙ h)
  where
    not-equal : (n : ℕ) → (suc (suc (suc n)) == 2) ≡ false
    not-equal n = grind (arith, nat_tests)

pub head_there : (t : Term) → has_body t ≡ true → argument 0 t ≡ head_in t
head_there (VarTerm n) h = not_two (same_name [] (codes ":-")) h
head_there (IntTerm z) h = not_two (same_name [] (codes ":-")) h
head_there (AtomTerm a) h = not_two (same_name a (codes ":-")) h
head_there (Compound f end) h = not_two (same_name f (codes ":-")) h
head_there (Compound f (more a end)) h = not_two (same_name f (codes ":-")) h
head_there (Compound f (more a (more b end))) h = by (same_name f (codes ":-")) h
  where
    by : (c : Bool) → (c && true) ≡ true → a ≡ (if c then a else Compound f (more a (more b end)))
    by true k = refl
    by false k = absurd cc
head_there (Compound f (more a (more b (more c ts)))) h = further (same_name f (codes ":-")) ts h

pub body_there : (t : Term) → has_body t ≡ true → argument 1 t ≡ body_in t
body_there (VarTerm n) h = not_two (same_name [] (codes ":-")) h
body_there (IntTerm z) h = not_two (same_name [] (codes ":-")) h
body_there (AtomTerm a) h = not_two (same_name a (codes ":-")) h
body_there (Compound f end) h = not_two (same_name f (codes ":-")) h
body_there (Compound f (more a end)) h = not_two (same_name f (codes ":-")) h
body_there (Compound f (more a (more b end))) h = by (same_name f (codes ":-")) h
  where
    by : (c : Bool) → (c && true) ≡ true → b ≡ (if c then b else AtomTerm (codes "true"))
    by true k = refl
    by false k = absurd cc
body_there (Compound f (more a (more b (more c ts)))) h = further (same_name f (codes ":-")) ts h

-- a term made of the cells of another
pub copied_cells : {E : Type 0} (t u : Term) (r : Result Term E) → t ≡ u → IfOk r (λ x. x ≡ term_of (cells_of t)) → IfOk r (λ x. x ≡ u)
copied_cells t u (Ok x) e h = h ∙ (term_of-cells_of t ∙ e)
copied_cells t u (Err d) e h = tt

-- a head that is callable and a body that is one have no error
pub made_without : (head : Term) (o : Option Term) (e : Term) (c : Clause) → is_callable head ≡ true → IsNumberedClause head o c → first_error (head_errors head ++ error_if (is_none o) e ∷ []) ≡ None
made_without head None e c h n = absurd n
made_without (VarTerm m) (Some b) e c h n = absurd cc
made_without (IntTerm z) (Some b) e c h n = absurd cc
made_without (AtomTerm a) (Some b) e c h n = refl
made_without (Compound f ts) (Some b) e c h n = refl

-- the procedure of a clause that is kept
kept_name : (r : ℕ → Term) (head : Term) → is_callable head ≡ true → (name_of (apply r head) ≡ name_of head) × (argument_count (apply r head) ≡ argument_count head)
kept_name r (VarTerm m) h = absurd cc
kept_name r (IntTerm z) h = absurd cc
kept_name r (AtomTerm a) h = (refl, refl)
kept_name r (Compound f ts) h = (refl, count-apply_all r ts)

pub procedure_kept : (head : Term) (o : Option Term) (c : Clause) → is_callable head ≡ true → IsNumberedClause head o c → (name_of c.head ≡ name_of head) × (argument_count c.head ≡ argument_count head)
procedure_kept head None c h n = absurd n
procedure_kept head (Some b) c h n =
    let kept = kept_name _ head h in
    (ap (λ (d : Clause). name_of d.head) n ∙ kept.0, ap (λ (d : Clause). argument_count d.head) n ∙ kept.1)

-- Name/Arity, where a part is a variable and where none is
indicated : (t : Term) → is_indicator t ≡ true → is_variable t ≡ false
indicated (VarTerm n) h = absurd cc
indicated (IntTerm z) h = refl
indicated (AtomTerm a) h = refl
indicated (Compound f ts) h = refl

shape_by : (t : Term) (b c v : Bool) → is_indicator t ≡ b → is_variable t ≡ c → (is_variable (name_part t) || is_variable (arity_part t)) ≡ v
    → shape_error t ≡ first_error (error_if (c || (b && v)) instantiation_error ∷ error_if (not b) (type_error (codes "predicate_indicator") t) ∷ [])
shape_by t b c v x y z =
    ap (λ b. first_error (error_if (is_variable t || (b && (is_variable (name_part t) || is_variable (arity_part t)))) instantiation_error ∷ error_if (not b) (type_error (codes "predicate_indicator") t) ∷ [])) x
    ∙ (ap (λ c. first_error (error_if (c || (b && (is_variable (name_part t) || is_variable (arity_part t)))) instantiation_error ∷ error_if (not b) (type_error (codes "predicate_indicator") t) ∷ [])) y
    ∙ ap (λ v. first_error (error_if (c || (b && v)) instantiation_error ∷ error_if (not b) (type_error (codes "predicate_indicator") t) ∷ [])) z)

pub open_parts : (t : Term) → is_indicator t ≡ true → (is_variable (name_part t) || is_variable (arity_part t)) ≡ true → shape_error t ≡ Some instantiation_error
open_parts t h v = shape_by t true false true h (indicated t h) v

pub bound_parts : (t : Term) → is_indicator t ≡ true → is_variable (name_part t) ≡ false → is_variable (arity_part t) ≡ false → shape_error t ≡ None
bound_parts t h n a = shape_by t true false false h (indicated t h) (ap₂ (λ x y. x || y) n a)
