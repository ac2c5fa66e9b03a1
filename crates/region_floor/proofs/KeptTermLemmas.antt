-- No solution of a goal that makes terms or takes them apart removes a clause.
use Rattle.std.proofs.Common.{ℕ, zero, suc, ℤ, pos, negsuc, List, [], ◌∷◌, length, Ok, Err, refl}
use Rattle.std.specs.Prelude.{codes, nat_lt}
use Rattle.au_term.specs.Term.{Term, VarTerm, IntTerm, AtomTerm, Compound, Terms, count, term_at}
use Rattle.au_model.specs.Terms.Each.{Each}
use Rattle.au_model.specs.Terms.ErrorTerms.{representation_error}
use Rattle.au_model.specs.Terms.Lists.{terms_from}
use Rattle.run_model.specs.Goals.BuiltinAnswers.{equal}
use Rattle.run_model.specs.Goals.ListForms.{ListForm, ProperList, PartialList, NoList, list_form}
use Rattle.run_model.specs.Goals.TermParts.{made_term, functor_of_count, functor_of_name, functor_built, functor_answer, numbered_argument, argument_answer, compound_of, term_of_items, built_from, taken_apart, parts_answer, term_parts}
use Rattle.region_floor.proofs.KeptAnswerLemmas.{IsRowKept, IsKept, row-kept, either-kept}

made-kept : (t : Term) (next : ℕ) (name : Term) (k : ℕ) → IsKept (made_term t next name k)
made-kept t next name zero = (refl, tt)
made-kept t next (VarTerm n) (suc k) = tt
made-kept t next (IntTerm z) (suc k) = tt
made-kept t next (AtomTerm f) (suc k) = (refl, tt)
made-kept t next (Compound f ts) (suc k) = tt

counted-kept : (t : Term) (next : ℕ) (name : Term) (z : ℤ) → IsKept (functor_of_count t next name z)
counted-kept t next name (negsuc n) = tt
counted-kept t next name (pos n) =
    either-kept (nat_lt 65535 n) (Err (representation_error (codes "max_arity"))) (made_term t next name n) tt (made-kept t next name n)

named-kept : (t : Term) (next : ℕ) (name arity : Term) → IsKept (functor_of_name t next name arity)
named-kept t next name (VarTerm n) = tt
named-kept t next (VarTerm n) (IntTerm z) = counted-kept t next (VarTerm n) z
named-kept t next (IntTerm y) (IntTerm z) = counted-kept t next (IntTerm y) z
named-kept t next (AtomTerm a) (IntTerm z) = counted-kept t next (AtomTerm a) z
named-kept t next (Compound f ts) (IntTerm z) = tt
named-kept t next (VarTerm n) (AtomTerm b) = tt
named-kept t next (IntTerm y) (AtomTerm b) = tt
named-kept t next (AtomTerm a) (AtomTerm b) = tt
named-kept t next (Compound f ts) (AtomTerm b) = tt
named-kept t next (VarTerm n) (Compound g us) = tt
named-kept t next (IntTerm y) (Compound g us) = tt
named-kept t next (AtomTerm a) (Compound g us) = tt
named-kept t next (Compound f ts) (Compound g us) = tt

built-kept : (t : Term) (next : ℕ) (name arity : Term) → IsKept (functor_built t next name arity)
built-kept t next (VarTerm n) arity = tt
built-kept t next (IntTerm z) arity = named-kept t next (IntTerm z) arity
built-kept t next (AtomTerm a) arity = named-kept t next (AtomTerm a) arity
built-kept t next (Compound f ts) arity = named-kept t next (Compound f ts) arity

functor-kept : (t name arity : Term) (next : ℕ) → IsKept (functor_answer t name arity next)
functor-kept (VarTerm n) name arity next = built-kept (VarTerm n) next name arity
functor-kept (IntTerm z) name arity next = (refl, tt)
functor-kept (AtomTerm a) name arity next = (refl, tt)
functor-kept (Compound f ts) name arity next = (refl, tt)

numbered-kept : (n : ℕ) (ts : Terms) (x : Term) → IsKept (numbered_argument n ts x)
numbered-kept zero ts x = tt
numbered-kept (suc n) ts x = either-kept (nat_lt n (count ts)) (equal x (term_at n ts)) (Ok []) (refl, tt) tt

argument-kept : (n t x : Term) → IsKept (argument_answer n t x)
argument-kept (VarTerm n) t x = tt
argument-kept (IntTerm z) (VarTerm m) x = tt
argument-kept (IntTerm z) (IntTerm y) x = tt
argument-kept (IntTerm z) (AtomTerm b) x = tt
argument-kept (IntTerm (pos n)) (Compound g us) x = numbered-kept n us x
argument-kept (IntTerm (negsuc n)) (Compound g us) x = tt
argument-kept (AtomTerm a) (VarTerm m) x = tt
argument-kept (AtomTerm a) (IntTerm y) x = tt
argument-kept (AtomTerm a) (AtomTerm b) x = tt
argument-kept (AtomTerm a) (Compound g us) x = tt
argument-kept (Compound f ts) (VarTerm m) x = tt
argument-kept (Compound f ts) (IntTerm y) x = tt
argument-kept (Compound f ts) (AtomTerm b) x = tt
argument-kept (Compound f ts) (Compound g us) x = tt

compound-kept : (t name : Term) (ts : List Term) → IsKept (compound_of t name ts)
compound-kept t (VarTerm n) ts = tt
compound-kept t (IntTerm z) ts = tt
compound-kept t (AtomTerm f) ts =
    either-kept (nat_lt 65535 (length ts)) (Err (representation_error (codes "max_arity"))) (equal t (Compound f (terms_from ts))) tt (refl, tt)
compound-kept t (Compound f us) ts = tt

from_items-kept : (t name : Term) (ts : List Term) → IsKept (term_of_items t name ts)
from_items-kept t (VarTerm n) ts = tt
from_items-kept t (IntTerm z) [] = (refl, tt)
from_items-kept t (AtomTerm a) [] = (refl, tt)
from_items-kept t (Compound f us) [] = tt
from_items-kept t (IntTerm z) (u ∷ us) = compound-kept t (IntTerm z) (u ∷ us)
from_items-kept t (AtomTerm a) (u ∷ us) = compound-kept t (AtomTerm a) (u ∷ us)
from_items-kept t (Compound f vs) (u ∷ us) = compound-kept t (Compound f vs) (u ∷ us)

from_form-kept : (t l : Term) (form : ListForm) → IsKept (built_from t l form)
from_form-kept t l (PartialList ts) = tt
from_form-kept t l NoList = tt
from_form-kept t l (ProperList []) = tt
from_form-kept t l (ProperList (name ∷ ts)) = from_items-kept t name ts

apart-kept : (t l : Term) (form : ListForm) → IsKept (taken_apart t l form)
apart-kept t l NoList = tt
apart-kept t l (ProperList ts) = (refl, tt)
apart-kept t l (PartialList ts) = (refl, tt)

parts-kept : (t l : Term) → IsKept (parts_answer t l)
parts-kept (VarTerm n) l = from_form-kept (VarTerm n) l (list_form l)
parts-kept (IntTerm z) l = apart-kept (IntTerm z) l (list_form l)
parts-kept (AtomTerm a) l = apart-kept (AtomTerm a) l (list_form l)
parts-kept (Compound f ts) l = apart-kept (Compound f ts) l (list_form l)

pub term_parts-kept : Each IsRowKept term_parts
term_parts-kept = (
  row-kept (codes "functor") 3 (λ ts next. functor_answer (term_at 0 ts) (term_at 1 ts) (term_at 2 ts) next)
      (λ ts next. functor-kept (term_at 0 ts) (term_at 1 ts) (term_at 2 ts) next),
  (
    row-kept (codes "arg") 3 (λ ts next. argument_answer (term_at 0 ts) (term_at 1 ts) (term_at 2 ts))
        (λ ts next. argument-kept (term_at 0 ts) (term_at 1 ts) (term_at 2 ts)),
    (
      row-kept (codes "=..") 2 (λ ts next. parts_answer (term_at 0 ts) (term_at 1 ts)) (λ ts next. parts-kept (term_at 0 ts) (term_at 1 ts)),
      (λ ts next. (refl, tt), tt),
    ),
  ),
)
