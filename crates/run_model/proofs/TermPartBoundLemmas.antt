-- What goals that make terms and take them apart come to, below a number.
use Rattle.std.proofs.Common.{◌≡◌, ℕ, zero, suc, ◌+◌, ◌≤◌, Bool, true, false, ℤ, pos, negsuc, cond, List, [], ◌∷◌, length, Ok, Err, refl, arith}
use Rattle.std.specs.Prelude.{codes, nat_lt}
use Rattle.std.proofs.lemmas.Bool.Decides.{nat_tests}
use Rattle.au_term.specs.Term.{Term, VarTerm, IntTerm, AtomTerm, Compound, Terms, end, more, all_bound, var_bound, count, term_at}
use Rattle.au_model.specs.Terms.Each.{Each}
use Rattle.au_model.specs.Terms.ErrorTerms.{type_error, representation_error}
use Rattle.au_model.specs.Terms.Forms.{same_name, list_term}
use Rattle.au_model.specs.Terms.Lists.{terms_from}
use Rattle.run_model.specs.Goals.ListForms.{ListForm, ProperList, PartialList, NoList, item_before, list_form, items_of}
use Rattle.run_model.specs.Laws.Numbering.{IsTermBelow, AreTermsBelow}
use Rattle.run_model.specs.Goals.BuiltinAnswers.{equal}
use Rattle.run_model.specs.Goals.TermTests.{is_compound}
use Rattle.run_model.specs.Goals.TermParts.{new_variables, made_term, functor_of_count, functor_of_name, functor_built, functor_answer, numbered_argument, argument_answer, parts_of, compound_of, term_of_items, built_from, taken_apart, parts_answer, copy_answer, term_parts}
use Rattle.run_model.proofs.AnswerBoundLemmas.{IsAnswerBelow, row-below, equal-below}
use Rattle.au_model.proofs.VariableBoundLemmas.{copied-below}
use Rattle.run_model.proofs.BuiltinRowBoundLemmas.{IsRowBelow, term-below}

pub less : (m n : ℕ) → nat_lt m n ≡ true → suc m ≤ n
less m n e = grind (arith, nat_tests)

-- functor
new_variables-below : (k next : ℕ) → all_bound (new_variables next k) ≤ next + k
new_variables-below zero next = omega arith
new_variables-below (suc k) next = omega (arith, new_variables-below k (suc next))

made-below : (next : ℕ) (t name : Term) (k : ℕ) → IsTermBelow next t → IsTermBelow next name → IsAnswerBelow next (made_term t next name k)
made-below next t name zero h j = equal-below next t name h j
made-below next t (VarTerm n) (suc k) h j = tt
made-below next t (IntTerm z) (suc k) h j = tt
made-below next t (AtomTerm f) (suc k) h j = let n = new_variables-below (suc k) next in ((omega arith, tt), tt)
made-below next t (Compound f ts) (suc k) h j = tt

counted-below : (next : ℕ) (t name : Term) (z : ℤ) → IsTermBelow next t → IsTermBelow next name → IsAnswerBelow next (functor_of_count t next name z)
counted-below next t name (negsuc n) h j = tt
counted-below next t name (pos n) h j = by (nat_lt 65535 n)
  where
    by : (c : Bool) → IsAnswerBelow next (cond c (Err (representation_error (codes "max_arity"))) (made_term t next name n))
    by true = tt
    by false = made-below next t name n h j

named-below : (next : ℕ) (t name arity : Term) → IsTermBelow next t → IsTermBelow next name → IsAnswerBelow next (functor_of_name t next name arity)
named-below next t name (VarTerm n) h j = tt
named-below next t (VarTerm n) (IntTerm z) h j = counted-below next t (VarTerm n) z h j
named-below next t (IntTerm y) (IntTerm z) h j = counted-below next t (IntTerm y) z h j
named-below next t (AtomTerm a) (IntTerm z) h j = counted-below next t (AtomTerm a) z h j
named-below next t (Compound f ts) (IntTerm z) h j = tt
named-below next t (VarTerm n) (AtomTerm b) h j = tt
named-below next t (IntTerm y) (AtomTerm b) h j = tt
named-below next t (AtomTerm a) (AtomTerm b) h j = tt
named-below next t (Compound f ts) (AtomTerm b) h j = tt
named-below next t (VarTerm n) (Compound g us) h j = tt
named-below next t (IntTerm y) (Compound g us) h j = tt
named-below next t (AtomTerm a) (Compound g us) h j = tt
named-below next t (Compound f ts) (Compound g us) h j = tt

built-below : (next : ℕ) (t name arity : Term) → IsTermBelow next t → IsTermBelow next name → IsAnswerBelow next (functor_built t next name arity)
built-below next t (VarTerm n) arity h j = tt
built-below next t (IntTerm z) arity h j = named-below next t (IntTerm z) arity h j
built-below next t (AtomTerm a) arity h j = named-below next t (AtomTerm a) arity h j
built-below next t (Compound f ts) arity h j = named-below next t (Compound f ts) arity h j

functor-below : (next : ℕ) (t name arity : Term) → IsTermBelow next t → IsTermBelow next name → IsTermBelow next arity → IsAnswerBelow next (functor_answer t name arity next)
functor-below next (VarTerm n) name arity h j k = built-below next (VarTerm n) name arity h j
functor-below next (IntTerm z) name arity h j k = ((omega arith, tt), tt)
functor-below next (AtomTerm a) name arity h j k = ((omega arith, tt), tt)
functor-below next (Compound f ts) name arity h j k = ((omega arith, tt), tt)

-- arg
numbered-below : (next n : ℕ) (ts : Terms) (x : Term) → all_bound ts ≤ next → IsTermBelow next x → IsAnswerBelow next (numbered_argument n ts x)
numbered-below next zero ts x h k = tt
numbered-below next (suc n) ts x h k = by (nat_lt n (count ts)) refl
  where
    by : (c : Bool) → nat_lt n (count ts) ≡ c → IsAnswerBelow next (cond c (equal x (term_at n ts)) (Ok []))
    by true e = equal-below next x (term_at n ts) k (term-below n next ts (less n (count ts) e) h)
    by false e = tt

argument-below : (next : ℕ) (n t x : Term) → IsTermBelow next t → IsTermBelow next x → IsAnswerBelow next (argument_answer n t x)
argument-below next (VarTerm n) t x h k = tt
argument-below next (IntTerm z) (VarTerm m) x h k = tt
argument-below next (IntTerm z) (IntTerm y) x h k = tt
argument-below next (IntTerm z) (AtomTerm b) x h k = tt
argument-below next (IntTerm (pos n)) (Compound g us) x h k = numbered-below next n us x h k
argument-below next (IntTerm (negsuc n)) (Compound g us) x h k = tt
argument-below next (AtomTerm a) (VarTerm m) x h k = tt
argument-below next (AtomTerm a) (IntTerm y) x h k = tt
argument-below next (AtomTerm a) (AtomTerm b) x h k = tt
argument-below next (AtomTerm a) (Compound g us) x h k = tt
argument-below next (Compound f ts) (VarTerm m) x h k = tt
argument-below next (Compound f ts) (IntTerm y) x h k = tt
argument-below next (Compound f ts) (AtomTerm b) x h k = tt
argument-below next (Compound f ts) (Compound g us) x h k = tt

-- =..
abbrev pub IsListBelow : ℕ → ListForm → Type 0
IsListBelow b (ProperList ts) = AreTermsBelow b ts
IsListBelow b (PartialList ts) = AreTermsBelow b ts
IsListBelow b NoList = Unit {0}

item-below : (b : ℕ) (t : Term) (form : ListForm) → IsTermBelow b t → IsListBelow b form → IsListBelow b (item_before t form)
item-below b t (ProperList ts) h k = (h, k)
item-below b t (PartialList ts) h k = (h, k)
item-below b t NoList h k = tt

pub form-below : (b : ℕ) (t : Term) → IsTermBelow b t → IsListBelow b (list_form t)
form-below b (VarTerm n) h = tt
form-below b (IntTerm z) h = tt
form-below b (AtomTerm a) h = by (same_name a (codes "[]"))
  where
    by : (c : Bool) → IsListBelow b (cond c (ProperList []) NoList)
    by true = tt
    by false = tt
form-below b (Compound f end) h = tt
form-below b (Compound f (more t end)) h = tt
form-below b (Compound f (more t (more rest end))) h = by (same_name f (codes ".")) (item-below b t (list_form rest) (omega arith) (form-below b rest (omega arith)))
  where
    by : (c : Bool) → IsListBelow b (item_before t (list_form rest)) → IsListBelow b (cond c (item_before t (list_form rest)) NoList)
    by true k = k
    by false k = tt
form-below b (Compound f (more t (more rest (more u us)))) h = tt

terms-below : (b : ℕ) (ts : List Term) → AreTermsBelow b ts → all_bound (terms_from ts) ≤ b
terms-below b [] h = omega arith
terms-below b (t ∷ ts) h = omega (arith, h.0, terms-below b ts h.1)

pub list-below : (b : ℕ) (ts : List Term) → AreTermsBelow b ts → var_bound (list_term ts) ≤ b
list-below b [] h = omega arith
list-below b (t ∷ ts) h = omega (arith, h.0, list-below b ts h.1)

items-below : (b : ℕ) (ts : Terms) → all_bound ts ≤ b → AreTermsBelow b (items_of ts)
items-below b end h = tt
items-below b (more t ts) h = (omega arith, items-below b ts (omega arith))

parts_of-below : (b : ℕ) (t : Term) → IsTermBelow b t → AreTermsBelow b (parts_of t)
parts_of-below b (VarTerm n) h = (h, tt)
parts_of-below b (IntTerm z) h = (h, tt)
parts_of-below b (AtomTerm a) h = (h, tt)
parts_of-below b (Compound f ts) h = (omega arith, items-below b ts h)

compound-below : (next : ℕ) (t name : Term) (ts : List Term) → IsTermBelow next t → AreTermsBelow next ts → IsAnswerBelow next (compound_of t name ts)
compound-below next t (VarTerm n) ts h k = tt
compound-below next t (IntTerm z) ts h k = tt
compound-below next t (AtomTerm f) ts h k = by (nat_lt 65535 (length ts))
  where
    by : (c : Bool) → IsAnswerBelow next (cond c (Err (representation_error (codes "max_arity"))) (equal t (Compound f (terms_from ts))))
    by true = tt
    by false = equal-below next t (Compound f (terms_from ts)) h (terms-below next ts k)
compound-below next t (Compound f us) ts h k = tt

alone-below : (next : ℕ) (t name : Term) → IsTermBelow next t → IsTermBelow next name → (c : Bool) → IsAnswerBelow next (cond c (Err (type_error (codes "atomic") name)) (equal t name))
alone-below next t name h k true = tt
alone-below next t name h k false = equal-below next t name h k

from_items-below : (next : ℕ) (t name : Term) (ts : List Term) → IsTermBelow next t → IsTermBelow next name → AreTermsBelow next ts → IsAnswerBelow next (term_of_items t name ts)
from_items-below next t (VarTerm n) ts h j k = tt
from_items-below next t (IntTerm z) [] h j k = alone-below next t (IntTerm z) h j (is_compound (IntTerm z))
from_items-below next t (AtomTerm a) [] h j k = alone-below next t (AtomTerm a) h j (is_compound (AtomTerm a))
from_items-below next t (Compound f us) [] h j k = tt
from_items-below next t (IntTerm z) (u ∷ us) h j k = compound-below next t (IntTerm z) (u ∷ us) h k
from_items-below next t (AtomTerm a) (u ∷ us) h j k = compound-below next t (AtomTerm a) (u ∷ us) h k
from_items-below next t (Compound f vs) (u ∷ us) h j k = compound-below next t (Compound f vs) (u ∷ us) h k

from_form-below : (next : ℕ) (t l : Term) (form : ListForm) → IsTermBelow next t → IsListBelow next form → IsAnswerBelow next (built_from t l form)
from_form-below next t l (PartialList ts) h k = tt
from_form-below next t l NoList h k = tt
from_form-below next t l (ProperList []) h k = tt
from_form-below next t l (ProperList (name ∷ ts)) h k = from_items-below next t name ts h k.0 k.1

apart-below : (next : ℕ) (t l : Term) (form : ListForm) → IsTermBelow next t → IsTermBelow next l → IsAnswerBelow next (taken_apart t l form)
apart-below next t l NoList h k = tt
apart-below next t l (ProperList ts) h k = equal-below next l (list_term (parts_of t)) k (list-below next (parts_of t) (parts_of-below next t h))
apart-below next t l (PartialList ts) h k = equal-below next l (list_term (parts_of t)) k (list-below next (parts_of t) (parts_of-below next t h))

parts-below : (next : ℕ) (t l : Term) → IsTermBelow next t → IsTermBelow next l → IsAnswerBelow next (parts_answer t l)
parts-below next (VarTerm n) l h k = from_form-below next (VarTerm n) l (list_form l) h (form-below next l k)
parts-below next (IntTerm z) l h k = apart-below next (IntTerm z) l (list_form l) h k
parts-below next (AtomTerm a) l h k = apart-below next (AtomTerm a) l (list_form l) h k
parts-below next (Compound f ts) l h k = apart-below next (Compound f ts) l (list_form l) h k

pub term_parts-below : Each IsRowBelow term_parts
term_parts-below = (
  row-below (codes "functor") 3 (λ ts next. functor_answer (term_at 0 ts) (term_at 1 ts) (term_at 2 ts) next) (λ ts next n h. functor-below next (term_at 0 ts) (term_at 1 ts) (term_at 2 ts) (term-below 0 next ts (omega arith) h) (term-below 1 next ts (omega arith) h) (term-below 2 next ts (omega arith) h)),
  (
    row-below (codes "arg") 3 (λ ts next. argument_answer (term_at 0 ts) (term_at 1 ts) (term_at 2 ts)) (λ ts next n h. argument-below next (term_at 0 ts) (term_at 1 ts) (term_at 2 ts) (term-below 1 next ts (omega arith) h) (term-below 2 next ts (omega arith) h)),
    (
      row-below (codes "=..") 2 (λ ts next. parts_answer (term_at 0 ts) (term_at 1 ts)) (λ ts next n h. parts-below next (term_at 0 ts) (term_at 1 ts) (term-below 0 next ts (omega arith) h) (term-below 1 next ts (omega arith) h)),
      (row-below (codes "copy_term") 2 (λ ts next. copy_answer (term_at 0 ts) (term_at 1 ts) next) (λ ts next n h. ((omega (arith, copied-below (term_at 0 ts) next, term-below 1 next ts (omega arith) h), tt), tt)), tt),
    ),
  ),
)
