-- A map of variables that changes none of the arguments of a goal, and no new variable, changes nothing in its answer.
use Rattle.std.proofs.Common.{◌≡◌, ℕ, zero, suc, ◌+◌, ◌≤◌, Bool, true, false, ℤ, pos, negsuc, cond, List, [], ◌∷◌, length, Ok, Err, refl, ap, ap₂, subst, arith}
use Rattle.std.specs.Prelude.{codes, is_none, nat_lt}
use Rattle.au_term.specs.Term.{Term, VarTerm, IntTerm, AtomTerm, Compound, Terms, end, more, count, term_at}
use Rattle.au_model.specs.Terms.Each.{Each}
use Rattle.au_model.specs.Terms.ErrorTerms.{domain_error, representation_error}
use Rattle.au_model.specs.Terms.Substitutions.{apply, apply_all}
use Rattle.au_model.specs.Terms.Copies.{place_of, renamed, seen_in}
use Rattle.au_model.specs.Terms.Forms.{same_name, binary, list_term}
use Rattle.au_model.specs.Terms.Lists.{terms_from}
use Rattle.run_model.specs.Goals.ListForms.{ListForm, ProperList, PartialList, NoList, item_before, list_form, items_of}
use Rattle.run_model.specs.Goals.TermParts.{new_variables, made_term, functor_of_count, functor_of_name, functor_built, functor_answer, numbered_argument, argument_answer, parts_of, compound_of, term_of_items, built_from, taken_apart, parts_answer}
use Rattle.run_model.specs.Goals.Outcomes.{Solution}
use Rattle.au_model.specs.Terms.Unifier.{Equations, unifier}
use Rattle.run_model.specs.Goals.BuiltinAnswers.{Answer, equal, holds_if}
use Rattle.run_model.specs.Goals.Arithmetic.{Evaluated, expression_value}
use Rattle.run_model.specs.Goals.ArithmeticGoals.{with_value}
use Rattle.run_model.specs.Goals.StandardOrder.{order}
use Rattle.run_model.specs.Goals.TermTests.{order_symbol, is_order_symbol, compare_answer}
use Rattle.run_model.proofs.PlainAnswerLemmas.{IsPlain, IsPlainSolution, IsGround, ground_fixed}
use Rattle.run_model.proofs.AtomGoalPlainLemmas.{length-plain, code-plain, spelling-plain}
use Rattle.run_model.specs.Goals.AtomParts.{PartArguments, atom_concat_answer, sub_atom_answer}
use Rattle.run_model.proofs.AtomPartPlainLemmas.{AreArguments, IsKeptByParts, atom_concat-plain, sub_atom-plain}
use Rattle.run_model.proofs.NumberTextPlainLemmas.{number_text-plain}
use Rattle.run_model.proofs.SortingLemmas.{each_sorted, each_unlike, each-kept, into-kept}
use Rattle.run_model.specs.Goals.AtomGoals.{with_each}
use Rattle.run_model.specs.Goals.Sorting.{sorted_by, sorted_terms, precedes, is_same, is_key_before, is_pair_term, no_pair, sort_answer, keysort_answer}
use Rattle.run_model.specs.Goals.NumberTexts.{number_text_answer}
use Rattle.run_model.specs.Goals.AtomGoals.{atom_length_answer, char_code_answer, spelling_answer}
use Rattle.std_builtins.specs.Meanings.{answer_of, arguments_of, type_test, order_test, value_test, spelling_meant}
use Rattle.std_builtins.specs.declared.table.Builtin.{Builtin}
use Rattle.std_builtins.specs.declared.table.Builtin.TheVariants.{Unify, Differ, «Type» as TypeGoal, Order, Compare, Is, Value, Functor, Argument, Parts, Copy, AtomLength, CharCode, AtomText, AtomConcat, SubAtom, NumberText, Sort, KeySort}
use Rattle.run_model.proofs.TermPartBoundLemmas.{less}

-- few equations, of terms that the map does not change
pub record IsFixed (f : ℕ → Term) (s : Solution) : Type 0 where
  pub few : length s.equations ≤ 2
  pub sides : Each (λ e. (apply f e.0 ≡ e.0) × (apply f e.1 ≡ e.1)) s.equations

abbrev pub IsAnswerFixed : (ℕ → Term) → Answer → Type 0
IsAnswerFixed f (Ok solutions) = Each (IsFixed f) solutions
IsAnswerFixed f (Err e) = Unit {0}

term_fixed : (f : ℕ → Term) (i : ℕ) (ts : Terms) → suc i ≤ count ts → apply_all f ts ≡ ts → apply f (term_at i ts) ≡ term_at i ts
term_fixed f i end h e = absurd (omega arith)
term_fixed f zero (more t ts) h e = cc
term_fixed f (suc i) (more t ts) h e = let others : apply_all f ts ≡ ts = cc in term_fixed f i ts (omega arith) others

holds_fixed : (f : ℕ → Term) (b : Bool) → IsAnswerFixed f (holds_if b)
holds_fixed f true = (record { few = omega arith; sides = tt }, tt)
holds_fixed f false = tt

equal_fixed : (f : ℕ → Term) (a b : Term) → apply f a ≡ a → apply f b ≡ b → IsAnswerFixed f (equal a b)
equal_fixed f a b h k = (record { few = omega arith; sides = ((h, k), tt) }, tt)

compare_fixed : (f : ℕ → Term) (o a b : Term) → apply f o ≡ o → IsAnswerFixed f (compare_answer o a b)
compare_fixed f (VarTerm n) a b h = equal_fixed f (VarTerm n) (AtomTerm (order_symbol (order a b))) h refl
compare_fixed f (IntTerm z) a b h = tt
compare_fixed f (AtomTerm o) a b h = by (is_order_symbol o)
  where
    by : (c : Bool) → IsAnswerFixed f (cond c (equal (AtomTerm o) (AtomTerm (order_symbol (order a b)))) (Err (domain_error (codes "order") (AtomTerm o))))
    by true = equal_fixed f (AtomTerm o) (AtomTerm (order_symbol (order a b))) refl refl
    by false = tt
compare_fixed f (Compound g ts) a b h = tt

value_fixed : (f : ℕ → Term) (v : Evaluated) (answer : ℤ → Answer) → ((z : ℤ) → IsAnswerFixed f (answer z)) → IsAnswerFixed f (with_value v answer)
value_fixed f (Ok z) answer h = h z
value_fixed f (Err e) answer h = tt

-- terms made of parts and taken apart
variables_fixed : (f : ℕ → Term) (k next : ℕ) → ((n : ℕ) → next ≤ n → f n ≡ VarTerm n) → apply_all f (new_variables next k) ≡ new_variables next k
variables_fixed f zero next new = refl
variables_fixed f (suc k) next new = ap₂ more (new next (omega arith)) (variables_fixed f k (suc next) (λ n le. new n (omega arith)))

made_fixed : (f : ℕ → Term) (next : ℕ) (t name : Term) (k : ℕ) → ((n : ℕ) → next ≤ n → f n ≡ VarTerm n) → apply f t ≡ t → apply f name ≡ name → IsAnswerFixed f (made_term t next name k)
made_fixed f next t name zero new h j = equal_fixed f t name h j
made_fixed f next t (VarTerm n) (suc k) new h j = tt
made_fixed f next t (IntTerm z) (suc k) new h j = tt
made_fixed f next t (AtomTerm g) (suc k) new h j = (record { few = omega arith; sides = ((h, ap (Compound g) (variables_fixed f (suc k) next new)), tt) }, tt)
made_fixed f next t (Compound g ts) (suc k) new h j = tt

counted_fixed : (f : ℕ → Term) (next : ℕ) (t name : Term) (z : ℤ) → ((n : ℕ) → next ≤ n → f n ≡ VarTerm n) → apply f t ≡ t → apply f name ≡ name → IsAnswerFixed f (functor_of_count t next name z)
counted_fixed f next t name (negsuc n) new h j = tt
counted_fixed f next t name (pos n) new h j = by (nat_lt 65535 n)
  where
    by : (c : Bool) → IsAnswerFixed f (cond c (Err (representation_error (codes "max_arity"))) (made_term t next name n))
    by true = tt
    by false = made_fixed f next t name n new h j

named_fixed : (f : ℕ → Term) (next : ℕ) (t name arity : Term) → ((n : ℕ) → next ≤ n → f n ≡ VarTerm n) → apply f t ≡ t → apply f name ≡ name → IsAnswerFixed f (functor_of_name t next name arity)
named_fixed f next t name (VarTerm n) new h j = tt
named_fixed f next t (VarTerm n) (IntTerm z) new h j = counted_fixed f next t (VarTerm n) z new h j
named_fixed f next t (IntTerm y) (IntTerm z) new h j = counted_fixed f next t (IntTerm y) z new h j
named_fixed f next t (AtomTerm a) (IntTerm z) new h j = counted_fixed f next t (AtomTerm a) z new h j
named_fixed f next t (Compound g ts) (IntTerm z) new h j = tt
named_fixed f next t (VarTerm n) (AtomTerm b) new h j = tt
named_fixed f next t (IntTerm y) (AtomTerm b) new h j = tt
named_fixed f next t (AtomTerm a) (AtomTerm b) new h j = tt
named_fixed f next t (Compound g ts) (AtomTerm b) new h j = tt
named_fixed f next t (VarTerm n) (Compound k us) new h j = tt
named_fixed f next t (IntTerm y) (Compound k us) new h j = tt
named_fixed f next t (AtomTerm a) (Compound k us) new h j = tt
named_fixed f next t (Compound g ts) (Compound k us) new h j = tt

built_fixed : (f : ℕ → Term) (next : ℕ) (t name arity : Term) → ((n : ℕ) → next ≤ n → f n ≡ VarTerm n) → apply f t ≡ t → apply f name ≡ name → IsAnswerFixed f (functor_built t next name arity)
built_fixed f next t (VarTerm n) arity new h j = tt
built_fixed f next t (IntTerm z) arity new h j = named_fixed f next t (IntTerm z) arity new h j
built_fixed f next t (AtomTerm a) arity new h j = named_fixed f next t (AtomTerm a) arity new h j
built_fixed f next t (Compound g ts) arity new h j = named_fixed f next t (Compound g ts) arity new h j

functor_fixed : (f : ℕ → Term) (next : ℕ) (t name arity : Term) → ((n : ℕ) → next ≤ n → f n ≡ VarTerm n) → apply f t ≡ t → apply f name ≡ name → apply f arity ≡ arity → IsAnswerFixed f (functor_answer t name arity next)
functor_fixed f next (VarTerm n) name arity new h j k = built_fixed f next (VarTerm n) name arity new h j
functor_fixed f next (IntTerm z) name arity new h j k = (record { few = omega arith; sides = ((j, refl), ((k, refl), tt)) }, tt)
functor_fixed f next (AtomTerm a) name arity new h j k = (record { few = omega arith; sides = ((j, refl), ((k, refl), tt)) }, tt)
functor_fixed f next (Compound g ts) name arity new h j k = (record { few = omega arith; sides = ((j, refl), ((k, refl), tt)) }, tt)

numbered_fixed : (f : ℕ → Term) (n : ℕ) (ts : Terms) (x : Term) → apply_all f ts ≡ ts → apply f x ≡ x → IsAnswerFixed f (numbered_argument n ts x)
numbered_fixed f zero ts x h k = tt
numbered_fixed f (suc n) ts x h k = by (nat_lt n (count ts)) refl
  where
    by : (c : Bool) → nat_lt n (count ts) ≡ c → IsAnswerFixed f (cond c (equal x (term_at n ts)) (Ok []))
    by true e = equal_fixed f x (term_at n ts) k (term_fixed f n ts (less n (count ts) e) h)
    by false e = tt

argument_fixed : (f : ℕ → Term) (n t x : Term) → apply f t ≡ t → apply f x ≡ x → IsAnswerFixed f (argument_answer n t x)
argument_fixed f (VarTerm n) t x h k = tt
argument_fixed f (IntTerm z) (VarTerm m) x h k = tt
argument_fixed f (IntTerm z) (IntTerm y) x h k = tt
argument_fixed f (IntTerm z) (AtomTerm b) x h k = tt
argument_fixed f (IntTerm (pos n)) (Compound g us) x h k = let same : apply_all f us ≡ us = cc in numbered_fixed f n us x same k
argument_fixed f (IntTerm (negsuc n)) (Compound g us) x h k = tt
argument_fixed f (AtomTerm a) (VarTerm m) x h k = tt
argument_fixed f (AtomTerm a) (IntTerm y) x h k = tt
argument_fixed f (AtomTerm a) (AtomTerm b) x h k = tt
argument_fixed f (AtomTerm a) (Compound g us) x h k = tt
argument_fixed f (Compound c ts) (VarTerm m) x h k = tt
argument_fixed f (Compound c ts) (IntTerm y) x h k = tt
argument_fixed f (Compound c ts) (AtomTerm b) x h k = tt
argument_fixed f (Compound c ts) (Compound g us) x h k = tt

IsFormFixed : (ℕ → Term) → ListForm → Type 0
IsFormFixed f (ProperList ts) = Each (λ t. apply f t ≡ t) ts
IsFormFixed f (PartialList ts) = Unit {0}
IsFormFixed f NoList = Unit {0}

item_fixed : (f : ℕ → Term) (t : Term) (form : ListForm) → apply f t ≡ t → IsFormFixed f form → IsFormFixed f (item_before t form)
unfolding IsFormFixed
item_fixed f t (ProperList ts) h k = (h, k)
item_fixed f t (PartialList ts) h k = tt
item_fixed f t NoList h k = tt

form_fixed : (f : ℕ → Term) (t : Term) → apply f t ≡ t → IsFormFixed f (list_form t)
unfolding IsFormFixed
form_fixed f (VarTerm n) h = tt
form_fixed f (IntTerm z) h = tt
form_fixed f (AtomTerm a) h = by (same_name a (codes "[]"))
  where
    by : (c : Bool) → IsFormFixed f (cond c (ProperList []) NoList)
    by true = tt
    by false = tt
form_fixed f (Compound g end) h = tt
form_fixed f (Compound g (more t end)) h = tt
form_fixed f (Compound g (more t (more rest end))) h =
    let first : apply f t ≡ t = cc in
    let other : apply f rest ≡ rest = cc in
    by (same_name g (codes ".")) (item_fixed f t (list_form rest) first (form_fixed f rest other))
  where
    by : (c : Bool) → IsFormFixed f (item_before t (list_form rest)) → IsFormFixed f (cond c (item_before t (list_form rest)) NoList)
    by true k = k
    by false k = tt
form_fixed f (Compound g (more t (more rest (more u us)))) h = tt

terms_fixed : (f : ℕ → Term) (ts : List Term) → Each (λ t. apply f t ≡ t) ts → apply_all f (terms_from ts) ≡ terms_from ts
terms_fixed f [] h = refl
terms_fixed f (t ∷ ts) h = ap₂ more h.0 (terms_fixed f ts h.1)

list_fixed : (f : ℕ → Term) (ts : List Term) → Each (λ t. apply f t ≡ t) ts → apply f (list_term ts) ≡ list_term ts
list_fixed f [] h = refl
list_fixed f (t ∷ ts) h = ap₂ (λ a b. binary (codes ".") a b) h.0 (list_fixed f ts h.1)

items_fixed : (f : ℕ → Term) (ts : Terms) → apply_all f ts ≡ ts → Each (λ t. apply f t ≡ t) (items_of ts)
items_fixed f end h = tt
items_fixed f (more t ts) h = let first : apply f t ≡ t = cc in let others : apply_all f ts ≡ ts = cc in (first, items_fixed f ts others)

parts_of_fixed : (f : ℕ → Term) (t : Term) → apply f t ≡ t → Each (λ u. apply f u ≡ u) (parts_of t)
parts_of_fixed f (VarTerm n) h = (h, tt)
parts_of_fixed f (IntTerm z) h = (h, tt)
parts_of_fixed f (AtomTerm a) h = (h, tt)
parts_of_fixed f (Compound g ts) h = let same : apply_all f ts ≡ ts = cc in (refl, items_fixed f ts same)

compound_fixed : (f : ℕ → Term) (t name : Term) (ts : List Term) → apply f t ≡ t → Each (λ u. apply f u ≡ u) ts → IsAnswerFixed f (compound_of t name ts)
compound_fixed f t (VarTerm n) ts h k = tt
compound_fixed f t (IntTerm z) ts h k = tt
compound_fixed f t (AtomTerm g) ts h k = by (nat_lt 65535 (length ts))
  where
    by : (c : Bool) → IsAnswerFixed f (cond c (Err (representation_error (codes "max_arity"))) (equal t (Compound g (terms_from ts))))
    by true = tt
    by false = equal_fixed f t (Compound g (terms_from ts)) h (ap (Compound g) (terms_fixed f ts k))
compound_fixed f t (Compound g us) ts h k = tt

from_items_fixed : (f : ℕ → Term) (t name : Term) (ts : List Term) → apply f t ≡ t → apply f name ≡ name → Each (λ u. apply f u ≡ u) ts → IsAnswerFixed f (term_of_items t name ts)
from_items_fixed f t (VarTerm n) ts h j k = tt
from_items_fixed f t (IntTerm z) [] h j k = equal_fixed f t (IntTerm z) h j
from_items_fixed f t (AtomTerm a) [] h j k = equal_fixed f t (AtomTerm a) h j
from_items_fixed f t (Compound g us) [] h j k = tt
from_items_fixed f t (IntTerm z) (u ∷ us) h j k = compound_fixed f t (IntTerm z) (u ∷ us) h k
from_items_fixed f t (AtomTerm a) (u ∷ us) h j k = compound_fixed f t (AtomTerm a) (u ∷ us) h k
from_items_fixed f t (Compound g vs) (u ∷ us) h j k = compound_fixed f t (Compound g vs) (u ∷ us) h k

from_form_fixed : (f : ℕ → Term) (t l : Term) (form : ListForm) → apply f t ≡ t → IsFormFixed f form → IsAnswerFixed f (built_from t l form)
unfolding IsFormFixed
from_form_fixed f t l (PartialList ts) h k = tt
from_form_fixed f t l NoList h k = tt
from_form_fixed f t l (ProperList []) h k = tt
from_form_fixed f t l (ProperList (name ∷ ts)) h k = from_items_fixed f t name ts h k.0 k.1

apart_fixed : (f : ℕ → Term) (t l : Term) (form : ListForm) → apply f t ≡ t → apply f l ≡ l → IsAnswerFixed f (taken_apart t l form)
apart_fixed f t l NoList h k = tt
apart_fixed f t l (ProperList ts) h k = equal_fixed f l (list_term (parts_of t)) k (list_fixed f (parts_of t) (parts_of_fixed f t h))
apart_fixed f t l (PartialList ts) h k = equal_fixed f l (list_term (parts_of t)) k (list_fixed f (parts_of t) (parts_of_fixed f t h))

parts_fixed : (f : ℕ → Term) (t l : Term) → apply f t ≡ t → apply f l ≡ l → IsAnswerFixed f (parts_answer t l)
parts_fixed f (VarTerm n) l h k = from_form_fixed f (VarTerm n) l (list_form l) h (form_fixed f l k)
parts_fixed f (IntTerm z) l h k = apart_fixed f (IntTerm z) l (list_form l) h k
parts_fixed f (AtomTerm a) l h k = apart_fixed f (AtomTerm a) l (list_form l) h k
parts_fixed f (Compound g ts) l h k = apart_fixed f (Compound g ts) l (list_form l) h k

mutual
  copied_fixed : (f : ℕ → Term) (seen : List ℕ) (next : ℕ) (t : Term) → ((n : ℕ) → next ≤ n → f n ≡ VarTerm n) → apply f (apply (renamed seen next) t) ≡ apply (renamed seen next) t
  copied_fixed f seen next (VarTerm n) new = new (next + place_of seen n) (omega arith)
  copied_fixed f seen next (IntTerm z) new = refl
  copied_fixed f seen next (AtomTerm a) new = refl
  copied_fixed f seen next (Compound g ts) new = ap (Compound g) (all_copied_fixed f seen next ts new)

  all_copied_fixed : (f : ℕ → Term) (seen : List ℕ) (next : ℕ) (ts : Terms) → ((n : ℕ) → next ≤ n → f n ≡ VarTerm n) → apply_all f (apply_all (renamed seen next) ts) ≡ apply_all (renamed seen next) ts
  all_copied_fixed f seen next end new = refl
  all_copied_fixed f seen next (more t ts) new = ap₂ more (copied_fixed f seen next t new) (all_copied_fixed f seen next ts new)

-- answers without new variables
plain_sides_fixed : (f : ℕ → Term) (es : Equations) → Each (λ e. (apply f e.0 ≡ e.0) × IsGround e.1) es → Each (λ e. (apply f e.0 ≡ e.0) × (apply f e.1 ≡ e.1)) es
plain_sides_fixed f [] h = tt
plain_sides_fixed f (e ∷ es) h = ((h.0.0, ground_fixed f e.1 h.0.1), plain_sides_fixed f es h.1)

plain_all_fixed : (f : ℕ → Term) (ss : List Solution) → Each (IsPlainSolution (λ t. apply f t ≡ t)) ss → Each (IsFixed f) ss
plain_all_fixed f [] h = tt
plain_all_fixed f (s ∷ ss) h = (record { few = h.0.few; sides = plain_sides_fixed f s.equations h.0.sides }, plain_all_fixed f ss h.1)

plain_fixed : (f : ℕ → Term) (a : Answer) → IsPlain (λ t. apply f t ≡ t) a → IsAnswerFixed f a
plain_fixed f (Ok solutions) h = plain_all_fixed f solutions h
plain_fixed f (Err e) h = tt

-- sorted lists
items_of_form_fixed : (f : ℕ → Term) (form : ListForm) (ts : List Term) → IsFormFixed f form → form ≡ ProperList ts → Each (λ t. apply f t ≡ t) ts
unfolding IsFormFixed
items_of_form_fixed f form ts h e = subst (IsFormFixed f) e h

sort_fixed : (f : ℕ → Term) (l s : Term) → apply f l ≡ l → apply f s ≡ s → IsAnswerFixed f (sort_answer l s)
sort_fixed f l s h k =
    into-kept (IsAnswerFixed f) (λ e. tt) (Each (λ t. apply f t ≡ t)) l s (list_form l) (list_form s) (λ ts. equal s (list_term (sorted_terms ts))) (λ ts e. items_of_form_fixed f (list_form l) ts (form_fixed f l h) e)
    (λ ts j. equal_fixed f s (list_term (sorted_terms ts)) k (list_fixed f (sorted_terms ts) (each_unlike (λ t. apply f t ≡ t) is_same (sorted_by precedes ts) (each_sorted (λ t. apply f t ≡ t) precedes ts j))))

keysort_fixed : (f : ℕ → Term) (l s : Term) → apply f l ≡ l → apply f s ≡ s → IsAnswerFixed f (keysort_answer l s)
keysort_fixed f l s h k =
    into-kept (IsAnswerFixed f) (λ e. tt) (Each (λ t. apply f t ≡ t)) l s (list_form l) (list_form s) (λ ts. with_each is_pair_term no_pair ts (equal s (list_term (sorted_by is_key_before ts)))) (λ ts e. items_of_form_fixed f (list_form l) ts (form_fixed f l h) e)
    (λ ts j. each-kept (IsAnswerFixed f) (λ e. tt) is_pair_term no_pair ts (equal s (list_term (sorted_by is_key_before ts))) (equal_fixed f s (list_term (sorted_by is_key_before ts)) k (list_fixed f (sorted_by is_key_before ts) (each_sorted (λ t. apply f t ≡ t) is_key_before ts j))))

parts_kept : (f : ℕ → Term) → IsKeptByParts (λ t. apply f t ≡ t)
parts_kept f b l e s h k j i = ap (Compound (codes "part")) (ap₂ more h (ap₂ more k (ap₂ more j (ap₂ more i refl))))

pub answer_fixed : (b : Builtin) (ts : Terms) (next : ℕ) (f : ℕ → Term) → arguments_of b ≤ count ts → apply_all f ts ≡ ts → ((n : ℕ) → next ≤ n → f n ≡ VarTerm n) → IsAnswerFixed f (answer_of b ts next)
answer_fixed Unify ts next f few e new = equal_fixed f (term_at 0 ts) (term_at 1 ts) (term_fixed f 0 ts (omega arith) e) (term_fixed f 1 ts (omega arith) e)
answer_fixed Differ ts next f few e new = holds_fixed f (is_none (unifier ((term_at 0 ts, term_at 1 ts) ∷ [])))
answer_fixed (TypeGoal test) ts next f few e new = holds_fixed f (type_test test (term_at 0 ts))
answer_fixed (Order test) ts next f few e new = holds_fixed f (order_test test (order (term_at 0 ts) (term_at 1 ts)))
answer_fixed Compare ts next f few e new = compare_fixed f (term_at 0 ts) (term_at 1 ts) (term_at 2 ts) (term_fixed f 0 ts (omega arith) e)
answer_fixed Is ts next f few e new = value_fixed f (expression_value (term_at 1 ts)) (λ z. equal (term_at 0 ts) (IntTerm z)) (λ z. equal_fixed f (term_at 0 ts) (IntTerm z) (term_fixed f 0 ts (omega arith) e) refl)
answer_fixed (Value test) ts next f few e new =
    value_fixed f (expression_value (term_at 0 ts)) (λ y. with_value (expression_value (term_at 1 ts)) (λ z. holds_if (value_test test y z)))
    (λ y. value_fixed f (expression_value (term_at 1 ts)) (λ z. holds_if (value_test test y z)) (λ z. holds_fixed f (value_test test y z)))
answer_fixed Functor ts next f few e new = functor_fixed f next (term_at 0 ts) (term_at 1 ts) (term_at 2 ts) new (term_fixed f 0 ts (omega arith) e) (term_fixed f 1 ts (omega arith) e) (term_fixed f 2 ts (omega arith) e)
answer_fixed Argument ts next f few e new = argument_fixed f (term_at 0 ts) (term_at 1 ts) (term_at 2 ts) (term_fixed f 1 ts (omega arith) e) (term_fixed f 2 ts (omega arith) e)
answer_fixed Parts ts next f few e new = parts_fixed f (term_at 0 ts) (term_at 1 ts) (term_fixed f 0 ts (omega arith) e) (term_fixed f 1 ts (omega arith) e)
answer_fixed Copy ts next f few e new = (record { few = omega arith; sides = ((term_fixed f 1 ts (omega arith) e, copied_fixed f (seen_in (term_at 0 ts) []) next (term_at 0 ts) new), tt) }, tt)
answer_fixed AtomLength ts next f few e new = plain_fixed f (atom_length_answer (term_at 0 ts) (term_at 1 ts)) (length-plain (λ t. apply f t ≡ t) (term_at 0 ts) (term_at 1 ts) (term_fixed f 1 ts (omega arith) e))
answer_fixed CharCode ts next f few e new = plain_fixed f (char_code_answer (term_at 0 ts) (term_at 1 ts)) (code-plain (λ t. apply f t ≡ t) (term_at 0 ts) (term_at 1 ts) (term_fixed f 0 ts (omega arith) e) (term_fixed f 1 ts (omega arith) e))
answer_fixed (AtomText by) ts next f few e new = plain_fixed f (spelling_answer (spelling_meant by) (term_at 0 ts) (term_at 1 ts)) (spelling-plain (λ t. apply f t ≡ t) (spelling_meant by) (term_at 0 ts) (term_at 1 ts) (term_fixed f 0 ts (omega arith) e) (term_fixed f 1 ts (omega arith) e))
answer_fixed (NumberText by) ts next f few e new = plain_fixed f (number_text_answer (spelling_meant by) (term_at 0 ts) (term_at 1 ts)) (number_text-plain (λ t. apply f t ≡ t) (spelling_meant by) (term_at 0 ts) (term_at 1 ts) (term_fixed f 0 ts (omega arith) e) (term_fixed f 1 ts (omega arith) e))
answer_fixed AtomConcat ts next f few e new =
    plain_fixed f (atom_concat_answer (term_at 0 ts) (term_at 1 ts) (term_at 2 ts)) (atom_concat-plain (λ t. apply f t ≡ t) (term_at 0 ts) (term_at 1 ts) (term_at 2 ts) (term_fixed f 0 ts (omega arith) e) (term_fixed f 1 ts (omega arith) e) (term_fixed f 2 ts (omega arith) e))
answer_fixed SubAtom ts next f few e new =
    let asked : PartArguments = record { before = term_at 1 ts; length = term_at 2 ts; after = term_at 3 ts; text = term_at 4 ts } in
    let kept : AreArguments (λ t. apply f t ≡ t) asked = record { before = term_fixed f 1 ts (omega arith) e; length = term_fixed f 2 ts (omega arith) e; after = term_fixed f 3 ts (omega arith) e; text = term_fixed f 4 ts (omega arith) e } in
    plain_fixed f (sub_atom_answer (term_at 0 ts) asked) (sub_atom-plain (λ t. apply f t ≡ t) (parts_kept f) (term_at 0 ts) asked kept)
answer_fixed Sort ts next f few e new = sort_fixed f (term_at 0 ts) (term_at 1 ts) (term_fixed f 0 ts (omega arith) e) (term_fixed f 1 ts (omega arith) e)
answer_fixed KeySort ts next f few e new = keysort_fixed f (term_at 0 ts) (term_at 1 ts) (term_fixed f 0 ts (omega arith) e) (term_fixed f 1 ts (omega arith) e)
