-- Goals that make terms and take them apart (ISO/IEC 13211-1, 8.5).
use Rattle.std.specs.Prelude.{ℕ, zero, suc, nat_lt, if◌then◌else◌, ℤ, pos, negsuc, List, [], ◌∷◌, codes, length, Ok, Err, None}
use Rattle.au_term.specs.Term.{Term, VarTerm, IntTerm, AtomTerm, Compound, Terms, end, more, count, argument_count, term_at}
use Rattle.au_model.specs.Terms.Forms.{list_term}
use Rattle.au_model.specs.Terms.Lists.{terms_from}
use Rattle.au_model.specs.Terms.Copies.{copied, copy_takes}
use Rattle.au_model.specs.Terms.ErrorTerms.{instantiation_error, type_error, domain_error, representation_error}
use Rattle.run_model.specs.Goals.Control.{Construct}
use Rattle.run_model.specs.Goals.BuiltinAnswers.{Answer, equal, one_solution, predicate}
use Rattle.run_model.specs.Goals.ListForms.{ListForm, ProperList, PartialList, NoList, list_form, items_of}
use Rattle.run_model.specs.Goals.TermTests.{is_variable, is_compound}

-- so many variables, from a number on
abbrev pub new_variables : ℕ → ℕ → Terms
new_variables next zero = end
new_variables next (suc n) = more (VarTerm next) (new_variables (suc next) n)

-- the name of a compound, or an atomic term itself
abbrev pub functor_name : Term → Term
functor_name (Compound f ts) = AtomTerm f
functor_name t = t

-- a term of a name and a number of arguments, which are new variables
abbrev pub made_term : Term → ℕ → Term → ℕ → Answer
made_term t next name zero = equal t name
made_term t next (AtomTerm f) (suc n) = Ok (record { equations = (t, Compound f (new_variables next (suc n))) ∷ []; goals = []; removes = None; variables = suc n } ∷ [])
made_term t next name (suc n) = Err (type_error (codes "atom") name)

abbrev pub functor_of_count : Term → ℕ → Term → ℤ → Answer
functor_of_count t next name (negsuc n) = Err (domain_error (codes "not_less_than_zero") (IntTerm (negsuc n)))
functor_of_count t next name (pos n) = if nat_lt 65535 n then Err (representation_error (codes "max_arity")) else made_term t next name n

abbrev pub functor_of_name : Term → ℕ → Term → Term → Answer
functor_of_name t next name (VarTerm n) = Err instantiation_error
functor_of_name t next (Compound f ts) arity = Err (type_error (codes "atomic") (Compound f ts))
functor_of_name t next name (IntTerm z) = functor_of_count t next name z
functor_of_name t next name arity = Err (type_error (codes "integer") arity)

-- functor(T, Name, Arity) of a variable T
abbrev pub functor_built : Term → ℕ → Term → Term → Answer
functor_built t next (VarTerm n) arity = Err instantiation_error
functor_built t next name arity = functor_of_name t next name arity

-- functor(T, Name, Arity) (8.5.1)
abbrev pub functor_answer : Term → Term → Term → ℕ → Answer
functor_answer t name arity next =
    if is_variable t then functor_built t next name arity
    else one_solution ((name, functor_name t) ∷ (arity, IntTerm (pos (argument_count t))) ∷ [])

-- the argument with a number, counted from 1
abbrev pub numbered_argument : ℕ → Terms → Term → Answer
numbered_argument zero ts x = Ok []
numbered_argument (suc n) ts x = if nat_lt n (count ts) then equal x (term_at n ts) else Ok []

abbrev pub argument_of : ℤ → Terms → Term → Answer
argument_of (pos n) ts x = numbered_argument n ts x
argument_of (negsuc n) ts x = Err (domain_error (codes "not_less_than_zero") (IntTerm (negsuc n)))

-- arg(N, T, X) of an N and a T that are no variables
abbrev pub argument_of_term : Term → Term → Term → Answer
argument_of_term (IntTerm z) (Compound f ts) x = argument_of z ts x
argument_of_term (IntTerm z) t x = Err (type_error (codes "compound") t)
argument_of_term n t x = Err (type_error (codes "integer") n)

-- arg(N, T, X) (8.5.2)
abbrev pub argument_answer : Term → Term → Term → Answer
argument_answer n t x = if is_variable n then Err instantiation_error else if is_variable t then Err instantiation_error else argument_of_term n t x

-- the name and the arguments
abbrev pub parts_of : Term → List Term
parts_of (Compound f ts) = AtomTerm f ∷ items_of ts
parts_of t = t ∷ []

abbrev pub compound_of : Term → Term → List Term → Answer
compound_of t (AtomTerm f) ts = if nat_lt 65535 (length ts) then Err (representation_error (codes "max_arity")) else equal t (Compound f (terms_from ts))
compound_of t name ts = Err (type_error (codes "atom") name)

-- the term of a first item and the others
abbrev pub term_of_items : Term → Term → List Term → Answer
term_of_items t (VarTerm n) ts = Err instantiation_error
term_of_items t name [] = if is_compound name then Err (type_error (codes "atomic") name) else equal t name
term_of_items t name (u ∷ us) = compound_of t name (u ∷ us)

-- T =.. L of a variable T
abbrev pub built_from : Term → Term → ListForm → Answer
built_from t l (PartialList ts) = Err instantiation_error
built_from t l NoList = Err (type_error (codes "list") l)
built_from t l (ProperList []) = Err (domain_error (codes "non_empty_list") (AtomTerm (codes "[]")))
built_from t l (ProperList (name ∷ ts)) = term_of_items t name ts

-- T =.. L of any other T
abbrev pub taken_apart : Term → Term → ListForm → Answer
taken_apart t l NoList = Err (type_error (codes "list") l)
taken_apart t l form = equal l (list_term (parts_of t))

-- T =.. L (8.5.3)
abbrev pub parts_answer : Term → Term → Answer
parts_answer t l = if is_variable t then built_from t l (list_form l) else taken_apart t l (list_form l)

-- copy_term(T, U) (8.5.4)
abbrev pub copy_answer : Term → Term → ℕ → Answer
copy_answer t u next = Ok (record { equations = (u, copied t next) ∷ []; goals = []; removes = None; variables = copy_takes t } ∷ [])

abbrev pub term_parts : List Construct
term_parts =
    predicate (codes "functor") 3 (λ ts next. functor_answer (term_at 0 ts) (term_at 1 ts) (term_at 2 ts) next)
    ∷ predicate (codes "arg") 3 (λ ts next. argument_answer (term_at 0 ts) (term_at 1 ts) (term_at 2 ts))
    ∷ predicate (codes "=..") 2 (λ ts next. parts_answer (term_at 0 ts) (term_at 1 ts))
    ∷ predicate (codes "copy_term") 2 (λ ts next. copy_answer (term_at 0 ts) (term_at 1 ts) next)
    ∷ []
