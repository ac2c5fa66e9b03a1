-- Goals that sort lists (ISO/IEC 13211-1, second corrigendum, 8.4.3 and 8.4.4).
use Rattle.std.specs.Prelude.{Bool, false, if◌then◌else◌, List, [], ◌∷◌, codes, Err}
use Rattle.std.specs.List.{dedup}
use Rattle.std.specs.Ordering.{is_lt, is_eq}
use Rattle.au_term.specs.Term.{Term, Compound, end, more, term_at}
use Rattle.au_model.specs.Terms.Forms.{same_name, list_term}
use Rattle.au_model.specs.Terms.ErrorTerms.{instantiation_error, type_error}
use Rattle.run_model.specs.Goals.Control.{Construct}
use Rattle.run_model.specs.Goals.BuiltinAnswers.{Answer, equal, predicate}
use Rattle.run_model.specs.Goals.ListForms.{ListForm, ProperList, PartialList, NoList, list_form}
use Rattle.run_model.specs.Goals.StandardOrder.{order}
use Rattle.run_model.specs.Goals.TermTests.{is_variable}
use Rattle.run_model.specs.Goals.AtomGoals.{with_each}

-- into a sorted list, in front of the first that is not less
abbrev pub insert_by : (Term → Term → Bool) → Term → List Term → List Term
insert_by less t [] = t ∷ []
insert_by less t (u ∷ us) = if less u t then u ∷ insert_by less t us else t ∷ (u ∷ us)

-- terms of which none is less than the other keep their order
abbrev pub sorted_by : (Term → Term → Bool) → List Term → List Term
sorted_by less [] = []
sorted_by less (t ∷ ts) = insert_by less t (sorted_by less ts)

abbrev pub precedes : Term → Term → Bool
precedes t u = is_lt (order t u)

abbrev pub is_same : Term → Term → Bool
is_same t u = is_eq (order t u)

-- in the standard order, each term once
abbrev pub sorted_terms : List Term → List Term
sorted_terms ts = dedup is_same (sorted_by precedes ts)

-- a pair is K-V
abbrev pub is_pair_term : Term → Bool
is_pair_term (Compound f (more k (more v end))) = same_name f (codes "-")
is_pair_term t = false

-- any other term is its own key
abbrev pub key_of_pair : Term → Term
key_of_pair (Compound f (more k ts)) = k
key_of_pair t = t

abbrev pub is_key_before : Term → Term → Bool
is_key_before t u = precedes (key_of_pair t) (key_of_pair u)

abbrev pub no_pair : Term → Term
no_pair t = if is_variable t then instantiation_error else type_error (codes "pair") t

-- the items of a list, where the result may be one
abbrev pub sorted_into : Term → Term → ListForm → ListForm → (List Term → Answer) → Answer
sorted_into l s (PartialList ts) result answer = Err instantiation_error
sorted_into l s NoList result answer = Err (type_error (codes "list") l)
sorted_into l s (ProperList ts) NoList answer = Err (type_error (codes "list") s)
sorted_into l s (ProperList ts) result answer = answer ts

-- sort(L, S)
abbrev pub sort_answer : Term → Term → Answer
sort_answer l s = sorted_into l s (list_form l) (list_form s) (λ ts. equal s (list_term (sorted_terms ts)))

-- keysort(L, S)
abbrev pub keysort_answer : Term → Term → Answer
keysort_answer l s = sorted_into l s (list_form l) (list_form s) (λ ts. with_each is_pair_term no_pair ts (equal s (list_term (sorted_by is_key_before ts))))

abbrev pub sorting_goals : List Construct
sorting_goals =
    predicate (codes "sort") 2 (λ ts next. sort_answer (term_at 0 ts) (term_at 1 ts))
    ∷ predicate (codes "keysort") 2 (λ ts next. keysort_answer (term_at 0 ts) (term_at 1 ts))
    ∷ []
