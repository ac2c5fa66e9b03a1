-- What holds of the terms of a list holds of those of the sorted list.
use Rattle.std.proofs.Common.{◌≡◌, ℕ, Bool, true, false, cond, List, [], ◌∷◌, Err, refl, subst, arith}
use Rattle.std.specs.Prelude.{codes}
use Rattle.std.specs.List.{dedup, dedup_from}
use Rattle.au_term.specs.Term.{Term, term_at}
use Rattle.au_model.specs.Terms.Each.{Each}
use Rattle.au_model.specs.Terms.Forms.{list_term}
use Rattle.run_model.specs.Laws.Numbering.{IsTermBelow}
use Rattle.run_model.specs.Goals.BuiltinAnswers.{Answer, equal}
use Rattle.run_model.specs.Goals.ListForms.{ListForm, ProperList, PartialList, NoList, list_form}
use Rattle.run_model.specs.Goals.AtomGoals.{with_each}
use Rattle.run_model.specs.Goals.Sorting.{insert_by, sorted_by, precedes, is_same, sorted_terms, is_pair_term, is_key_before, no_pair, sorted_into, sort_answer, keysort_answer, sorting_goals}
use Rattle.run_model.proofs.AnswerBoundLemmas.{IsAnswerBelow, row-below, equal-below}
use Rattle.run_model.proofs.BuiltinRowBoundLemmas.{IsRowBelow, term-below}
use Rattle.run_model.proofs.TermPartBoundLemmas.{IsListBelow, form-below, list-below}

inserted : (P : Term → Type 0) (less : Term → Term → Bool) (t : Term) (ts : List Term) → P t → Each P ts → Each P (insert_by less t ts)
inserted P less t [] h k = (h, tt)
inserted P less t (u ∷ us) h k = by (less u t) (inserted P less t us h k.1)
  where
    by : (b : Bool) → Each P (insert_by less t us) → Each P (cond b (u ∷ insert_by less t us) (t ∷ (u ∷ us)))
    by true j = (k.0, j)
    by false j = (h, k)

pub each_sorted : (P : Term → Type 0) (less : Term → Term → Bool) (ts : List Term) → Each P ts → Each P (sorted_by less ts)
each_sorted P less [] h = tt
each_sorted P less (t ∷ ts) h = inserted P less t (sorted_by less ts) h.0 (each_sorted P less ts h.1)

kept : (P : Term → Type 0) (same : Term → Term → Bool) (t : Term) (ts : List Term) → P t → Each P ts → Each P (dedup_from same t ts)
kept P same t [] h k = (h, tt)
kept P same t (u ∷ us) h k = by (same u t) (kept P same t us h k.1) (kept P same u us k.0 k.1)
  where
    by : (b : Bool) → Each P (dedup_from same t us) → Each P (dedup_from same u us) → Each P (cond b (dedup_from same t us) (t ∷ dedup_from same u us))
    by true i j = i
    by false i j = (h, j)

pub each_unlike : (P : Term → Type 0) (same : Term → Term → Bool) (ts : List Term) → Each P ts → Each P (dedup same ts)
each_unlike P same [] h = tt
each_unlike P same (t ∷ ts) h = kept P same t ts h.0 h.1

-- answers that hold of the items of a list
pub each-kept : (Q : Answer → Type 0) → ((e : Term) → Q (Err e)) → (test : Term → Bool) (error : Term → Term) (ts : List Term) (a : Answer) → Q a → Q (with_each test error ts a)
each-kept Q errors test error [] a h = h
each-kept Q errors test error (t ∷ ts) a h = by (test t) (each-kept Q errors test error ts a h)
  where
    by : (b : Bool) → Q (with_each test error ts a) → Q (cond b (with_each test error ts a) (Err (error t)))
    by true k = k
    by false k = errors (error t)

pub into-kept : (Q : Answer → Type 0) → ((e : Term) → Q (Err e)) → (R : List Term → Type 0) (l s : Term) (form result : ListForm) (answer : List Term → Answer) → ((ts : List Term) → form ≡ ProperList ts → R ts) → ((ts : List Term) → R ts → Q (answer ts)) → Q (sorted_into l s form result answer)
into-kept Q errors R l s (PartialList ts) result answer h k = errors _
into-kept Q errors R l s NoList result answer h k = errors _
into-kept Q errors R l s (ProperList ts) NoList answer h k = errors _
into-kept Q errors R l s (ProperList ts) (ProperList us) answer h k = k ts (h ts refl)
into-kept Q errors R l s (ProperList ts) (PartialList us) answer h k = k ts (h ts refl)

items_below : (b : ℕ) (form : ListForm) (ts : List Term) → IsListBelow b form → form ≡ ProperList ts → Each (IsTermBelow b) ts
items_below b form ts h e = subst (IsListBelow b) e h

sort-below : (next : ℕ) (l s : Term) → IsTermBelow next l → IsTermBelow next s → IsAnswerBelow next (sort_answer l s)
sort-below next l s h k =
    into-kept (IsAnswerBelow next) (λ e. tt) (Each (IsTermBelow next)) l s (list_form l) (list_form s) (λ ts. equal s (list_term (sorted_terms ts))) (λ ts e. items_below next (list_form l) ts (form-below next l h) e)
    (λ ts j. equal-below next s (list_term (sorted_terms ts)) k (list-below next (sorted_terms ts) (each_unlike (IsTermBelow next) is_same (sorted_by precedes ts) (each_sorted (IsTermBelow next) precedes ts j))))

keysort-below : (next : ℕ) (l s : Term) → IsTermBelow next l → IsTermBelow next s → IsAnswerBelow next (keysort_answer l s)
keysort-below next l s h k =
    into-kept (IsAnswerBelow next) (λ e. tt) (Each (IsTermBelow next)) l s (list_form l) (list_form s) (λ ts. with_each is_pair_term no_pair ts (equal s (list_term (sorted_by is_key_before ts)))) (λ ts e. items_below next (list_form l) ts (form-below next l h) e)
    (λ ts j. each-kept (IsAnswerBelow next) (λ e. tt) is_pair_term no_pair ts (equal s (list_term (sorted_by is_key_before ts))) (equal-below next s (list_term (sorted_by is_key_before ts)) k (list-below next (sorted_by is_key_before ts) (each_sorted (IsTermBelow next) is_key_before ts j))))

pub sorting_goals-below : Each IsRowBelow sorting_goals
sorting_goals-below = (
  row-below (codes "sort") 2 (λ ts next. sort_answer (term_at 0 ts) (term_at 1 ts)) (λ ts next n h. sort-below next (term_at 0 ts) (term_at 1 ts) (term-below 0 next ts (omega arith) h) (term-below 1 next ts (omega arith) h)),
  (row-below (codes "keysort") 2 (λ ts next. keysort_answer (term_at 0 ts) (term_at 1 ts)) (λ ts next n h. keysort-below next (term_at 0 ts) (term_at 1 ts) (term-below 0 next ts (omega arith) h) (term-below 1 next ts (omega arith) h)), tt),
)
