-- Lists that are to be sorted.
use Rattle.std.proofs.Common.{◌≡◌, List, Result, Ok, Err, sym, ap, ◌∙◌, subst}
use Rattle.std.specs.Prelude.{Vec, IsErrAnd, codes}
use Rattle.std.specs.Global.{Global}
use Rattle.au_term.specs.Term.{Term}
use Rattle.au_term.specs.declared.flat.FlatTerm.{FlatTerm}
use Rattle.au_model.specs.Terms.ErrorTerms.{type_error}
use Rattle.au_model.specs.Terms.Forms.{list_term}
use Rattle.run_model.specs.Goals.BuiltinAnswers.{Answer, equal}
use Rattle.run_model.specs.Goals.ListForms.{ListForm, ProperList, NoList}
use Rattle.run_model.specs.Goals.AtomGoals.{with_each}
use Rattle.run_model.specs.Goals.Sorting.{sorted_by, is_key_before, is_pair_term, no_pair, sorted_into}
use Rattle.std_builtins.specs.Answers.{IsAnswer}
use Rattle.std_builtins.specs.Checks.{AreItemsFor, IsPassed}
use Rattle.std_builtins.specs.declared.answer.Solution.{Solution}
use Rattle.std_builtins.specs.declared.answer.BuiltinRefusal.{BuiltinRefusal}
use Rattle.std_builtins.specs.declared.answer.BuiltinRefusal.TheVariants.{Fault, NoMemory}
use Rattle.std_builtins.proofs.CheckLemmas.{refused}

pub unsorted : (l s : Term) (form result : ListForm) (answer : List Term → Answer) (r : Result (Vec FlatTerm Global) BuiltinRefusal) → form ≡ NoList → AreItemsFor (Err (type_error (codes "list") l)) answer r → AreItemsFor (sorted_into l s form result answer) answer r
unsorted l s form result answer r is h = subst (λ f. AreItemsFor (sorted_into l s f result answer) answer r) (sym is) h

pub result_refused : (l s : Term) (form result : ListForm) (ts : List Term) (answer : List Term → Answer) (r : Result (Vec FlatTerm Global) BuiltinRefusal) → form ≡ ProperList ts → result ≡ NoList → AreItemsFor (Err (type_error (codes "list") s)) answer r → AreItemsFor (sorted_into l s form result answer) answer r
result_refused l s form result ts answer r is none h = subst (λ f. AreItemsFor (sorted_into l s f result answer) answer r) (sym is) (subst (λ f. AreItemsFor (sorted_into l s (ProperList ts) f answer) answer r) (sym none) h)

pub items_missing : (waiting : Answer) (answer : List Term → Answer) (r : Result (Vec FlatTerm Global) BuiltinRefusal) (e : BuiltinRefusal) (s : Result (Vec Solution Global) BuiltinRefusal) → AreItemsFor waiting answer r → r ≡ Err e → IsErrAnd s (λ d. d ≡ e) → IsAnswer waiting s
items_missing waiting answer r e (Ok solutions) h is same = absurd same
items_missing waiting answer r e (Err d) h is same = by d (subst (AreItemsFor waiting answer) (is ∙ ap Err (sym same)) h)
  where
    by : (x : BuiltinRefusal) → AreItemsFor waiting answer (Err x) → IsAnswer waiting (Err x)
    by (Fault fault) k = k
    by NoMemory k = tt

-- pairs sorted by their keys
abbrev pub by_keys : Term → List Term → Answer
by_keys s ts = with_each is_pair_term no_pair ts (equal s (list_term (sorted_by is_key_before ts)))

pub pairs_refused : (waiting : Answer) (s : Term) (ts items : List Term) (r : Result (Unit {0}) BuiltinRefusal) (e : BuiltinRefusal) (a : Result (Vec Solution Global) BuiltinRefusal) → waiting ≡ by_keys s items → ts ≡ items → ((b : Answer) → IsPassed (with_each is_pair_term no_pair ts b) b r) → r ≡ Err e → IsErrAnd a (λ d. d ≡ e) → IsAnswer waiting a
pairs_refused waiting s ts items r e a is read h same k =
    subst (λ b. IsAnswer b a) (ap (by_keys s) read ∙ sym is) (refused (by_keys s ts) (equal s (list_term (sorted_by is_key_before ts))) r e a (h (equal s (list_term (sorted_by is_key_before ts)))) same k)

pub pairs_sorted : (waiting : Answer) (s x made : Term) (ts us items now : List Term) (a : Result (Vec Solution Global) BuiltinRefusal) → waiting ≡ by_keys s items → ts ≡ items → ((b : Answer) → with_each is_pair_term no_pair ts b ≡ b) → now ≡ sorted_by is_key_before items → us ≡ now → made ≡ list_term us → x ≡ s → IsAnswer (equal x made) a → IsAnswer waiting a
pairs_sorted waiting s x made ts us items now a is read all sorts listed m same k =
    let passes : by_keys s items ≡ equal s (list_term (sorted_by is_key_before items)) = ap (by_keys s) (sym read) ∙ (all (equal s (list_term (sorted_by is_key_before ts))) ∙ ap (λ ys. equal s (list_term (sorted_by is_key_before ys))) read) in
    let found : made ≡ list_term (sorted_by is_key_before items) = m ∙ ap list_term (listed ∙ sorts) in
    subst (λ b. IsAnswer b a) (ap (λ t. equal t made) same ∙ (ap (equal s) found ∙ sym (is ∙ passes))) k
