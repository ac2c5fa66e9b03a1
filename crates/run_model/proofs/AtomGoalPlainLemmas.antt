-- The answers of goals on atoms have no new variables.
use Rattle.std.proofs.Common.{ℕ, Bool, true, false, ◌&&◌, ◌||◌, pos, cond, List, [], ◌∷◌, map, length, Err, refl, arith}
use Rattle.std.specs.Prelude.{codes}
use Rattle.au_term.specs.Term.{Term, VarTerm, IntTerm, AtomTerm, Compound, term_at}
use Rattle.au_model.specs.Terms.Each.{Each}
use Rattle.au_model.specs.Terms.Forms.{list_term}
use Rattle.au_model.specs.Terms.ErrorTerms.{instantiation_error, type_error}
use Rattle.run_model.specs.Laws.Numbering.{IsTermBelow}
use Rattle.run_model.specs.Goals.BuiltinAnswers.{Answer, equal, predicate}
use Rattle.run_model.specs.Goals.ListForms.{ListForm, ProperList, PartialList, NoList, list_form}
use Rattle.run_model.specs.Goals.TermTests.{is_variable, is_integer}
use Rattle.run_model.specs.Goals.AtomGoals.{with_each, is_bound, is_open_integer, is_not_below_zero, is_character, is_character_code, below_zero, no_code, with_counts, atom_length_answer, CharacterList, ByCharacters, ByCodes, item_for, code_of, coded_answer, char_code_answer, with_list, with_text, spelling_answer, atom_goals}
use Rattle.run_model.proofs.AnswerBoundLemmas.{row-below}
use Rattle.run_model.proofs.BuiltinRowBoundLemmas.{IsRowBelow, term-below}
use Rattle.run_model.proofs.PlainAnswerLemmas.{IsPlain, IsGround, equal-plain, each-plain, items-ground, plain-below}

pub numbers-plain : (P : Term → Type 0) (ts : List Term) (a : Answer) → IsPlain P a → IsPlain P (with_counts ts a)
numbers-plain P ts a h = each-plain P is_open_integer (type_error (codes "integer")) ts (with_each is_not_below_zero below_zero ts a) (each-plain P is_not_below_zero below_zero ts a h)

pub length-plain : (P : Term → Type 0) (t n : Term) → P n → IsPlain P (atom_length_answer t n)
length-plain P (VarTerm m) n h = tt
length-plain P (IntTerm z) n h = tt
length-plain P (AtomTerm a) n h = numbers-plain P (n ∷ []) (equal n (IntTerm (pos (length a)))) (equal-plain P n (IntTerm (pos (length a))) h refl)
length-plain P (Compound f ts) n h = tt

coded-plain : (P : Term → Type 0) (c n : Term) → P c → P n → IsPlain P (coded_answer c n)
coded-plain P c (VarTerm n) h k = equal-plain P (VarTerm n) (IntTerm (pos (code_of c))) k refl
coded-plain P c (IntTerm z) h k = by (is_character_code (IntTerm z))
  where
    by : (b : Bool) → IsPlain P (cond b (equal c (AtomTerm (code_of (IntTerm z) ∷ []))) (Err no_code))
    by true = equal-plain P c (AtomTerm (code_of (IntTerm z) ∷ [])) h refl
    by false = tt
coded-plain P c (AtomTerm a) h k = tt
coded-plain P c (Compound f ts) h k = tt

pub code-plain : (P : Term → Type 0) (c n : Term) → P c → P n → IsPlain P (char_code_answer c n)
code-plain P c n h k = by (is_variable c && is_variable n) (is_variable c || is_character c)
  where
    by : (a b : Bool) → IsPlain P (cond a (Err instantiation_error) (cond b (coded_answer c n) (Err (type_error (codes "character") c))))
    by true b = tt
    by false true = coded-plain P c n h k
    by false false = tt

pub items-plain : (P : Term → Type 0) (l : Term) (form : ListForm) (answer : List Term → Answer) → ((ts : List Term) → IsPlain P (answer ts)) → IsPlain P (with_list l form answer)
items-plain P l (PartialList ts) answer h = tt
items-plain P l NoList answer h = tt
items-plain P l (ProperList ts) answer h = each-plain P is_bound (λ t. instantiation_error) ts (answer ts) (h ts)

pub text-plain : (P : Term → Type 0) (by : CharacterList) (ts : List Term) (answer : List ℕ → Answer) → ((cs : List ℕ) → IsPlain P (answer cs)) → IsPlain P (with_text by ts answer)
text-plain P ByCharacters ts answer h = each-plain P is_character (type_error (codes "character")) ts (answer (map code_of ts)) (h (map code_of ts))
text-plain P ByCodes ts answer h =
    each-plain P is_integer (type_error (codes "integer")) ts (with_each is_character_code (λ t. no_code) ts (answer (map code_of ts))) (each-plain P is_character_code (λ t. no_code) ts (answer (map code_of ts)) (h (map code_of ts)))

pub item_for-ground : (by : CharacterList) (c : ℕ) → IsGround (item_for by c)
item_for-ground ByCharacters c = refl
item_for-ground ByCodes c = refl

pub spelling-plain : (P : Term → Type 0) (by : CharacterList) (t l : Term) → P t → P l → IsPlain P (spelling_answer by t l)
spelling-plain P by (VarTerm n) l h k =
    items-plain P l (list_form l) (λ ts. with_text by ts (λ cs. equal (VarTerm n) (AtomTerm cs))) (λ ts. text-plain P by ts (λ cs. equal (VarTerm n) (AtomTerm cs)) (λ cs. equal-plain P (VarTerm n) (AtomTerm cs) h refl))
spelling-plain P by (IntTerm z) l h k = tt
spelling-plain P by (AtomTerm a) l h k = equal-plain P l (list_term (map (item_for by) a)) k (items-ground (item_for by) (item_for-ground by) a)
spelling-plain P by (Compound f ts) l h k = tt

pub atom_goals-below : Each IsRowBelow atom_goals
atom_goals-below = (
  row-below (codes "atom_length") 2 (λ ts next. atom_length_answer (term_at 0 ts) (term_at 1 ts)) (λ ts next n h. plain-below next (atom_length_answer (term_at 0 ts) (term_at 1 ts)) (length-plain (IsTermBelow next) (term_at 0 ts) (term_at 1 ts) (term-below 1 next ts (omega arith) h))),
  (
    row-below (codes "char_code") 2 (λ ts next. char_code_answer (term_at 0 ts) (term_at 1 ts)) (λ ts next n h. plain-below next (char_code_answer (term_at 0 ts) (term_at 1 ts)) (code-plain (IsTermBelow next) (term_at 0 ts) (term_at 1 ts) (term-below 0 next ts (omega arith) h) (term-below 1 next ts (omega arith) h))),
    (item_for-below (codes "atom_chars") ByCharacters, (item_for-below (codes "atom_codes") ByCodes, tt)),
  ),
)
  where
    item_for-below : (name : List ℕ) (by : CharacterList) → IsRowBelow (predicate name 2 (λ ts next. spelling_answer by (term_at 0 ts) (term_at 1 ts)))
    item_for-below name by =
        row-below name 2 (λ ts next. spelling_answer by (term_at 0 ts) (term_at 1 ts)) (λ ts next n h. plain-below next (spelling_answer by (term_at 0 ts) (term_at 1 ts)) (spelling-plain (IsTermBelow next) by (term_at 0 ts) (term_at 1 ts) (term-below 0 next ts (omega arith) h) (term-below 1 next ts (omega arith) h)))
