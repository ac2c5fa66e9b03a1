-- The answers of goals on texts of numbers have no new variables.
use Rattle.std.proofs.Common.{ℕ, Bool, true, false, ℤ, cond, List, [], ◌∷◌, map, Option, Some, None, refl, arith}
use Rattle.std.specs.Prelude.{codes}
use Rattle.std.specs.List.{list_all}
use Rattle.std.specs.Fmt.{signed_decimal}
use Rattle.au_term.specs.Term.{Term, VarTerm, IntTerm, AtomTerm, Compound, term_at}
use Rattle.au_model.specs.Terms.Each.{Each}
use Rattle.au_model.specs.Terms.Forms.{list_term}
use Rattle.au_model.specs.Terms.ErrorTerms.{type_error}
use Rattle.run_model.specs.Laws.Numbering.{IsTermBelow}
use Rattle.run_model.specs.Goals.BuiltinAnswers.{predicate}
use Rattle.run_model.specs.Goals.ListForms.{ListForm, ProperList, PartialList, NoList, list_form}
use Rattle.run_model.specs.Goals.AtomGoals.{is_bound, is_open_integer, CharacterList, ByCharacters, ByCodes, item_for, with_text}
use Rattle.run_model.specs.Goals.NumberTexts.{number_in_text, numbered_answer, written_answer, number_text, number_text_answer, number_goals}
use Rattle.run_model.proofs.AnswerBoundLemmas.{row-below}
use Rattle.run_model.proofs.BuiltinRowBoundLemmas.{IsRowBelow, term-below}
use Rattle.run_model.proofs.PlainAnswerLemmas.{IsPlain, equal-plain, each-plain, items-ground, plain-below}
use Rattle.run_model.proofs.AtomGoalPlainLemmas.{text-plain, item_for-ground}

numbered-plain : (P : Term → Type 0) (n : Term) (o : Option ℤ) → P n → IsPlain P (numbered_answer n o)
numbered-plain P n (Some z) h = equal-plain P n (IntTerm z) h refl
numbered-plain P n None h = tt

written-plain : (P : Term → Type 0) (by : CharacterList) (n l : Term) (form : ListForm) → P l → IsPlain P (written_answer by n l form)
written-plain P by (VarTerm m) l form h = tt
written-plain P by (AtomTerm a) l form h = tt
written-plain P by (Compound f ts) l form h = tt
written-plain P by (IntTerm z) l NoList h = tt
written-plain P by (IntTerm z) l (ProperList ts) h = equal-plain P l (list_term (map (item_for by) (signed_decimal z))) h (items-ground (item_for by) (item_for-ground by) (signed_decimal z))
written-plain P by (IntTerm z) l (PartialList ts) h = equal-plain P l (list_term (map (item_for by) (signed_decimal z))) h (items-ground (item_for by) (item_for-ground by) (signed_decimal z))

number-plain : (P : Term → Type 0) (by : CharacterList) (n l : Term) (form : ListForm) → P n → P l → IsPlain P (number_text by n l form)
number-plain P by n l (PartialList ts) h k = written-plain P by n l (PartialList ts) k
number-plain P by n l NoList h k = written-plain P by n l NoList k
number-plain P by n l (ProperList ts) h k = either (list_all is_bound ts)
  where
    either : (b : Bool) → IsPlain P (cond b (with_text by ts (λ cs. numbered_answer n (number_in_text cs))) (written_answer by n l (ProperList ts)))
    either true = text-plain P by ts (λ cs. numbered_answer n (number_in_text cs)) (λ cs. numbered-plain P n (number_in_text cs) h)
    either false = written-plain P by n l (ProperList ts) k

pub number_text-plain : (P : Term → Type 0) (by : CharacterList) (n l : Term) → P n → P l → IsPlain P (number_text_answer by n l)
number_text-plain P by n l h k = each-plain P is_open_integer (type_error (codes "integer")) (n ∷ []) (number_text by n l (list_form l)) (number-plain P by n l (list_form l) h k)

pub number_goals-below : Each IsRowBelow number_goals
number_goals-below = (text-below (codes "number_chars") ByCharacters, (text-below (codes "number_codes") ByCodes, tt))
  where
    text-below : (name : List ℕ) (by : CharacterList) → IsRowBelow (predicate name 2 (λ ts next. number_text_answer by (term_at 0 ts) (term_at 1 ts)))
    text-below name by =
        row-below name 2 (λ ts next. number_text_answer by (term_at 0 ts) (term_at 1 ts)) (λ ts next n h. plain-below next (number_text_answer by (term_at 0 ts) (term_at 1 ts)) (number_text-plain (IsTermBelow next) by (term_at 0 ts) (term_at 1 ts) (term-below 0 next ts (omega arith) h) (term-below 1 next ts (omega arith) h)))
