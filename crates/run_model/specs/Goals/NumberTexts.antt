-- Numbers and their texts (ISO/IEC 13211-1, 8.16.7 and 8.16.8): a text is that of a number where it is layout, a sign
-- or none, and an integer of the syntax.
use Rattle.std.specs.Prelude.{ℕ, zero, suc, ◌^◌, nat_lt, ℤ, pos, negsuc, if◌then◌else◌, List, [], ◌∷◌, map, Option, Some, None, option_map, option_and_then, codes, Err}
use Rattle.std.specs.List.{list_all}
use Rattle.std.specs.Fmt.{signed_decimal}
use Rattle.au_term.specs.Term.{Term, IntTerm, term_at}
use Rattle.au_model.specs.Syntax.Layout.{begins_layout}
use Rattle.au_model.specs.Syntax.Words.{Word, NameWord, IntegerWord, Lexed, FoundWord, FoundFault, next_word}
use Rattle.au_model.specs.Terms.Forms.{same_name, list_term}
use Rattle.au_model.specs.Terms.ErrorTerms.{instantiation_error, type_error, syntax_error}
use Rattle.run_model.specs.Goals.Control.{Construct}
use Rattle.run_model.specs.Goals.BuiltinAnswers.{Answer, equal, predicate}
use Rattle.run_model.specs.Goals.ListForms.{ListForm, ProperList, NoList, list_form}
use Rattle.run_model.specs.Goals.AtomGoals.{with_each, is_bound, is_open_integer, CharacterList, ByCharacters, ByCodes, item_for, with_text}

-- an integer with nothing after it
abbrev pub last_integer : Word → List ℕ → Option ℕ
last_integer (IntegerWord n) [] = Some n
last_integer w rest = None

-- the greatest integer is 9223372036854775807
abbrev pub without_sign : ℕ → Option ℤ
without_sign n = if nat_lt n (2 ^ 63) then Some (pos n) else None

abbrev pub negated_number : ℕ → ℤ
negated_number zero = pos 0
negated_number (suc n) = negsuc n

-- digits directly after a sign
abbrev pub number_after_sign : Lexed → Option ℤ
number_after_sign (FoundWord w rest) = option_map negated_number (last_integer w rest)
number_after_sign (FoundFault k from) = None

abbrev pub number_read : Word → List ℕ → Option ℤ
number_read (NameWord cs) rest = if same_name cs (codes "-") then (if begins_layout rest then None else number_after_sign (next_word rest)) else None
number_read w rest = option_and_then without_sign (last_integer w rest)

abbrev pub number_found : Lexed → Option ℤ
number_found (FoundWord w rest) = number_read w rest
number_found (FoundFault k from) = None

-- the number whose text this is
abbrev pub number_in_text : List ℕ → Option ℤ
number_in_text cs = number_found (next_word cs)

abbrev pub numbered_answer : Term → Option ℤ → Answer
numbered_answer n (Some z) = equal n (IntTerm z)
numbered_answer n None = Err (syntax_error (codes "illegal_number"))

-- the list of an integer's text
abbrev pub written_answer : CharacterList → Term → Term → ListForm → Answer
written_answer by (IntTerm z) l NoList = Err (type_error (codes "list") l)
written_answer by (IntTerm z) l form = equal l (list_term (map (item_for by) (signed_decimal z)))
written_answer by n l form = Err instantiation_error

-- a list without variable items is read; in place of any other the text is written
abbrev pub number_text : CharacterList → Term → Term → ListForm → Answer
number_text by n l (ProperList ts) = if list_all is_bound ts then with_text by ts (λ cs. numbered_answer n (number_in_text cs)) else written_answer by n l (ProperList ts)
number_text by n l form = written_answer by n l form

-- number_chars(N, L) and number_codes(N, L)
abbrev pub number_text_answer : CharacterList → Term → Term → Answer
number_text_answer by n l = with_each is_open_integer (type_error (codes "integer")) (n ∷ []) (number_text by n l (list_form l))

abbrev pub number_goals : List Construct
number_goals =
    predicate (codes "number_chars") 2 (λ ts next. number_text_answer ByCharacters (term_at 0 ts) (term_at 1 ts))
    ∷ predicate (codes "number_codes") 2 (λ ts next. number_text_answer ByCodes (term_at 0 ts) (term_at 1 ts))
    ∷ []
