-- Texts read from the items of a list.
use Rattle.std.specs.Prelude.{◌≡◌, ℕ, ℤ, Bool, if◌then◌else◌, Option, None, List, map, Result, Ok, Err, String, string_bytes, codes}
use Rattle.std.specs.Str.{chars}
use Rattle.std.specs.Global.{Global}
use Rattle.au_term.specs.Term.{Term}
use Rattle.au_model.specs.Syntax.Characters.{chars_from}
use Rattle.au_model.specs.Syntax.Layout.{begins_layout}
use Rattle.token_scan.specs.NextToken.{word_of}
use Rattle.token_scan.specs.declared.token.Token.{Token}
use Rattle.au_model.specs.Syntax.Words.{next_word}
use Rattle.au_model.specs.Terms.ErrorTerms.{type_error}
use Rattle.au_model.specs.Terms.Faults.{error_term_of}
use Rattle.run_model.specs.Goals.BuiltinAnswers.{Answer}
use Rattle.run_model.specs.Goals.AtomGoals.{with_each, code_of, is_character, is_character_code, no_code}
use Rattle.run_model.specs.Goals.NumberTexts.{number_after_sign, number_read}
use Rattle.std_builtins.specs.declared.answer.BuiltinRefusal.{BuiltinRefusal}
use Rattle.std_builtins.specs.declared.answer.BuiltinRefusal.TheVariants.{Fault, NoMemory}
use Rattle.std_builtins.specs.declared.spelling.Spelling.{Spelling}
use Rattle.std_builtins.specs.declared.spelling.Spelling.TheVariants as by
use Rattle.au_model.specs.Syntax.Characters.{chars_from}
use Rattle.token_scan.specs.NextToken.{word_of}
use Rattle.token_scan.specs.declared.token.Token.{Token}

abbrev pub item_test : Spelling → Term → Bool
item_test by.Characters t = is_character t
item_test by.Codes t = is_character_code t

abbrev pub item_error : Spelling → Term → Term
item_error by.Characters t = type_error (codes "character") t
item_error by.Codes t = no_code

-- items read one after another
abbrev pub AreItemsRead : Spelling → List Term → Result (String Global) BuiltinRefusal → Type 0
AreItemsRead s ts (Ok text) = ((a : Answer) → with_each (item_test s) (item_error s) ts a ≡ a) × (chars (string_bytes text) ≡ map code_of ts)
AreItemsRead s ts (Err (Fault fault)) = (a : Answer) → with_each (item_test s) (item_error s) ts a ≡ Err (error_term_of fault)
AreItemsRead s ts (Err NoMemory) = Unit {0}

-- an answer that waits for a text has it, or is an error
abbrev pub IsTextOfItems : Answer → (List ℕ → Answer) → Result (String Global) BuiltinRefusal → Type 0
IsTextOfItems waiting answer (Ok text) = waiting ≡ answer (chars (string_bytes text))
IsTextOfItems waiting answer (Err (Fault fault)) = waiting ≡ Err (error_term_of fault)
IsTextOfItems waiting answer (Err NoMemory) = Unit {0}

-- the number whose digits begin a text
abbrev pub unsigned_number : List ℕ → Option ℤ
unsigned_number cs = if begins_layout cs then None else number_after_sign (next_word cs)

-- the number whose text begins with a token
abbrev pub number_from : List ℕ → Token → Option ℤ
number_from text t = number_read (word_of text t) (chars_from text t.end)
