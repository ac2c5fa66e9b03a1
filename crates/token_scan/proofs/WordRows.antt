-- The words of single texts, computed from the definitions.
use Rattle.std.proofs.Common.{◌≡◌, ◌∷◌, ◌++◌, [], map, codes, refl}
use Rattle.ucd_category.proofs.Computing.{ucd_category}
use Rattle.ucd_derived.proofs.Computing.{ucd_derived}
use Rattle.au_model.specs.Syntax.Layout.{after_layout}
use Rattle.au_model.specs.Syntax.Quoted.{quoted}
use Rattle.au_model.specs.Syntax.Numerals.{numeral}
use Rattle.au_model.specs.Syntax.Words.{NameWord, QuotedWord, VariableWord, IntegerWord, TextWord, MarkWord, StopWord, LastWord, FoundWord, FoundFault, next_word}
use Rattle.au_model.specs.declared.types.FaultKind.TheVariants.{BadCharacter, BadEscape, UnclosedQuote, UnclosedComment, FloatNumeral, WideNumeral}

layout_and_comments : map next_word (codes " bar+" ∷ codes "/* */" ∷ codes "%c" ∷ codes "/* x" ∷ codes "./*c*/" ∷ codes ".%c" ∷ codes "." ∷ codes ".(" ∷ codes "+/*" ∷ [])
    ≡ FoundWord (NameWord (codes "bar")) (codes "+")
    ∷ FoundWord LastWord []
    ∷ FoundWord LastWord []
    ∷ FoundFault UnclosedComment (codes "/* x")
    ∷ FoundWord (NameWord (codes "./*")) (codes "c*/")
    ∷ FoundWord StopWord (codes "%c")
    ∷ FoundWord StopWord []
    ∷ FoundWord (NameWord (codes ".")) (codes "(")
    ∷ FoundWord (NameWord (codes "+/*")) []
    ∷ []
unfolding after_layout ucd_category ucd_derived
layout_and_comments = refl

-- É, é, a Roman numeral, a letter of category Lt, a digit of category Nd in a name and alone, a byte order mark
letters : map next_word (codes "X_1-" ∷ codes "_" ∷ (201 ∷ []) ∷ (233 ∷ []) ∷ (0x2167 ∷ []) ∷ (0x1C5 ∷ []) ∷ (97 ∷ 0x663 ∷ []) ∷ (0x663 ∷ []) ∷ (0xFEFF ∷ []) ∷ codes "`" ∷ codes "||" ∷ codes "!;" ∷ [])
    ≡ FoundWord (VariableWord (codes "X_1")) (codes "-")
    ∷ FoundWord (VariableWord (codes "_")) []
    ∷ FoundWord (VariableWord (201 ∷ [])) []
    ∷ FoundWord (NameWord (233 ∷ [])) []
    ∷ FoundWord (NameWord (0x2167 ∷ [])) []
    ∷ FoundWord (VariableWord (0x1C5 ∷ [])) []
    ∷ FoundWord (NameWord (97 ∷ 0x663 ∷ [])) []
    ∷ FoundFault BadCharacter (0x663 ∷ [])
    ∷ FoundFault BadCharacter (0xFEFF ∷ [])
    ∷ FoundFault BadCharacter (codes "`")
    ∷ FoundWord (MarkWord 124) (codes "|")
    ∷ FoundWord (NameWord (codes "!")) (codes ";")
    ∷ []
unfolding after_layout ucd_category ucd_derived
letters = refl

quoted_items : map next_word (codes "'a\\n'" ∷ codes "'it''s'." ∷ (codes "'a\\" ++ 10 ∷ codes "b'") ∷ codes "'\\x41\\\\101\\'" ∷ codes "\"'\"" ∷ [])
    ≡ FoundWord (QuotedWord (97 ∷ 10 ∷ [])) []
    ∷ FoundWord (QuotedWord (codes "it's")) (codes ".")
    ∷ FoundWord (QuotedWord (codes "ab")) []
    ∷ FoundWord (QuotedWord (codes "AA")) []
    ∷ FoundWord (TextWord (codes "'")) []
    ∷ []
unfolding after_layout quoted ucd_category ucd_derived
quoted_items = refl

quoted_faults : map next_word (codes "'ab" ∷ codes "'abc\\" ∷ (codes "'a" ++ 10 ∷ codes "b'") ∷ codes "'a\\q'" ∷ codes "'\\xd800\\'" ∷ codes "'\\x110000\\'" ∷ codes "'\\x\\'" ∷ [])
    ≡ FoundFault UnclosedQuote (codes "'ab")
    ∷ FoundFault UnclosedQuote (codes "'abc\\")
    ∷ FoundFault UnclosedQuote (codes "'a" ++ 10 ∷ codes "b'")
    ∷ FoundFault BadEscape (codes "\\q'")
    ∷ FoundFault BadEscape (codes "\\xd800\\'")
    ∷ FoundFault BadEscape (codes "\\x110000\\'")
    ∷ FoundFault BadEscape (codes "\\x\\'")
    ∷ []
unfolding after_layout quoted ucd_category ucd_derived
quoted_faults = refl

numerals : map next_word (codes "0x1F" ∷ codes "0b12" ∷ codes "0'a" ∷ codes "0'''" ∷ codes "0'\\n" ∷ codes "0''x" ∷ codes "0x" ∷ codes "007" ∷ codes "1.e" ∷ codes "9223372036854775808" ∷ [])
    ≡ FoundWord (IntegerWord 31) []
    ∷ FoundWord (IntegerWord 1) (codes "2")
    ∷ FoundWord (IntegerWord 97) []
    ∷ FoundWord (IntegerWord 39) []
    ∷ FoundWord (IntegerWord 10) []
    ∷ FoundWord (IntegerWord 0) (codes "''x")
    ∷ FoundWord (IntegerWord 0) (codes "x")
    ∷ FoundWord (IntegerWord 7) []
    ∷ FoundWord (IntegerWord 1) (codes ".e")
    ∷ FoundWord (IntegerWord 9223372036854775808) []
    ∷ []
unfolding after_layout numeral ucd_category ucd_derived
numerals = refl

numeral_faults : map next_word (codes "1.5" ∷ codes "9223372036854775809" ∷ codes "99999999999999999999.5" ∷ codes "0'\\q" ∷ [])
    ≡ FoundFault FloatNumeral (codes "1.5")
    ∷ FoundFault WideNumeral (codes "9223372036854775809")
    ∷ FoundFault FloatNumeral (codes "99999999999999999999.5")
    ∷ FoundFault BadEscape (codes "\\q")
    ∷ []
unfolding after_layout numeral ucd_category ucd_derived
numeral_faults = refl
