-- The note that the program prints of an ending.
use Rattle.std.specs.Prelude.{ℕ, List, [], ◌++◌, codes}
use Rattle.std.specs.Fmt.{decimal}
use Rattle.run_model.specs.declared.ending.Ending.{Ending}
use Rattle.run_model.specs.declared.ending.Ending.TheVariants.{Finished, Halted, Budget, Refused, TooLong, Usage, ReadFault, WriteFault, NoMemory}
use Rattle.au_model.specs.declared.types.FaultKind.{FaultKind}
use Rattle.au_model.specs.declared.types.FaultKind.TheVariants.{NotUtf8, BadCharacter, BadEscape, UnclosedQuote, UnclosedComment, FloatNumeral, WideNumeral, TooManyArguments, UnexpectedToken, UnexpectedEnd, BadClause, BadDirective, StaticTwice, Unbuilt}

abbrev pub kind_text : FaultKind → List ℕ
kind_text NotUtf8 = codes "not UTF-8"
kind_text BadCharacter = codes "character not allowed"
kind_text BadEscape = codes "bad escape"
kind_text UnclosedQuote = codes "quote not closed"
kind_text UnclosedComment = codes "comment not closed"
kind_text FloatNumeral = codes "floating-point numeral"
kind_text WideNumeral = codes "numeral too wide"
kind_text TooManyArguments = codes "too many arguments"
kind_text UnexpectedToken = codes "unexpected token"
kind_text UnexpectedEnd = codes "unexpected end"
kind_text BadClause = codes "not a clause"
kind_text BadDirective = codes "not a directive"
kind_text StaticTwice = codes "dynamic after clauses"
kind_text Unbuilt = codes "form not built yet"

abbrev pub refused_note : ℕ → ℕ → FaultKind → List ℕ
refused_note line column kind = codes "aurora: line " ++ decimal line ++ codes ", column " ++ decimal column ++ codes ": " ++ kind_text kind ++ codes "\n"

-- one line, or nothing where the run ended by itself
abbrev pub note_of : Ending → List ℕ
note_of Finished = []
note_of (Halted k) = []
note_of Budget = codes "aurora: stopped at the budget\n"
note_of (Refused line column kind) = refused_note line column kind
note_of TooLong = codes "aurora: the text has more than 16777216 bytes\n"
note_of (Usage kind) = codes "aurora: usage: aurora FILE BUDGET\n"
note_of ReadFault = codes "aurora: the text can't be read\n"
note_of WriteFault = codes "aurora: the output can't be written\n"
note_of NoMemory = codes "aurora: out of memory\n"
