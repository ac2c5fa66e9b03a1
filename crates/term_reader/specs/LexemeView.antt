-- What the reader's own types stand for.
use Rattle.std.specs.Prelude.{◌≡◌, ◌≤◌, ◌^◌, ℕ, suc, true, List, codes, IsCharBoundary}
use Rattle.au_model.specs.Syntax.Characters.{chars_from}
use Rattle.au_model.specs.Syntax.Tokens as words
use Rattle.au_model.specs.Syntax.Tokens.{token, Scanned, ScannedTo, ScannedNone}
use Rattle.au_model.specs.Syntax.PostOperators.{PostOperator, Infix, Postfix, Nothing}
use Rattle.op_table.specs.OperatorView.{operator_meant}
use Rattle.au_model.specs.Syntax.Layout.{GapThen, after_layout}
use Rattle.au_model.specs.Syntax.Words.{next_word}
use Rattle.au_model.specs.Syntax.TermTexts.{is_over}
use Rattle.token_scan.specs.NextToken.{IsTokenFault}
use Rattle.token_scan.specs.ScannedParts.{IsPlaceFrom}
use Rattle.term_reader.specs.declared.post_operator.PostOperator.{PostOperator as DeclaredPostOperator}
use Rattle.term_reader.specs.declared.post_operator.PostOperator.TheVariants.{Infix as PostOperatorInfix, Postfix as PostOperatorPostfix, Nothing as PostOperatorNothing}
use Rattle.term_reader.specs.declared.lexeme.Lexeme.{Lexeme}
use Rattle.term_reader.specs.declared.lexeme.Lexeme.TheVariants.{Name, QuotedName, Variable, Integer, Text, Open, Close, OpenList, CloseList, OpenCurly, CloseCurly, Comma, Bar, End}
use Rattle.term_reader.specs.declared.lexeme.Scan.{Scan}
use Rattle.term_reader.specs.declared.lexeme.Scan.TheVariants.{Found, Bad, EndOfText}

abbrev pub lexeme_meant : Lexeme → words.Lexeme
lexeme_meant (Name n) = words.Name n
lexeme_meant (QuotedName n) = words.QuotedName n
lexeme_meant (Variable n) = words.Variable n
lexeme_meant (Integer k) = words.Integer k
lexeme_meant (Text cs) = words.Text cs
lexeme_meant Open = words.Open
lexeme_meant Close = words.Close
lexeme_meant OpenList = words.OpenList
lexeme_meant CloseList = words.CloseList
lexeme_meant OpenCurly = words.OpenCurly
lexeme_meant CloseCurly = words.CloseCurly
lexeme_meant Comma = words.Comma
lexeme_meant Bar = words.Bar
lexeme_meant End = words.End

-- what a scan of a text found
abbrev pub scan_meant : List ℕ → Scan → Scanned
scan_meant text (Found t) = ScannedTo (token t.apart (lexeme_meant t.lexeme)) (chars_from text t.end)
scan_meant text (Bad e) = ScannedNone
scan_meant text EndOfText = ScannedNone

-- 9223372036854775808 is the greatest
abbrev pub IsNarrow : Lexeme → Type 0
IsNarrow (Integer k) = k ≤ 2 ^ 63
IsNarrow _ = Unit {0}

-- it starts here, after the layout
abbrev pub IsStart : List ℕ → ℕ → ℕ → Type 0
IsStart text at start = IsCharBoundary text start × (after_layout (chars_from text at) ≡ GapThen (chars_from text start))

-- the token ends after this place; the faulty token's fault; or nothing but layout is left
abbrev pub IsScan : List ℕ → ℕ → Scan → Type 0
IsScan text at (Found t) = IsPlaceFrom text (suc at) t.end × IsNarrow t.lexeme × IsStart text at t.start
IsScan text at (Bad e) = IsTokenFault (next_word (chars_from text at)) text at e
IsScan text at EndOfText = is_over (chars_from text at) ≡ true

-- what a token after an operand of this name joins it to
abbrev pub post_operator_meant : List ℕ → DeclaredPostOperator → PostOperator
post_operator_meant n (PostOperatorInfix o) = Infix n (operator_meant o)
post_operator_meant n (PostOperatorPostfix o) = Postfix n (operator_meant o)
post_operator_meant n PostOperatorNothing = Nothing

-- the name of an operator that is no prefix one
abbrev pub post_operator_name : words.Lexeme → List ℕ
post_operator_name (words.Name n) = n
post_operator_name (words.QuotedName n) = n
post_operator_name _ = codes ","
