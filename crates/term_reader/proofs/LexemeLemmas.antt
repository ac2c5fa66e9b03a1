-- What the kind of a token says of its word.
use Rattle.std.proofs.Common.{◌≡◌, ℕ, List, Some, ap}
use Rattle.au_model.specs.Syntax.Tokens as words
use Rattle.au_model.specs.Syntax.Tokens.{lexeme_of}
use Rattle.au_model.specs.Syntax.Words.{Word, NameWord, QuotedWord, VariableWord, IntegerWord, TextWord, MarkWord, StopWord, LastWord, word_characters}
use Rattle.token_scan.specs.NextToken.{kind_of}
use Rattle.token_scan.specs.declared.token.TokenKind.{TokenKind}
use Rattle.token_scan.specs.declared.token.TokenKind.TheVariants.{Name, Variable}

pub name-lexeme : (w : Word) (cs : List ℕ) (k : TokenKind) → k ≡ kind_of w → k ≡ Name → cs ≡ word_characters w → Some (words.Name cs) ≡ lexeme_of w
name-lexeme (NameWord ds) cs k e h f = ap (λ x. Some (words.Name x)) f
name-lexeme (QuotedWord ds) cs k e h f = let g : ⊥ = cc in absurd g
name-lexeme (VariableWord ds) cs k e h f = let g : ⊥ = cc in absurd g
name-lexeme (IntegerWord n) cs k e h f = let g : ⊥ = cc in absurd g
name-lexeme (TextWord ds) cs k e h f = let g : ⊥ = cc in absurd g
name-lexeme (MarkWord c) cs k e h f = let g : ⊥ = cc in absurd g
name-lexeme StopWord cs k e h f = let g : ⊥ = cc in absurd g
name-lexeme LastWord cs k e h f = let g : ⊥ = cc in absurd g

pub variable-lexeme : (w : Word) (cs : List ℕ) (k : TokenKind) → k ≡ kind_of w → k ≡ Variable → cs ≡ word_characters w → Some (words.Variable cs) ≡ lexeme_of w
variable-lexeme (NameWord ds) cs k e h f = let g : ⊥ = cc in absurd g
variable-lexeme (QuotedWord ds) cs k e h f = let g : ⊥ = cc in absurd g
variable-lexeme (VariableWord ds) cs k e h f = ap (λ x. Some (words.Variable x)) f
variable-lexeme (IntegerWord n) cs k e h f = let g : ⊥ = cc in absurd g
variable-lexeme (TextWord ds) cs k e h f = let g : ⊥ = cc in absurd g
variable-lexeme (MarkWord c) cs k e h f = let g : ⊥ = cc in absurd g
variable-lexeme StopWord cs k e h f = let g : ⊥ = cc in absurd g
variable-lexeme LastWord cs k e h f = let g : ⊥ = cc in absurd g
