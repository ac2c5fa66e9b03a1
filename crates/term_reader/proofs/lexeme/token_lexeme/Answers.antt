use Rattle.std.proofs.Common.{◌∙◌}
use Rattle.token_scan.specs.NextToken.{word_of}
use Rattle.term_reader.proofs.LexemeLemmas.{name-lexeme, variable-lexeme}
use Rattle.term_reader.proofs.lexeme.token_lexeme.Goals as goal

pub returns-in_ok-new-in-Name-clause-lexeme : goal.returns-in_ok-new-in-Name-clause-lexeme
returns-in_ok-new-in-Name-clause-lexeme c =
    name-lexeme (word_of c.args.text.now c.args.token.now) c.in_ok-new-in-Name.field-0 c.args.token.now.kind c.requires.kind c.in-Name.is (c.in_ok-new-in-Name.ensures ∙ c.spelling.ensures)

pub returns-in_ok-new-in-Variable-clause-lexeme : goal.returns-in_ok-new-in-Variable-clause-lexeme
returns-in_ok-new-in-Variable-clause-lexeme c =
    variable-lexeme (word_of c.args.text.now c.args.token.now) c.in_ok-new-in-Variable.field-0 c.args.token.now.kind c.requires.kind c.in-Variable.is (c.in_ok-new-in-Variable.ensures ∙ c.spelling-in-Variable.ensures)
