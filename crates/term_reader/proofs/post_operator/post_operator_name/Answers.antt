use Rattle.std.proofs.Common.{◌≡◌, List, ℕ, IfOk, codes, refl, subst}
use Rattle.term_reader.specs.LexemeView.{post_operator_name, lexeme_meant}
use Rattle.term_reader.specs.declared.lexeme.Lexeme.{Lexeme}
use Rattle.term_reader.specs.declared.lexeme.Lexeme.TheVariants as lex
use Rattle.term_reader.proofs.post_operator.post_operator_name.Goals as goal

other_name : (x : Lexeme) → ((n : List ℕ) → x ≡ lex.Name n → ⊥) → ((n : List ℕ) → x ≡ lex.QuotedName n → ⊥) → codes "," ≡ post_operator_name (lexeme_meant x)
other_name (lex.Name n) a b = absurd (a n refl)
other_name (lex.QuotedName n) a b = absurd (b n refl)
other_name x a b = refl

pub returns : goal.returns
returns c = subst (λ ds. IfOk c.ascii.result (λ a. a ≡ ds)) (other_name c.args.lexeme c.in_default.not-Name c.in_default.not-QuotedName) c.ascii.ensures
