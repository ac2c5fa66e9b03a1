use Rattle.std.proofs.Common.{◌∙◌, IfSome, option_map, sym, ap, subst, arith}
use Rattle.term_reader.specs.LexemeView.{lexeme_meant, IsNarrow}
use Rattle.term_reader.proofs.FirstTokenLemmas.{next-scanned, ends-after}
use Rattle.term_reader.proofs.WholeReadingLemmas.{over-none}
use Rattle.term_reader.proofs.lexeme.found_at.Goals as goal

pub returns-in-Some-clause-place : goal.returns-in-Some-clause-place
returns-in-Some-clause-place c =
    let n = c.requires in
    let found = ap (option_map lexeme_meant) (sym c.in-Some.is) ∙ c.in_ok-lexeme.ensures.lexeme in
    let e = next-scanned c.args.text.now c.args.at c.args.token (lexeme_meant c.in-Some.lexeme) n (sym found) in
    let lt = ends-after c.args.text.now c.args.at c.args.token.end _ e (omega (arith, n.from, n.token.order)) in
    ((omega (arith, lt), n.token.last), subst (λ o. IfSome o (λ l. IsNarrow l)) c.in-Some.is c.in_ok-lexeme.ensures.narrow, (n.token.first, n.layout))

pub returns-in-None-clause-place : goal.returns-in-None-clause-place
returns-in-None-clause-place c =
    over-none c.args.text.now c.args.at c.args.token c.requires (sym (ap (option_map lexeme_meant) (sym c.in-None.is) ∙ c.in_ok-lexeme.ensures.lexeme))
