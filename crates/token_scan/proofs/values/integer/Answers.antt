use Rattle.au_model.specs.Syntax.Characters.{chars_from}
use Rattle.token_scan.proofs.WordLemmas.{is-found, integer_fits, integer_is}
use Rattle.token_scan.proofs.values.integer.Goals as goal

pub unreachable-requires : goal.unreachable-requires
unreachable-requires c =
    integer_fits c.args.text.now _ _ _ c.numeral.result (is-found _ _ _ _ c.requires.token.word c.requires.token.kind) c.requires.integer c.numeral.ensures.numeral c.in_default.not-Fits

pub returns-clause-number : goal.returns-clause-number
returns-clause-number c =
    integer_is (chars_from c.args.text.now c.args.token.now.start) _ _ _ c.in-Fits.number (is-found _ _ _ _ c.requires.token.word c.requires.token.kind) c.requires.integer c.in-Fits.ensures.numeral
