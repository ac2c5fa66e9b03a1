use Rattle.std.proofs.Common.{ap, arith}
use Rattle.au_model.specs.Syntax.Characters.{chars_from}
use Rattle.au_model.specs.Syntax.Words.{quoted_word, QuotedWord}
use Rattle.token_scan.specs.ScannedParts.{quoted_rest}
use Rattle.token_scan.proofs.QuotedItemLemmas.{gone-character, gone-nothing, gone-closes, gone-wrong, gone-cut}
use Rattle.token_scan.proofs.quotes.quoted_end.Goals as goal

pub returns-in-Closes-clause-ok : goal.returns-in-Closes-clause-ok
returns-in-Closes-clause-ok c = ap quoted_rest (gone-closes _ _ _ _ _ c.parts.invariant.1.1 c.in-Closes.ensures.part)

pub returns-in-Wrong-clause-err : goal.returns-in-Wrong-clause-err
returns-in-Wrong-clause-err c = record {
  place = c.parts.invariant.0.1;
  from = omega (arith, c.parts.invariant.0.0, c.requires.boundary.0);
  fault = ap (quoted_word QuotedWord (chars_from c.args.text.now c.args.quote_at)) (gone-wrong _ _ _ _ c.parts.invariant.1.1 c.in-Wrong.ensures.part);
}

pub returns-in-Cut-clause-err : goal.returns-in-Cut-clause-err
returns-in-Cut-clause-err c = record {
  place = c.requires.first;
  from = omega arith;
  fault = ap (quoted_word QuotedWord (chars_from c.args.text.now c.args.quote_at)) (gone-cut _ _ _ _ c.parts.invariant.1.1 c.in-Cut.ensures.part);
}

pub parts-preserved-in-Character : goal.parts-preserved-in-Character
parts-preserved-in-Character c = (
  (omega (arith, c.parts.invariant.0.0, c.in-Character.ensures.place.0), c.in-Character.ensures.place.1),
  (_, gone-character _ _ _ _ _ _ c.parts.invariant.1.1 c.in-Character.ensures.part),
)

pub parts-preserved : goal.parts-preserved
parts-preserved c = (
  (omega (arith, c.parts.invariant.0.0, c.in-Character.ensures.place.0), c.in-Character.ensures.place.1),
  (_, gone-nothing _ _ _ _ _ c.parts.invariant.1.1 c.in-Character.ensures.part),
)
