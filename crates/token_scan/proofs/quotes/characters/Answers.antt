use Rattle.std.proofs.Common.{◌≡◌, ◌∙◌, ap, sym, arith, [], subst, inl, inr}
use Rattle.std.specs.Str.{chars}
use Rattle.std.specs.String.{string_bytes}
use Rattle.std.proofs.lemmas.Str.{chars-nil}
use Rattle.au_model.specs.Syntax.Characters.{chars_from}
use Rattle.token_scan.specs.ScannedParts.{quoted_characters, quoted_part_of}
use Rattle.token_scan.proofs.QuotedItemLemmas.{Gone, gone-start, gone-character, gone-nothing, gone-closes, closed-wrong, closed-cut}
use Rattle.token_scan.proofs.quotes.characters.Goals as goal

pub parts-init : goal.parts-init
parts-init c =
    let none : chars (string_bytes c.new-value.result) ≡ [] = ap chars c.new-value.ensures.bytes ∙ chars-nil in (
      (omega arith, c.requires.boundary),
      subst (λ ds. Gone c.args.quote (chars_from c.args.text.now c.args.at) ds (chars_from c.args.text.now c.args.at)) (sym none) (gone-start _ _),
    )

pub parts-preserved-in-Character : goal.parts-preserved-in-Character
parts-preserved-in-Character c = (
  (omega (arith, c.parts.invariant.0.0, c.in-Character.ensures.place.0), c.in-Character.ensures.place.1),
  subst (λ ds. Gone c.args.quote (chars_from c.args.text.now c.args.at) ds (chars_from c.args.text.now c.in-Character.end)) (sym c.in_ok-put-in-Character.ensures)
      (gone-character _ _ _ _ _ _ c.parts.invariant.1 c.in-Character.ensures.part),
)

pub parts-preserved : goal.parts-preserved
parts-preserved c = (
  (omega (arith, c.parts.invariant.0.0, c.in-Skips.ensures.place.0), c.in-Skips.ensures.place.1),
  gone-nothing _ _ _ _ _ c.parts.invariant.1 c.in-Skips.ensures.part,
)

pub returns-in-Closes : goal.returns-in-Closes
returns-in-Closes c = sym (ap quoted_characters (gone-closes _ _ _ _ _ c.parts.invariant.1 c.in-Closes.ensures.part))

pub unreachable-requires : goal.unreachable-requires
unreachable-requires c = elim c.in-Wrong.is [
  | inl e ↦ closed-wrong _ _ _ _ c.parts.invariant.1 c.requires.closed (c.part.ensures.part ∙ ap (quoted_part_of c.args.text.now) e)
  | inr e ↦ closed-cut _ _ _ _ c.parts.invariant.1 c.requires.closed (c.part.ensures.part ∙ ap (quoted_part_of c.args.text.now) e)
]
