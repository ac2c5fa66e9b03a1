use Rattle.std.proofs.Common.{◌≡◌, ◌∙◌, ap, ap₂, refl}
use Rattle.std.specs.Ordering.{nat_cmp}
use Rattle.std.specs.Cmp.Lexicographic.{slice_cmp}
use Rattle.std.specs.Str.Iter.{chars_rest}
use Rattle.std.proofs.lemmas.Iterator.{YieldsList-from_chars}
use Rattle.std.proofs.lemmas.Iterator.Search.{cmp_from_yields_List}
use Rattle.au_term.proofs.atom.AtomOrd.cmp.Goals as goal

pub returns : goal.returns
returns c =
    let same = cmp_from_yields_List (λ x y. y ≡ x) c.chars-2.result nat_cmp c.cmp.result c.cmp.ensures.ran (YieldsList-from_chars c.text.result.now c.text.utf8 c.chars.ensures.rest)
    (λ it e. YieldsList-from_chars c.text-2.result.now c.text-2.utf8 (ap chars_rest e ∙ c.chars-2.ensures.rest)) (λ x y. refl) in
    same ∙ ap₂ (slice_cmp nat_cmp) c.text.ensures c.text-2.ensures
