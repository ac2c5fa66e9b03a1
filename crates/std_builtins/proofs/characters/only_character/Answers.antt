use Rattle.std.proofs.Common.{◌≡◌, ℕ, false, List, [], ◌∷◌, Option, Some, None, refl, sym, ap, ◌∙◌}
use Rattle.std.specs.Str.{chars}
use Rattle.std.specs.Str.Iter.{chars_rest}
use Rattle.std.specs.List.{slice_get}
use Rattle.std.proofs.lemmas.Str.{chars_past_char}
use Rattle.au_term.specs.Term.{AtomTerm}
use Rattle.run_model.specs.Goals.AtomGoals.{is_character}
use Rattle.std_builtins.proofs.characters.only_character.Goals as goal

two_are : (cs : List ℕ) (c d : ℕ) → Some d ≡ slice_get cs 0 → is_character (AtomTerm (c ∷ cs)) ≡ false
two_are [] c d h = cc
two_are (b ∷ cs) c d h = refl

none_more : (cs : List ℕ) (r : Option ℕ) → r ≡ None → r ≡ slice_get cs 0 → cs ≡ []
none_more [] r e h = refl
none_more (b ∷ cs) r e h = cc

pub returns-in-Some-next : goal.returns-in-Some-next
returns-in-Some-next c =
    let text = c.args.text.now in
    let rest = chars_rest c.next.new.self in
    let front = chars_past_char text rest c.in-Some.first c.utf8.text (sym c.chars-characters.ensures.rest ∙ c.in-Some.ensures.steps.0) in
    ap (λ cs. is_character (AtomTerm cs)) front ∙ two_are (chars rest) c.in-Some.first c.in-Some-next.field-0 (sym c.in-Some-next.is ∙ c.next-2.ensures.steps.2)

pub returns-in-None : goal.returns-in-None
returns-in-None c =
    let text = c.args.text.now in
    let rest = chars_rest c.next.new.self in
    let front = chars_past_char text rest c.in-Some.first c.utf8.text (sym c.chars-characters.ensures.rest ∙ c.in-Some.ensures.steps.0) in
    front ∙ ap (λ cs. c.in-Some.first ∷ cs) (none_more (chars rest) c.next-2.result c.in-None.is c.next-2.ensures.steps.2)
