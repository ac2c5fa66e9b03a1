use Rattle.std.proofs.Common.{◌≡◌, ℕ, true, false, ◌&&◌, ◌==◌, nat_eq, List, [], ◌∷◌, Option, Some, None, sym, ap, ◌∙◌, refl}
use Rattle.std.specs.Str.{chars}
use Rattle.std.specs.Str.Iter.{chars_rest}
use Rattle.std.specs.List.{slice_get}
use Rattle.std.proofs.lemmas.Str.{chars_past_char}
use Rattle.au_model.specs.Writing.NameForms.{begins_comment}
use Rattle.term_writer.proofs.names.begins_comment.Goals as goal

second_is : (cs : List ℕ) (c d : ℕ) → c ≡ 47 → Some d ≡ slice_get cs 0 → nat_eq d 42 ≡ begins_comment (c ∷ cs)
second_is [] c d e h = cc
second_is (b ∷ cs) c d e h = let same : d ≡ b = cc in rw (e, same) refl

none_second : (cs : List ℕ) (c : ℕ) (r : Option ℕ) → r ≡ None → r ≡ slice_get cs 0 → false ≡ begins_comment (c ∷ cs)
none_second [] c r e h = elim (c == 47) as (λ b. false ≡ (b && false)) [ true ↦ refl | false ↦ refl ]
none_second (b ∷ cs) c r e h = cc

pub returns-then-first-eq47 : goal.returns-then-first-eq47
returns-then-first-eq47 c =
    let name = c.args.name.now in
    let rest = chars_rest c.next.new.self in
    let front = chars_past_char name rest c.in-Some.first c.utf8.name (sym c.chars-characters.ensures.rest ∙ c.in-Some.ensures.steps.0) in
    second_is (chars rest) c.in-Some.first c.in-Some-next.second c.if-first-eq47.true (sym c.in-Some-next.is ∙ c.next-2.ensures.steps.2) ∙ ap begins_comment (sym front)

pub returns-in-None : goal.returns-in-None
returns-in-None c =
    let name = c.args.name.now in
    let rest = chars_rest c.next.new.self in
    let front = chars_past_char name rest c.in-Some.first c.utf8.name (sym c.chars-characters.ensures.rest ∙ c.in-Some.ensures.steps.0) in
    none_second (chars rest) c.in-Some.first c.next-2.result c.in-None.is c.next-2.ensures.steps.2 ∙ ap begins_comment (sym front)
