use Rattle.std.proofs.Common.{◌≡◌, ◌++◌, ◌∷◌, [], ◌==◌, cond, is_ok, length, false, Some, nat_cmp, ◌∙◌, ap, sym, arith}
use Rattle.std.specs.Cmp.{unsigned_tied}
use Rattle.std.specs.BTreeMap.{get}
use Rattle.std.specs.List.{list_any}
use Rattle.std.specs.Option.{option_copied}
use Rattle.au_model.specs.Terms.Copies.{place_of}
use Rattle.au_model.specs.Terms.CopiedCells.{place_among}
use Rattle.au_model.proofs.CopyLemmas.{among_more, not_among, last_place}
use Rattle.au_model.proofs.copies.Renaming.note.Goals as goal
use Rattle.au_model.proofs.copies.Renaming.note.Goals.{After-unwrap}

new_one : (c : After-unwrap) → list_any (λ m. m == c.args.variable) c.self.inside.seen.items ≡ false
new_one c = not_among c.self.inside.seen.items c.args.variable (sym (c.self.invariant c.args.variable) ∙ (sym c.get.ensures.value ∙ ap option_copied c.in_default.is))

pushed : (c : After-unwrap) → c.push.new.self.items ≡ c.self.inside.seen.items ++ c.args.variable ∷ []
pushed c = (c.push.ensures.items ∙ ap (λ r. cond (is_ok r) (c.reserve.new.self.items ++ c.args.variable ∷ []) c.reserve.new.self.items) c.unwrap.ensures) ∙ ap (λ xs. xs ++ c.args.variable ∷ []) c.in_ok-reserve.ensures.items

pub invariant_of-self-2 : goal.invariant_of-self-2
invariant_of-self-2 c =
    let old = c.self.inside.seen.items in
    let v = c.args.variable in
    let count : c.len-place.result ≡ length old = omega (arith, c.len-place.ensures, c.self.inside.seen.ok.0) in
    λ x. c.in_ok-insert.ensures.updates.0 x
    ∙ (ap (λ b. cond b (Some c.len-place.result) (get nat_cmp c.self.inside.places x)) (unsigned_tied v x)
    ∙ (ap (λ n. cond (v == x) (Some n) (get nat_cmp c.self.inside.places x)) count
    ∙ (ap (λ o. cond (v == x) (Some (length old)) o) (c.self.invariant x)
    ∙ (sym (among_more old v x (new_one c)) ∙ ap (place_among x) (sym (pushed c))))))

pub returns-clause-place : goal.returns-clause-place
returns-clause-place c =
    let old = c.self.inside.seen.items in
    let count : c.len-place.result ≡ length old = omega (arith, c.len-place.ensures, c.self.inside.seen.ok.0) in
    count ∙ (sym (last_place old c.args.variable (new_one c)) ∙ ap (λ ns. place_of ns c.args.variable) (sym (pushed c)))
