use Rattle.std.proofs.Common.{◌≡◌, refl, ◌∷◌, [], ◌++◌, length, take, reverse, ap, ◌∙◌, arith}
use Rattle.std.proofs.lemmas.Result.{on_ok_weaker}
use Rattle.clause_compile.specs.Places.{compound_place}
use Rattle.clause_compile.proofs.CodeLemmas.{still_sound, compound_added, taken_back}
use Rattle.clause_compile.proofs.code.Code.push_compound.Goals as goal

pub invariant_of-self-in-Err : goal.invariant_of-self-in-Err
invariant_of-self-in-Err c =
    taken_back c.self.inside.names c.number.new.self c.self.inside.places.items c.args.self.now c.args.name.now c.in_ok-number.number c.args.count c.args.stack.now.items c.self.view_is c.self.invariant c.in_ok-number.ensures.ok c.requires.stand c.requires.enough
    c.push_block.new.places.items c.truncate.new.self.items c.len-at.result c.push_block.ensures.grown (omega (arith, c.len-at.ensures, c.self.inside.places.ok.0)) c.truncate.ensures.items

pub invariant_of-self-in_default : goal.invariant_of-self-in_default
invariant_of-self-in_default c =
    still_sound c.self.inside.names c.number.new.self c.self.inside.places.items c.args.self.now c.args.name.now c.in_ok-number.number c.args.count c.args.stack.now.items c.self.view_is c.self.invariant c.in_ok-number.ensures.ok c.requires.stand c.requires.enough
    c.requires.arity c.push_block.new.places.items c.in_default.ensures.block

pub returns : goal.returns
returns c =
    let args = take c.args.count (reverse c.args.stack.now.items) in
    let left = c.push_block.new.stack.items in
    let at : c.len-at.result ≡ length c.self.inside.places.items = omega (arith, c.len-at.ensures, c.self.inside.places.ok.0) in
    let place : c.compound_place-place.result ≡ compound_place (length c.self.inside.places.items) args
    = c.compound_place-place.ensures ∙ (ap (λ ps. compound_place c.len-at.result (take c.args.count (reverse ps))) c.deref.ensures.value ∙ ap (λ i. compound_place i args) at) in
    on_ok_weaker c.put.result (λ (h : c.put.new.stack.items ≡ left ++ c.compound_place-place.result ∷ []).
    compound_added c.self.inside.names c.number.new.self c.self.inside.places.items c.args.self.now c.args.name.now c.in_ok-number.number c.args.count c.args.stack.now.items c.self.view_is c.self.invariant c.in_ok-number.ensures.ok c.requires.stand c.requires.enough
    (record { names = c.number.new.self; places = c.push_block.new.places.items }) c.push_block.new.places.items left c.put.new.stack.items refl c.in_default.ensures.block c.in_default.ensures.left
    (h ∙ ap (λ p. left ++ p ∷ []) place)) c.put.ensures
