use Rattle.std.proofs.Common.{◌∙◌, sym, ap}
use Rattle.clause_index.specs.Classes.{can_match}
use Rattle.clause_index.specs.Numbers.{numbers}
use Rattle.clause_index.proofs.CursorLemmas.{all_left, all_there, keyed_left, keyed_there}
use Rattle.clause_index.proofs.index.ClauseIndex.candidates_among.Goals as goal

pub returns-in-None-clause-numbers : goal.returns-in-None-clause-numbers
returns-in-None-clause-numbers c =
    let heads = c.args.self.now in
    all_left heads c.args.name c.args.arity _ c.requires.all ∙ ap (λ k. numbers (can_match c.args.name c.args.arity k) heads) (sym c.in-None.is)

pub returns-in-None-clause-cursor : goal.returns-in-None-clause-cursor
returns-in-None-clause-cursor c = all_there c.args.self.now c.args.name c.args.arity _ c.requires.all

pub returns-in-Some-clause-numbers : goal.returns-in-Some-clause-numbers
returns-in-Some-clause-numbers c =
    let heads = c.args.self.now in
    keyed_left heads c.args.name c.args.arity c.in-Some.key _ _ c.requires.without_key c.first_with_key.ensures ∙ ap (λ k. numbers (can_match c.args.name c.args.arity k) heads) (sym c.in-Some.is)

pub returns-in-Some-clause-cursor : goal.returns-in-Some-clause-cursor
returns-in-Some-clause-cursor c = keyed_there c.args.self.now c.args.name c.args.arity c.in-Some.key _ _ c.requires.without_key c.first_with_key.ensures
