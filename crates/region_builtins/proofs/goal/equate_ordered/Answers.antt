use Rattle.std.proofs.Common.{ap, ◌∙◌}
use Rattle.std.proofs.lemmas.Result.{IfOk-weaker}
use Rattle.au_term.specs.Term.{AtomTerm}
use Rattle.au_model.specs.Terms.Substitutions.{resolve}
use Rattle.region_builtins.proofs.CopiedLemmas.{place_still, means_still, equal_after}
use Rattle.region_builtins.proofs.goal.equate_ordered.Goals as goal

pub equate-requires-clause-left : goal.equate-requires-clause-left
equate-requires-clause-left c = (c.in_ok-symbol.ensures.text.values c.args.value c.requires.value).0

pub equate-requires-clause-place : goal.equate-requires-clause-place
equate-requires-clause-place c = place_still c.args.region.now c.copy_in.new.self c.args.place c.requires.place c.in_ok-symbol.ensures.text c.in_ok-symbol.ensures.stays

pub returns-clause-comes : goal.returns-clause-comes
returns-clause-comes c =
    let r = c.args.region.now in
    let r1 = c.copy_in.new.self in
    IfOk-weaker c.equate.result _ _ (λ after k. equal_after r r1 c.args.place c.requires.place c.in_ok-symbol.ensures.text c.in_ok-symbol.ensures.stays c.equate.new.region _ _ _ _ after
    (means_still r r1 c.args.place c.requires.place c.in_ok-symbol.ensures.text c.in_ok-symbol.ensures.stays c.args.value c.requires.value)
    (ap (resolve r1.store.now.bound) (c.in_ok-symbol.ensures.term ∙ (c.in_ok-term.ensures ∙ (c.in_ok-atom.ensures ∙ ap AtomTerm c.symbol_of.ensures.text)))) k)
    c.equate.ensures.comes
