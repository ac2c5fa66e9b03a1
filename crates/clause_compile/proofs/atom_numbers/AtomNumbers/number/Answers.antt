use Rattle.std.proofs.Common.{◌≡◌, None, ◌∙◌, sym, subst}
use Rattle.clause_compile.specs.AtomNumbers.{IsNumbered, number_of_name}
use Rattle.clause_compile.proofs.AtomNumberLemmas.{numbered_before}
use Rattle.clause_compile.proofs.atom_numbers.AtomNumbers.number.Goals as goal

pub returns-in-Some-clause-ok : goal.returns-in-Some-clause-ok
returns-in-Some-clause-ok c =
    subst (λ ns. IsNumbered ns ns c.args.name.now c.in-Some.number.now) c.self.view_is (numbered_before c.self.inside.names.items c.self.inside.numbers c.args.name.now c.in-Some.number.now c.self.invariant (sym c.in-Some.ensures.value))

pub add-requires : goal.add-requires
add-requires c = subst (λ ns. number_of_name ns c.args.name.now ≡ None) c.self.view_is (sym (c.self.invariant.found c.args.name.now) ∙ sym c.in-None.ensures.value)
