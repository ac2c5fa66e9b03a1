use Rattle.std.proofs.Common.{true, false, refl, inl, inr}
use Rattle.run_model.specs.Goals.TermTests.{is_atomic}
use Rattle.value_goals.proofs.TopLemmas.{told}
use Rattle.value_goals.proofs.type_tests.is_atomic.Goals as goal

pub returns-in-Int : goal.returns-in-Int
returns-in-Int c = told c.args.store.now is_atomic true c.args.value c.dereference.result c.dereference.ensures (λ v e. absurd (elim c.in-Int.is [ inl h ↦ cc | inr h ↦ cc ])) (λ z e. refl) (λ a name e. refl) (λ at base f ts e. absurd (elim c.in-Int.is [ inl h ↦ cc | inr h ↦ cc ]))

pub returns-in_default : goal.returns-in_default
returns-in_default c = told c.args.store.now is_atomic false c.args.value c.dereference.result c.dereference.ensures (λ v e. refl) (λ z e. absurd (c.in_default.not-Int z e)) (λ a name e. absurd (c.in_default.not-Atom a e)) (λ at base f ts e. refl)
