use Rattle.std.proofs.Common.{true, false, refl, inl, inr}
use Rattle.au_model.specs.Terms.Forms.{is_callable}
use Rattle.value_goals.proofs.TopLemmas.{told}
use Rattle.value_goals.proofs.type_tests.is_callable.Goals as goal

pub returns-in-Atom : goal.returns-in-Atom
returns-in-Atom c = told c.args.store.now is_callable true c.args.value c.dereference.result c.dereference.ensures (λ v e. absurd (elim c.in-Atom.is [ inl h ↦ cc | inr h ↦ cc ])) (λ z e. absurd (elim c.in-Atom.is [ inl h ↦ cc | inr h ↦ cc ])) (λ a name e. refl) (λ at base f ts e. refl)

pub returns-in_default : goal.returns-in_default
returns-in_default c = told c.args.store.now is_callable false c.args.value c.dereference.result c.dereference.ensures (λ v e. refl) (λ z e. refl) (λ a name e. absurd (c.in_default.not-Atom a e)) (λ at base f ts e. absurd (c.in_default.not-Compound at base e))
