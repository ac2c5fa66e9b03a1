use Rattle.std.proofs.Common.{true, false, refl}
use Rattle.run_model.specs.Goals.TermTests.{is_compound}
use Rattle.value_goals.proofs.TopLemmas.{told}
use Rattle.value_goals.proofs.type_tests.is_compound.Goals as goal

pub returns-in-Compound : goal.returns-in-Compound
returns-in-Compound c = told c.args.store.now is_compound true c.args.value c.dereference.result c.dereference.ensures (λ v e. absurd cc) (λ z e. absurd cc) (λ a name e. absurd cc) (λ at base f ts e. refl)

pub returns-in_default : goal.returns-in_default
returns-in_default c = told c.args.store.now is_compound false c.args.value c.dereference.result c.dereference.ensures (λ v e. refl) (λ z e. refl) (λ a name e. refl) (λ at base f ts e. absurd (c.in_default.not-Compound at base e))
