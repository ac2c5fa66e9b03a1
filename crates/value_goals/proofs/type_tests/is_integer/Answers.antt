use Rattle.std.proofs.Common.{true, false, refl}
use Rattle.run_model.specs.Goals.TermTests.{is_integer}
use Rattle.value_goals.proofs.TopLemmas.{told}
use Rattle.value_goals.proofs.type_tests.is_integer.Goals as goal

pub returns-in-Int : goal.returns-in-Int
returns-in-Int c = told c.args.store.now is_integer true c.args.value c.dereference.result c.dereference.ensures (λ v e. absurd cc) (λ z e. refl) (λ a name e. absurd cc) (λ at base f ts e. absurd cc)

pub returns-in_default : goal.returns-in_default
returns-in_default c = told c.args.store.now is_integer false c.args.value c.dereference.result c.dereference.ensures (λ v e. refl) (λ z e. absurd (c.in_default.not-Int z e)) (λ a name e. refl) (λ at base f ts e. refl)
