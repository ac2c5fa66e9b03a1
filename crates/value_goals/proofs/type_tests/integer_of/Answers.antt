use Rattle.std.proofs.Common.{false, refl, sym}
use Rattle.run_model.specs.Goals.TermTests.{is_integer}
use Rattle.value_goals.proofs.TopLemmas.{told}
use Rattle.value_goals.proofs.type_tests.integer_of.Goals as goal

pub returns-in_default : goal.returns-in_default
returns-in_default c = sym (told c.args.store.now is_integer false c.args.value c.dereference.result c.dereference.ensures (λ v e. refl) (λ z e. absurd (c.in_default.not-Int z e)) (λ a name e. refl) (λ at base f ts e. refl))
