use Rattle.std.proofs.Common.{true, false, refl}
use Rattle.run_model.specs.Goals.TermTests.{is_variable}
use Rattle.value_goals.proofs.TopLemmas.{told}
use Rattle.value_goals.proofs.type_tests.is_variable.Goals as goal

pub returns-in-Var : goal.returns-in-Var
returns-in-Var c = told c.args.store.now is_variable true c.args.value c.dereference.result c.dereference.ensures (λ v e. refl) (λ z e. absurd cc) (λ a name e. absurd cc) (λ at base f ts e. absurd cc)

pub returns-in_default : goal.returns-in_default
returns-in_default c = told c.args.store.now is_variable false c.args.value c.dereference.result c.dereference.ensures (λ v e. absurd (c.in_default.not-Var v e)) (λ z e. refl) (λ a name e. refl) (λ at base f ts e. refl)
