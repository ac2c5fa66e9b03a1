use Rattle.std.proofs.Common.{true, false, refl}
use Rattle.run_model.specs.Goals.TermTests.{is_atom}
use Rattle.value_goals.proofs.TopLemmas.{told}
use Rattle.value_goals.proofs.type_tests.is_atom.Goals as goal

pub returns-in-Atom : goal.returns-in-Atom
returns-in-Atom c = told c.args.store.now is_atom true c.args.value c.dereference.result c.dereference.ensures (λ v e. absurd cc) (λ z e. absurd cc) (λ a name e. refl) (λ at base f ts e. absurd cc)

pub returns-in_default : goal.returns-in_default
returns-in_default c = told c.args.store.now is_atom false c.args.value c.dereference.result c.dereference.ensures (λ v e. refl) (λ z e. refl) (λ a name e. absurd (c.in_default.not-Atom a e)) (λ at base f ts e. refl)
