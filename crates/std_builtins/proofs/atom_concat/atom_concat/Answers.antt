use Rattle.std.proofs.Common.{◌≡◌, ◌∙◌, ◌∷◌, ◌&&◌, ◌||◌, [], false, sym}
use Rattle.std.specs.Prelude.{codes}
use Rattle.au_model.specs.Terms.ErrorTerms.{type_error}
use Rattle.run_model.specs.Goals.AtomGoals.{is_open_atom, with_each}
use Rattle.run_model.specs.Goals.AtomParts.{concat_answer}
use Rattle.run_model.specs.Goals.TermTests.{is_variable}
use Rattle.std_builtins.proofs.CheckLemmas.{refused}
use Rattle.std_builtins.proofs.atom_concat.atom_concat.Goals as goal

pub returns-in_err-check_all : goal.returns-in_err-check_all
returns-in_err-check_all c =
    let a = c.args.first.now in
    let b = c.args.second.now in
    let w = c.args.whole.now in
    let due = concat_answer a b w in
    let waiting = with_each is_open_atom (type_error (codes "atom")) (a ∷ b ∷ w ∷ []) due in
    let no : (is_variable w && (is_variable a || is_variable b)) ≡ false = sym c.is_undetermined.ensures ∙ c.if-is_undetermined.false in
    rw no (refused waiting due c.check_all.result c.in_err-check_all.field-0.0 c.from_residual.result (c.check_all.ensures due) c.in_err-check_all.was c.from_residual.ensures.1)
