use Rattle.std.proofs.Common.{◌∙◌, ◌∷◌, [], List, sym, subst}
use Rattle.std.specs.Prelude.{codes}
use Rattle.au_term.specs.Term.{Term}
use Rattle.au_model.specs.Terms.ErrorTerms.{type_error}
use Rattle.run_model.specs.Goals.BuiltinAnswers.{Answer}
use Rattle.run_model.specs.Goals.AtomGoals.{below_zero, is_not_below_zero, is_open_atom, is_open_integer, with_each}
use Rattle.run_model.specs.Goals.AtomParts.{PartArguments, found_parts_answer, sub_atom_answer}
use Rattle.std_builtins.specs.Answers.{IsAnswer}
use Rattle.std_builtins.proofs.CheckLemmas.{refused}
use Rattle.au_term.proofs.SubtermLemmas.{atom_of_top}
use Rattle.std_builtins.proofs.sub_atom.sub_atom.Goals as goal

abbrev numbers : PartArguments → List Term
numbers asked = asked.before ∷ asked.length ∷ asked.after ∷ []

-- what waits for the second test, and for the third
abbrev after_text : PartArguments → Answer → Answer
after_text asked a = with_each is_open_integer (type_error (codes "integer")) (numbers asked) (with_each is_not_below_zero below_zero (numbers asked) a)

abbrev after_types : PartArguments → Answer → Answer
after_types asked a = with_each is_not_below_zero below_zero (numbers asked) a

pub returns-in_err-check_all-in-Atom : goal.returns-in_err-check_all-in-Atom
returns-in_err-check_all-in-Atom c =
    let asked : PartArguments = record { before = c.args.before.now; length = c.args.length.now; after = c.args.after.now; text = c.args.text.now } in
    let due = found_parts_answer asked c.in-Atom.name in
    let s = c.from_residual.result in
    subst (λ t. IsAnswer (sub_atom_answer t asked) s) (sym (atom_of_top c.args.atom.now c.in-Atom.name (sym c.top.ensures ∙ c.in-Atom.is)))
    (refused (with_each is_open_atom (type_error (codes "atom")) (asked.text ∷ []) (after_text asked due)) (after_text asked due) c.check_all.result c.in_err-check_all-in-Atom.field-0.0 s (c.check_all.ensures (after_text asked due)) c.in_err-check_all-in-Atom.was c.from_residual.ensures.1)

pub returns-in_err-check_all-in-Atom-2 : goal.returns-in_err-check_all-in-Atom-2
returns-in_err-check_all-in-Atom-2 c =
    let asked : PartArguments = record { before = c.args.before.now; length = c.args.length.now; after = c.args.after.now; text = c.args.text.now } in
    let due = found_parts_answer asked c.in-Atom.name in
    let s = c.from_residual-in_err-check_all-in-Atom-2.result in
    subst (λ t. IsAnswer (sub_atom_answer t asked) s) (sym (atom_of_top c.args.atom.now c.in-Atom.name (sym c.top.ensures ∙ c.in-Atom.is)))
    (subst (λ a. IsAnswer a s) (sym (c.in_ok-check_all-in-Atom.ensures (after_text asked due)))
    (refused (after_text asked due) (after_types asked due) c.check_all-in-Atom.result c.in_err-check_all-in-Atom-2.field-0.0 s (c.check_all-in-Atom.ensures (after_types asked due)) c.in_err-check_all-in-Atom-2.was c.from_residual-in_err-check_all-in-Atom-2.ensures.1))

pub returns-in_err-check_all-in-Atom-3 : goal.returns-in_err-check_all-in-Atom-3
returns-in_err-check_all-in-Atom-3 c =
    let asked : PartArguments = record { before = c.args.before.now; length = c.args.length.now; after = c.args.after.now; text = c.args.text.now } in
    let due = found_parts_answer asked c.in-Atom.name in
    let s = c.from_residual-in_err-check_all-in-Atom-3.result in
    subst (λ t. IsAnswer (sub_atom_answer t asked) s) (sym (atom_of_top c.args.atom.now c.in-Atom.name (sym c.top.ensures ∙ c.in-Atom.is)))
    (subst (λ a. IsAnswer a s) (sym (c.in_ok-check_all-in-Atom.ensures (after_text asked due)))
    (subst (λ a. IsAnswer a s) (sym (c.in_ok-check_all-in-Atom-2.ensures (after_types asked due)))
    (refused (after_types asked due) due c.check_all-in-Atom-2.result c.in_err-check_all-in-Atom-3.field-0.0 s (c.check_all-in-Atom-2.ensures due) c.in_err-check_all-in-Atom-3.was c.from_residual-in_err-check_all-in-Atom-3.ensures.1)))
