-- Terms that are tested one after another.
use Rattle.std.specs.Prelude.{◌≡◌, ◌==◌, ◌&&◌, Bool, false, List, Result, Ok, Err, Vec, codes}
use Rattle.std.specs.Global.{Global}
use Rattle.au_term.specs.Term.{Term}
use Rattle.au_term.specs.declared.cell.Cell.{Cell}
use Rattle.au_term.specs.declared.cell.Cell.TheVariants.{Var as VarCell, Int as IntCell, Atom as AtomCell, Functor}
use Rattle.au_term.specs.declared.flat.FlatTerm.{FlatTerm}
use Rattle.au_model.specs.Terms.Forms.{same_name}
use Rattle.au_model.specs.Terms.Faults.{error_term_of}
use Rattle.au_model.specs.Terms.ErrorTerms.{instantiation_error, type_error}
use Rattle.run_model.specs.Goals.BuiltinAnswers.{Answer}
use Rattle.run_model.specs.Goals.TermTests.{is_integer}
use Rattle.run_model.specs.Goals.AtomGoals.{is_bound, is_open_atom, is_open_integer, is_not_below_zero, below_zero}
use Rattle.run_model.specs.Goals.Sorting.{is_pair_term, no_pair}
use Rattle.std_builtins.specs.declared.answer.BuiltinRefusal.{BuiltinRefusal}
use Rattle.std_builtins.specs.declared.answer.BuiltinRefusal.TheVariants.{Fault, NoMemory}
use Rattle.std_builtins.specs.declared.checks.Check.{Check}
use Rattle.std_builtins.specs.declared.checks.Check.TheVariants as check

abbrev pub check_test : Check → Term → Bool
check_test check.Bound t = is_bound t
check_test check.Integer t = is_integer t
check_test check.OpenAtom t = is_open_atom t
check_test check.OpenInteger t = is_open_integer t
check_test check.NotBelowZero t = is_not_below_zero t
check_test check.Pair t = is_pair_term t

abbrev pub check_error : Check → Term → Term
check_error check.Bound t = instantiation_error
check_error check.Integer t = type_error (codes "integer") t
check_error check.OpenAtom t = type_error (codes "atom") t
check_error check.OpenInteger t = type_error (codes "integer") t
check_error check.NotBelowZero t = below_zero t
check_error check.Pair t = no_pair t

-- the first cell of K-V
abbrev pub opens_key_pair : Cell → Bool
opens_key_pair (VarCell n) = false
opens_key_pair (IntCell z) = false
opens_key_pair (AtomCell a) = false
opens_key_pair (Functor f n) = (n == 2) && same_name f (codes "-")

-- an answer that waits is due, or is an error
abbrev pub IsPassed : Answer → Answer → Result (Unit {0}) BuiltinRefusal → Type 0
IsPassed waiting a (Ok u) = waiting ≡ a
IsPassed waiting a (Err (Fault fault)) = waiting ≡ Err (error_term_of fault)
IsPassed waiting a (Err NoMemory) = Unit {0}

-- an answer that waits for the items of a list has them, or is an error
abbrev pub AreItemsFor : Answer → (List Term → Answer) → Result (Vec FlatTerm Global) BuiltinRefusal → Type 0
AreItemsFor waiting answer (Ok items) = waiting ≡ answer items.items
AreItemsFor waiting answer (Err (Fault fault)) = waiting ≡ Err (error_term_of fault)
AreItemsFor waiting answer (Err NoMemory) = Unit {0}
