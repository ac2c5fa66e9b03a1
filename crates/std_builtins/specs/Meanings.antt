-- What the cases of the code mean.
use Rattle.std.specs.Prelude.{ℕ, Bool, not, ℤ, int_lt, int_le}
use Rattle.std.specs.declared.cmp.Ordering.{Ordering}
use Rattle.std.specs.Ordering.{int_eq, is_eq, is_ne, is_lt, is_le, is_gt, is_ge}
use Rattle.au_term.specs.Term.{Term, Terms, term_at}
use Rattle.au_model.specs.Terms.Forms.{is_callable}
use Rattle.run_model.specs.Goals.BuiltinAnswers.{Answer, equal, holds_if}
use Rattle.run_model.specs.Goals.ArithmeticGoals.{is_answer, comparison_answer}
use Rattle.run_model.specs.Goals.StandardOrder.{order}
use Rattle.run_model.specs.Goals.TermTests.{is_variable, is_integer, is_atom, is_compound, is_atomic, is_ground, compare_answer}
use Rattle.run_model.specs.Goals.TermParts.{functor_answer, argument_answer, parts_answer, copy_answer}
use Rattle.run_model.specs.Goals.UnificationGoals.{apart_answer}
use Rattle.run_model.specs.Goals.AtomGoals.{CharacterList, ByCharacters, ByCodes, atom_length_answer, char_code_answer, spelling_answer}
use Rattle.run_model.specs.Goals.AtomParts.{atom_concat_answer, sub_atom_answer}
use Rattle.run_model.specs.Goals.NumberTexts.{number_text_answer}
use Rattle.run_model.specs.Goals.Sorting.{sort_answer, keysort_answer}
use Rattle.std_builtins.specs.declared.type_tests.TypeTest.{TypeTest}
use Rattle.std_builtins.specs.declared.type_tests.TypeTest.TheVariants as type
use Rattle.std_builtins.specs.declared.comparisons.Comparison.{Comparison}
use Rattle.std_builtins.specs.declared.comparisons.Comparison.TheVariants as sign
use Rattle.std_builtins.specs.declared.spelling.Spelling.{Spelling as SpellingCode}
use Rattle.std_builtins.specs.declared.spelling.Spelling.TheVariants as by
use Rattle.std_builtins.specs.declared.table.Builtin.{Builtin}
use Rattle.std_builtins.specs.declared.table.Builtin.TheVariants as goal

abbrev pub type_test : TypeTest → Term → Bool
type_test type.Variable t = is_variable t
type_test type.Nonvariable t = not (is_variable t)
type_test type.Atom t = is_atom t
type_test type.Integer t = is_integer t
type_test type.Atomic t = is_atomic t
type_test type.Compound t = is_compound t
type_test type.Callable t = is_callable t
type_test type.Ground t = is_ground t

-- of the places of two terms in the standard order
abbrev pub order_test : Comparison → Ordering → Bool
order_test sign.Equal o = is_eq o
order_test sign.NotEqual o = is_ne o
order_test sign.Less o = is_lt o
order_test sign.AtMost o = is_le o
order_test sign.Greater o = is_gt o
order_test sign.AtLeast o = is_ge o

-- of two values
abbrev pub value_test : Comparison → ℤ → ℤ → Bool
value_test sign.Equal y z = int_eq y z
value_test sign.NotEqual y z = not (int_eq y z)
value_test sign.Less y z = int_lt y z
value_test sign.AtMost y z = int_le y z
value_test sign.Greater y z = int_lt z y
value_test sign.AtLeast y z = int_le z y

abbrev pub spelling_meant : SpellingCode → CharacterList
spelling_meant by.Characters = ByCharacters
spelling_meant by.Codes = ByCodes

-- the answer of a goal with these arguments at a next number
abbrev pub answer_of : Builtin → Terms → ℕ → Answer
answer_of goal.Unify ts next = equal (term_at 0 ts) (term_at 1 ts)
answer_of goal.Differ ts next = apart_answer (term_at 0 ts) (term_at 1 ts)
answer_of (goal.Type test) ts next = holds_if (type_test test (term_at 0 ts))
answer_of (goal.Order test) ts next = holds_if (order_test test (order (term_at 0 ts) (term_at 1 ts)))
answer_of goal.Compare ts next = compare_answer (term_at 0 ts) (term_at 1 ts) (term_at 2 ts)
answer_of goal.Is ts next = is_answer (term_at 0 ts) (term_at 1 ts)
answer_of (goal.Value test) ts next = comparison_answer (value_test test) (term_at 0 ts) (term_at 1 ts)
answer_of goal.Functor ts next = functor_answer (term_at 0 ts) (term_at 1 ts) (term_at 2 ts) next
answer_of goal.Argument ts next = argument_answer (term_at 0 ts) (term_at 1 ts) (term_at 2 ts)
answer_of goal.Parts ts next = parts_answer (term_at 0 ts) (term_at 1 ts)
answer_of goal.Copy ts next = copy_answer (term_at 0 ts) (term_at 1 ts) next
answer_of goal.AtomLength ts next = atom_length_answer (term_at 0 ts) (term_at 1 ts)
answer_of goal.CharCode ts next = char_code_answer (term_at 0 ts) (term_at 1 ts)
answer_of (goal.AtomText s) ts next = spelling_answer (spelling_meant s) (term_at 0 ts) (term_at 1 ts)
answer_of goal.AtomConcat ts next = atom_concat_answer (term_at 0 ts) (term_at 1 ts) (term_at 2 ts)
answer_of goal.SubAtom ts next = sub_atom_answer (term_at 0 ts) (record { before = term_at 1 ts; length = term_at 2 ts; after = term_at 3 ts; text = term_at 4 ts })
answer_of goal.Sort ts next = sort_answer (term_at 0 ts) (term_at 1 ts)
answer_of goal.KeySort ts next = keysort_answer (term_at 0 ts) (term_at 1 ts)
answer_of (goal.NumberText s) ts next = number_text_answer (spelling_meant s) (term_at 0 ts) (term_at 1 ts)

abbrev pub arguments_of : Builtin → ℕ
arguments_of goal.Unify = 2
arguments_of goal.Differ = 2
arguments_of (goal.Type test) = 1
arguments_of (goal.Order test) = 2
arguments_of goal.Compare = 3
arguments_of goal.Is = 2
arguments_of (goal.Value test) = 2
arguments_of goal.Functor = 3
arguments_of goal.Argument = 3
arguments_of goal.Parts = 2
arguments_of goal.Copy = 2
arguments_of goal.AtomLength = 2
arguments_of goal.CharCode = 2
arguments_of (goal.AtomText s) = 2
arguments_of (goal.NumberText s) = 2
arguments_of goal.AtomConcat = 3
arguments_of goal.SubAtom = 5
arguments_of goal.Sort = 2
arguments_of goal.KeySort = 2
