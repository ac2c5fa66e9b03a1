use Rattle.std.proofs.Common.{◌∷◌, [], List, refl}
use Rattle.std.specs.Prelude.{codes}
use Rattle.std.specs.Str.{chars}
use Rattle.std_builtins.specs.Rows.{Row}
use Rattle.std_builtins.specs.declared.type_tests.TypeTest.TheVariants as type
use Rattle.std_builtins.specs.declared.comparisons.Comparison.TheVariants as sign
use Rattle.std_builtins.specs.declared.spelling.Spelling.TheVariants as by
use Rattle.std_builtins.specs.declared.table.Builtin.TheVariants as goal
use Rattle.std_builtins.proofs.RowLemmas.{found_builtin}
use Rattle.std_builtins.proofs.table.builtin_of.Goals as goals

-- the rows, read
abbrev rows : List Row
rows =
    (codes "=", 2, goal.Unify) ∷ (codes "\\=", 2, goal.Differ) ∷ (codes "unify_with_occurs_check", 2, goal.Unify) ∷ (codes "var", 1, goal.Type type.Variable) ∷ (codes "nonvar", 1, goal.Type type.Nonvariable) ∷ (codes "atom", 1, goal.Type type.Atom) ∷ (codes "integer", 1, goal.Type type.Integer) ∷ (codes "number", 1, goal.Type type.Integer) ∷ (codes "atomic", 1, goal.Type type.Atomic) ∷ (codes "compound", 1, goal.Type type.Compound) ∷ (codes "callable", 1, goal.Type type.Callable) ∷ (codes "ground", 1, goal.Type type.Ground) ∷ (codes "==", 2, goal.Order sign.Equal) ∷ (codes "\\==", 2, goal.Order sign.NotEqual) ∷ (codes "@<", 2, goal.Order sign.Less) ∷ (codes "@=<", 2, goal.Order sign.AtMost) ∷ (codes "@>", 2, goal.Order sign.Greater) ∷ (codes "@>=", 2, goal.Order sign.AtLeast) ∷ (codes "compare", 3, goal.Compare) ∷ (codes "is", 2, goal.Is) ∷ (codes "=:=", 2, goal.Value sign.Equal) ∷ (codes "=\\=", 2, goal.Value sign.NotEqual) ∷ (codes "<", 2, goal.Value sign.Less) ∷ (codes "=<", 2, goal.Value sign.AtMost) ∷ (codes ">", 2, goal.Value sign.Greater) ∷ (codes ">=", 2, goal.Value sign.AtLeast) ∷ (codes "functor", 3, goal.Functor) ∷ (codes "arg", 3, goal.Argument) ∷ (codes "=..", 2, goal.Parts) ∷ (codes "copy_term", 2, goal.Copy) ∷ (codes "atom_length", 2, goal.AtomLength) ∷ (codes "char_code", 2, goal.CharCode) ∷ (codes "atom_chars", 2, goal.AtomText by.Characters) ∷ (codes "atom_codes", 2, goal.AtomText by.Codes) ∷ (codes "atom_concat", 3, goal.AtomConcat) ∷ (codes "sub_atom", 5, goal.SubAtom) ∷ (codes "number_chars", 2, goal.NumberText by.Characters) ∷ (codes "number_codes", 2, goal.NumberText by.Codes) ∷ (codes "sort", 2, goal.Sort) ∷ (codes "keysort", 2, goal.KeySort) ∷ []

pub returns : goals.returns
unfolding chars
returns c = found_builtin (chars c.args.name.now) c.args.arity rows c.builtin_among.result c.builtin_among.ensures refl
    (refl, (refl, (refl, (refl, (refl, (refl, (refl, (refl, (refl, (refl, (refl, (refl, (refl, (refl, (refl, (refl, (refl, (refl, (refl, (refl, (refl, (refl, (refl, (refl, (refl, (refl, (refl, (refl, (refl, (refl, (refl, (refl, (refl, (refl, (refl, (refl, (refl, (refl, (refl, (refl, tt))))))))))))))))))))))))))))))))))))))))
