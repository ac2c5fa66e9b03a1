-- What the first cell of a body says of it.
use Rattle.std.specs.Prelude.{Bool, true, false, not, ◌&&◌, ◌==◌, codes}
use Rattle.au_term.specs.declared.cell.Cell.{Cell}
use Rattle.au_term.specs.declared.cell.Cell.TheVariants.{Var as VarCell, Int as IntCell, Atom as AtomCell, Functor}
use Rattle.au_model.specs.Terms.Forms.{same_name}
use Rattle.run_model.specs.Programs.Bodies.{is_junction}

-- goals are due on both sides
abbrev pub opens_junction : Cell → Bool
opens_junction (VarCell n) = false
opens_junction (IntCell z) = false
opens_junction (AtomCell a) = false
opens_junction (Functor f n) = (n == 2) && is_junction f

abbrev pub opens_conjunction : Cell → Bool
opens_conjunction (VarCell n) = false
opens_conjunction (IntCell z) = false
opens_conjunction (AtomCell a) = false
opens_conjunction (Functor f n) = (n == 2) && same_name f (codes ",")

-- a goal without further goals in it
abbrev pub opens_plain_goal : Cell → Bool
opens_plain_goal (VarCell n) = false
opens_plain_goal (IntCell z) = false
opens_plain_goal (AtomCell a) = true
opens_plain_goal (Functor f n) = not ((n == 2) && is_junction f)

-- the atom `true`
abbrev pub is_true : Cell → Bool
is_true (VarCell n) = false
is_true (IntCell z) = false
is_true (AtomCell a) = same_name a (codes "true")
is_true (Functor f n) = false
