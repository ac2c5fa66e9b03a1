-- Clauses told apart by their first arguments.
use Rattle.std.specs.Prelude.{Bool, true, false, ◌&&◌, ◌==◌, List, filter}
use Rattle.std.specs.Ordering.{int_eq}
use Rattle.au_term.specs.Term.{Term, VarTerm, IntTerm, AtomTerm, Compound, Terms, end, more, count, arguments}
use Rattle.au_term.specs.declared.cell.Cell.{Cell}
use Rattle.au_term.specs.declared.cell.Cell.TheVariants.{Var as VarCell, Int as IntCell, Atom as AtomCell, Functor as FunctorCell}
use Rattle.au_model.specs.Terms.Forms.{same_name}
use Rattle.run_model.specs.Programs.Clauses.{Clause as ClauseTerms}
use Rattle.proc_index.specs.declared.key.Key.{Key}
use Rattle.proc_index.specs.declared.key.Key.TheVariants.{Any, Int, Atom, Functor}

-- a term is a variable or has the key
abbrev pub has_key : Key → Term → Bool
has_key Any t = true
has_key (Int z) (VarTerm n) = true
has_key (Int z) (IntTerm y) = int_eq z y
has_key (Int z) (AtomTerm b) = false
has_key (Int z) (Compound g ts) = false
has_key (Atom a) (VarTerm n) = true
has_key (Atom a) (IntTerm y) = false
has_key (Atom a) (AtomTerm b) = same_name a b
has_key (Atom a) (Compound g ts) = false
has_key (Functor f n) (VarTerm m) = true
has_key (Functor f n) (IntTerm y) = false
has_key (Functor f n) (AtomTerm b) = false
has_key (Functor f n) (Compound g ts) = same_name f g && n == count ts

abbrev pub first_has : Key → Terms → Bool
first_has key end = true
first_has key (more t ts) = has_key key t

-- a head's first argument has the key or is a variable; a head without arguments is told apart by none
abbrev pub may_match : Key → Term → Bool
may_match key head = first_has key (arguments head)

-- the clauses that may match, in their order
abbrev pub matching : Key → List ClauseTerms → List ClauseTerms
matching key clauses = filter (λ c. may_match key c.head) clauses

-- the key of a term, by its first cell; a variable may be anything
abbrev pub cell_key : Cell → Key
cell_key (VarCell n) = Any
cell_key (IntCell z) = Int z
cell_key (AtomCell a) = Atom a
cell_key (FunctorCell f n) = Functor f n

abbrev pub key_of : Term → Key
key_of (VarTerm n) = Any
key_of (IntTerm z) = Int z
key_of (AtomTerm a) = Atom a
key_of (Compound f ts) = Functor f (count ts)

abbrev pub first_key_of : Terms → Key
first_key_of end = Any
first_key_of (more t ts) = key_of t

-- the key of a head's first argument
abbrev pub head_key : Term → Key
head_key head = first_key_of (arguments head)

abbrev pub is_any : Key → Bool
is_any Any = true
is_any (Int z) = false
is_any (Atom a) = false
is_any (Functor f n) = false

-- two keys are the same, and neither stands for all
abbrev pub same_key : Key → Key → Bool
same_key Any k = false
same_key (Int z) (Int y) = int_eq z y
same_key (Atom a) (Atom b) = same_name a b
same_key (Functor f n) (Functor g m) = same_name f g && n == m
same_key _ _ = false
